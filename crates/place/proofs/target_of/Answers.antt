-- `place::target_of` meets its contract. Assumes nothing.
use mathlib.Core.Path.{refl, sym, ◌∙◌}
use Rattle.place.proofs.Targets.{found_target}
use Rattle.place.proofs.target_of.Goals as goal

pub returns-in-Some : goal.returns-in-Some
returns-in-Some c =
    found_target _ _ (sym c.find_dc.ensures ∙ c.in-Some.is) c.target_at.ensures

pub returns-in-None : goal.returns-in-None
returns-in-None c =
    found_target _ _ (sym c.find_dc.ensures ∙ c.in-None.is) refl
