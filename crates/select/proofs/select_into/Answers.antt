-- `select::select_into` meets its contract. Assumes nothing.
use mathlib.Core.Path.{refl, sym, ◌∙◌}
use Rattle.plan.proofs.Followed.{acceptance_record_only, acceptance_same}
use Rattle.select.proofs.Select.{select_other, select_no_dc, select_tied}
use Rattle.select.proofs.select_into.Goals as goal

-- no object to select
pub returns-in-Other : goal.returns-in-Other
returns-in-Other c =
    λ ms. acceptance_same c.requires.is_record_lem refl (select_other _ _ _ c.find_kind-k.ensures c.in-Other.is)

-- no DC
pub returns-in_default-find_dc : goal.returns-in_default-find_dc
returns-in_default-find_dc c =
    λ ms. acceptance_same c.requires.is_record_lem refl (select_no_dc _ _ _ c.find_kind-k.ensures c.in_default.not-Other (sym c.find_dc.ensures ∙ c.in_default-find_dc.is))

-- the object is selected into the DC
pub returns : goal.returns
returns c =
    λ ms. acceptance_record_only refl (select_tied _ _ _ c.find_kind-k.ensures c.in_default.not-Other (sym c.find_dc.ensures ∙ c.in-Some.is) c.selected.ensures c.select_in.ensures) c.update_dc.ensures
