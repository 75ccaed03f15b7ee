-- `line_to::line_to` meets its contract. Assumes nothing.
use mathlib.Core.Path.{refl, sym, ◌∙◌}
use Rattle.place.specs.declared.NoTarget.TheVariants.{NoDc}
use Rattle.numbers.specs.View.{view}
use Rattle.place.proofs.Targets.{found_target}
use Rattle.plan.proofs.Followed.{refusal}
use Rattle.draw.proofs.Targeted.{no_target}
use Rattle.line_to.proofs.Moves.{line_on_lem}
use Rattle.line_to.proofs.line_to.Goals as goal

pub draw_from-requires : goal.draw_from-requires
draw_from-requires c =
    record {
      lent = c.requires;
      dc_value = sym c.find_dc.ensures ∙ c.in-Some.is;
    }

pub returns : goal.returns
returns c = c.draw_from.ensures

pub returns-in_default : goal.returns-in_default
returns-in_default c =
    let b = view c.args.numbers.now in
    refusal c.requires.is_record_lem (no_target (line_on_lem b c.args.dc c.args.to) (found_target b c.args.dc (sym c.find_dc.ensures ∙ c.in_default.is) refl) NoDc refl)
