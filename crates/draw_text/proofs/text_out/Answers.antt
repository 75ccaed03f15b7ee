-- `draw_text::text_out` meets its contract. Assumes nothing.
use mathlib.Core.Path.{refl}
use Rattle.std.proofs.lemmas.Result.{err_from_is_err_and}
use Rattle.numbers.specs.View.{view}
use Rattle.place.proofs.Targets.{target_placed}
use Rattle.canvas.specs.declared.Drawing.TheVariants.{Text}
use Rattle.plan.proofs.Followed.{refusal, strokes_followed}
use Rattle.draw.proofs.Targeted.{no_target}
use Rattle.draw.proofs.Drawings.{text_on_lem, too_many, few_enough, in_colour}
use borrow.Author.Rules.{rules}
use Rattle.draw_text.proofs.text_out.Goals as goal

pub returns-then-count-gt-MAX_UNITS : goal.returns-then-count-gt-MAX_UNITS
returns-then-count-gt-MAX_UNITS c =
    refusal c.requires.is_record_lem (too_many (view c.args.numbers.now) c.args.units.now c.args.dc c.args.at c.target_of.ensures c.in_ok-target.was c.unit_count-count.ensures.0 c.if-count-gt-MAX_UNITS.true)

pub draw-requires : goal.draw-requires
draw-requires c =
    record {
      lent = c.requires;
      site_found = target_placed _ c.requires.ready.sound _ c.target_of.ensures c.in_ok-target.was;
      drawable = (search rules, search rules);
    }

pub returns-in_err-target : goal.returns-in_err-target
returns-in_err-target c =
    let p = err_from_is_err_and c.from_residual.result c.from_residual.ensures.1 in
    rw (p.1, p.2) (refusal c.requires.is_record_lem (no_target (text_on_lem (view c.args.numbers.now) c.args.units.now c.args.dc c.args.at) c.target_of.ensures _ c.in_err-target.was))

pub returns : goal.returns
returns c =
    strokes_followed refl (few_enough (view c.args.numbers.now) c.args.units.now c.args.dc c.args.at c.target_of.ensures c.in_ok-target.was c.unit_count-count.ensures.0 c.if-count-gt-MAX_UNITS.false)
    (in_colour _ (Text c.args.at c.unit_count-count.result) c.args.units.now c.colorref_to_rgb565-ink.ensures c.draw.ensures)
