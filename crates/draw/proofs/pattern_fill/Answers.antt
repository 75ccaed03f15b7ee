-- `draw::pattern_fill` meets its contract. Assumes nothing.
use mathlib.Core.List.{[]}
use mathlib.Core.Path.{refl}
use Rattle.std.proofs.lemmas.Result.{err_from_is_err_and}
use Rattle.numbers.specs.View.{view}
use Rattle.place.proofs.Targets.{target_placed}
use Rattle.canvas.specs.declared.Drawing.TheVariants.{Fill}
use Rattle.plan.proofs.Followed.{refusal, strokes_followed}
use Rattle.draw.proofs.Targeted.{no_target, painted}
use Rattle.draw.proofs.Drawings.{pattern_fill_on_lem, in_colour}
use Rattle.draw.proofs.pattern_fill.Goals as goal

pub draw-requires : goal.draw-requires
draw-requires c =
    record {
      lent = c.requires;
      site_found = target_placed _ c.requires.ready.sound _ c.target_of.ensures c.in_ok-target.was;
      drawable = tt;
    }

pub returns-in_err-target : goal.returns-in_err-target
returns-in_err-target c =
    let p = err_from_is_err_and c.from_residual.result c.from_residual.ensures.1 in
    rw (p.1, p.2) (refusal c.requires.is_record_lem (no_target (pattern_fill_on_lem (view c.args.numbers.now) c.args.dc c.args.area c.args.rop) c.target_of.ensures _ c.in_err-target.was))

pub returns : goal.returns
returns c =
    strokes_followed refl (painted (pattern_fill_on_lem (view c.args.numbers.now) c.args.dc c.args.area c.args.rop) c.target_of.ensures c.in_ok-target.was)
    (in_colour _ (Fill c.args.area c.args.rop) [] c.colorref_to_rgb565-pattern.ensures c.draw.ensures)
