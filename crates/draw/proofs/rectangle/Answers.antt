-- `draw::rectangle` meets its contract. Assumes nothing.
use mathlib.Core.List.{[]}
use mathlib.Core.Path.{refl}
use Rattle.std.proofs.lemmas.Result.{err_from_is_err_and}
use Rattle.numbers.specs.View.{view}
use Rattle.place.proofs.Targets.{target_placed}
use Rattle.canvas.specs.declared.Drawing.TheVariants.{Fill, Outline}
use Rattle.plan.proofs.Strokes.{stroked_still, stroked_ready, stroked_placed}
use Rattle.plan.proofs.Followed.{refusal, stroked_on, stroked_on_then, strokes_followed}
use Rattle.draw.proofs.Targeted.{no_target, painted}
use Rattle.draw.proofs.Drawings.{rectangle_on_lem, in_colour, in_place}
use borrow.Author.Rules.{rules}
use Rattle.draw.proofs.rectangle.Goals as goal

pub draw-requires : goal.draw-requires
draw-requires c =
    record {
      lent = c.requires;
      site_found = target_placed _ c.requires.ready.sound _ c.target_of.ensures c.in_ok-target.was;
      drawable = tt;
    }

pub draw-requires-2 : goal.draw-requires-2
draw-requires-2 c =
    record {
      lent = record { is_record_lem = c.draw.ensures.numbers.is_record_lem; ready = stroked_ready (stroked_on c.draw.ensures) (search rules) (search rules) c.requires.ready };
      site_found = stroked_placed (stroked_on c.draw.ensures) (target_placed _ c.requires.ready.sound _ c.target_of.ensures c.in_ok-target.was);
      drawable = tt;
    }

pub returns-in_err-target : goal.returns-in_err-target
returns-in_err-target c =
    let p = err_from_is_err_and c.from_residual.result c.from_residual.ensures.1 in
    rw (p.1, p.2) (refusal c.requires.is_record_lem (no_target (rectangle_on_lem (view c.args.numbers.now) c.args.dc c.args.area) c.target_of.ensures _ c.in_err-target.was))

pub returns : goal.returns
returns c =
    strokes_followed refl (painted (rectangle_on_lem (view c.args.numbers.now) c.args.dc c.args.area) c.target_of.ensures c.in_ok-target.was)
    (stroked_on_then (in_colour _ (Fill c.args.area 0x00F0_0021) [] c.colorref_to_rgb565-brush.ensures c.draw.ensures)
    (in_place _ (Outline c.args.area) [] (stroked_still (stroked_on c.draw.ensures))
    (in_colour _ (Outline c.args.area) [] c.colorref_to_rgb565-pen.ensures c.draw-2.ensures)))
