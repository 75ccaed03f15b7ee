-- `bitblt::blit` meets its contract. Assumes nothing.
use mathlib.Core.Bool.{not}
use mathlib.Core.Path.{refl, ap}
use Rattle.std.proofs.lemmas.Result.{err_from_is_err_and}
use Rattle.numbers.specs.View.{view}
use Rattle.place.specs.declared.Site.{Site}
use Rattle.place.proofs.Targets.{target_placed}
use Rattle.plan.proofs.Followed.{followed_as, refusal, strokes_followed}
use Rattle.draw.proofs.Drawings.{within_lent}
use Rattle.bitblt.proofs.Blits.{apart_found, blit_made, as_fill, refused, source_refused, accepted}
use Rattle.bitblt.proofs.blit.Goals as goal

pub returns-then-not-uses_src : goal.returns-then-not-uses_src
returns-then-not-uses_src c =
    followed_as (as_fill (view c.args.numbers.now) c.args.dc c.args.area c.args.src c.args.from c.args.rop c.uses_src.ensures (ap not c.if-not-uses_src.true)) c.pattern_fill.ensures

pub blit_at-due-requires : goal.blit_at-due-requires
blit_at-due-requires c =
    let v = target_placed _ c.requires.ready.sound _ c.target_of.ensures c.in_ok-target.was in
    let w = target_placed _ c.requires.ready.sound _ c.target_of-2.ensures c.in-Ok.is in
    record {
      within = (within_lent c.requires.ready v, within_lent c.requires.ready w);
      places_apart = apart_found v w;
    }

pub mark_dirty_if-requires : goal.mark_dirty_if-requires
mark_dirty_if-requires c =
    record {
      numbers_value = c.requires.is_record_lem;
      slot_value = ap (λ (i : Site). i.slot) (target_placed _ c.requires.ready.sound _ c.target_of.ensures c.in_ok-target.was).same;
    }

pub returns-in_err-target : goal.returns-in_err-target
returns-in_err-target c =
    let p = err_from_is_err_and c.from_residual.result c.from_residual.ensures.1 in
    rw (p.1, p.2) (refusal c.requires.is_record_lem (refused (view c.args.numbers.now) c.args.dc c.args.area c.args.src c.args.from c.args.rop c.uses_src.ensures (ap not c.if-not-uses_src.false) c.target_of.ensures _ c.in_err-target.was))

pub returns-in-Err : goal.returns-in-Err
returns-in-Err c =
    rw c.as_source.ensures (refusal c.requires.is_record_lem (source_refused (view c.args.numbers.now) c.args.dc c.args.area c.args.src c.args.from c.args.rop c.uses_src.ensures (ap not c.if-not-uses_src.false) c.target_of.ensures c.in_ok-target.was c.target_of-2.ensures _ c.in-Err.is))

pub returns : goal.returns
returns c =
    strokes_followed refl (accepted (view c.args.numbers.now) c.args.dc c.args.area c.args.src c.args.from c.args.rop c.uses_src.ensures (ap not c.if-not-uses_src.false) c.target_of.ensures c.in_ok-target.was c.target_of-2.ensures c.in-Ok.is)
    (blit_made (target_placed _ c.requires.ready.sound _ c.target_of.ensures c.in_ok-target.was) (target_placed _ c.requires.ready.sound _ c.target_of-2.ensures c.in-Ok.is)
    _ _ _ c.colorref_to_rgb565-pattern.ensures (c.blit_at-due.ensures.value, c.blit_at-due.ensures.bytes) c.mark_dirty_if.ensures)
