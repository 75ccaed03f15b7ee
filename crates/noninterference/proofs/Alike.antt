-- Every call keeps untainted pixels equal, by the shape of its plan. Assumes nothing.
use mathlib.Core.List.{List, [], ◌∷◌}
use mathlib.Core.Path.{sym, subst}
use Rattle.gdi.specs.declared.GdiState.{GdiState}
use Rattle.place.proofs.Same.{Still, still_then}
use Rattle.paint.specs.Memories.{Memories}
use Rattle.paint.specs.Paint.{Paint, after}
use Rattle.paint.specs.Taint.{Taint, tainted}
use Rattle.paint.proofs.Alike.{Alike, ReadyWith, same_places}
use Rattle.paint.proofs.Draws.{drawn_ready, draw_alike}
use Rattle.paint.proofs.Blanks.{blank_alike}
use Rattle.paint.proofs.Closed.{close_alike}
use Rattle.plan.specs.Plan.{Plan}
use Rattle.plan.specs.Stroke.{Stroke, paints_of}
use Rattle.plan.proofs.Strokes.{dirtied_by_still}
use Rattle.execution.proofs.Shape.{AllSourced, Blanking, last, before, Shape, record_only_lem, strokes, blanks, deletion}
use Rattle.execution.proofs.Steady.{range_fits, blanked_ready}

-- These paints, with the record b before and b' after, keep untainted pixels equal.
pub record KeepsAlike (b : GdiState) (ps : List Paint) (b' : GdiState) : Type 1 where
  pub alike : (m : Taint) (ms ns : Memories) → ReadyWith b ms → ReadyWith b ns → Alike b m ms ns → Alike b' (tainted ps m) (after b ps ms) (after b ps ns)

-- no paint, and every surface in its place
still_alike : {b b' : GdiState} → Still b b' → KeepsAlike b [] b'
unfolding after tainted
still_alike {b} {b'} s = record { alike = λ m ms ns lm ln like. same_places b b' s.places m ms ns like }

-- drawings
strokes_alike : {b b' : GdiState} (ss : List Stroke) → AllSourced b ss → Still b b' → KeepsAlike b (paints_of ss) b'
unfolding after tainted paints_of
strokes_alike [] i s = still_alike s
strokes_alike {b} (t ∷ ss) (i, is) s =
    let d = t.drawing in
    let k = strokes_alike ss is s in
    record { alike = λ m ms ns lm ln like. k.alike _ _ _ (drawn_ready b d ms lm) (drawn_ready b d ns ln) (draw_alike b d i m ms ns lm ln like) }

-- blanked bytes; a is the record with which the paints are carried out, which does not matter to them
blanking_alike : (a : GdiState) {b b' : GdiState} {ps : List Paint} → Blanking b b' ps
    → (m : Taint) (ms ns : Memories) → ReadyWith b ms → ReadyWith b ns → Alike b m ms ns → Alike b' (tainted ps m) (after a ps ms) (after a ps ns)
unfolding after tainted
blanking_alike a {b} {b'} (last k p n clears x) m ms ns lm ln like =
    blank_alike k p n clears b b' (x.surfaces lm.sound) a m ms ns (range_fits b ms lm k p n x.fits) (range_fits b ns ln k p n x.fits) like
blanking_alike a {b} {b'} (before {b₁ = b₁} k p n clears x y) m ms ns lm ln like =
    blanking_alike a y _ _ _ (blanked_ready a x ms lm).1.1 (blanked_ready a x ns ln).1.1
    (blank_alike k p n clears b b₁ (x.surfaces lm.sound) a m ms ns (range_fits b ms lm k p n x.fits) (range_fits b ns ln k p n x.fits) like)

pub shape_alike : {b : GdiState} {p : Plan} → Shape b p → KeepsAlike b p.paint p.outcome.state
shape_alike {b} {p} (record_only_lem u) = subst (λ (ps : List Paint). KeepsAlike b ps p.outcome.state) (sym u.paint) (still_alike u.still)
shape_alike {b} (strokes b' ss a t i) = strokes_alike ss i (still_then t (dirtied_by_still ss b'))
shape_alike {b} (blanks b' a ps x) = record { alike = blanking_alike b x }
shape_alike {b} (deletion gone none h i created found) = record { alike = close_alike b h i found created }
