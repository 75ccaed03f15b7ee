-- The plan of a blit by its code and by both DCs' targets, and its stroke between two surfaces. Assumes nothing.
use Rattle.std.specs.Prelude.{Result, Err}
use mathlib.Core.Bool.{Bool, true, false, not}
use mathlib.Core.List.{List, [], ◌∷◌}
use mathlib.Core.Path.{◌≡◌, refl, ◌∙◌, ap, ap₂, subst}
use Prim.Native.Nat.{ℕ}
use borrow.Author.Tests.{not-true, not-false}
use Rattle.rop3.specs.Rop3.{table_of, uses_src}
use Rattle.gdi.specs.declared.Dc.{Dc}
use Rattle.gdi.specs.declared.GdiState.{GdiState}
use Rattle.numbers.specs.View.{view, Updated}
use Rattle.place.specs.declared.Place.{Place}
use Rattle.place.specs.declared.Site.{Site}
use Rattle.place.specs.declared.SurfaceId.{SurfaceId}
use Rattle.place.specs.declared.NoTarget.{NoTarget}
use Rattle.place.specs.declared.Target.{Target}
use Rattle.refusals.specs.Refusal.{code_of}
use Rattle.place.specs.Place.{where_is, target_of, on, refusal_of, source_refusal_of}
use Rattle.place.specs.Inner.{SiteFound}
use Rattle.dirty.specs.Dirty.{dirtied_if}
use Rattle.paint.specs.Memories.{Memories}
use Rattle.paint.specs.Paint.{painted_by, after}
use Rattle.plan.specs.declared.Area.{Area}
use Rattle.plan.specs.declared.Point.{Point}
use Rattle.plan.specs.Plan.{refuse}
use Rattle.plan.specs.Stroke.{dirtied_by, paints_of}
use Rattle.plan.specs.Drawing.{on_source, pattern_fill, blitted_at, blit_stroke, blit_on, blit}
use Rattle.plan.proofs.Followed.{StrokedOn}
use Rattle.transfer.specs.Inner.{PlacesApart, transferred}
use Rattle.transfer.proofs.PlacesApart.{places_apart}
use Rattle.draw.proofs.Targeted.{Targeted, no_target, painted, Sourced, no_source, from_source}

-- the two sites that were found
module _ {b : GdiState} {s q : SurfaceId} {i j : Site} (v : SiteFound b s i) (w : SiteFound b q j) where
  at_found : i.at ≡ where_is b s
  at_found = ap (λ (x : Site). x.at) v.same

  from_found : j.at ≡ where_is b q
  from_found = ap (λ (x : Site). x.at) w.same

  pub apart_found : PlacesApart i.at j.at
  apart_found = rw (at_found, from_found) (places_apart b s q)

-- the blit between them, with its mark, is the stroke in the colour k
pub blit_made : {l l' : List ℕ} {s q : SurfaceId} {i j : Site} → SiteFound (view l) s i → SiteFound (view l) q j → (a : Area) (p : Point) (table : ℕ) {c k : ℕ} {due : Bool} {ms ms' : Memories}
    → c ≡ k → (due ≡ blitted_at i.at j.at a p) × (ms' ≡ transferred i.at j.at a p table c ms) → Updated l (dirtied_if due s (view l)) l'
    → StrokedOn l (blit_stroke (view l) s q a p table k ∷ []) ms l' ms'
unfolding after painted_by dirtied_by paints_of
blit_made {l} {l'} {s} v w a p table {ms = ms} color (mark, new) marked =
    record {
      numbers = subst (λ (t : Bool). Updated l (dirtied_if t s (view l)) l') (mark ∙ ap₂ (λ (at from : Place). blitted_at at from a p) (at_found v w) (from_found v w)) marked;
      memories = new ∙ rw (color, at_found v w, from_found v w);
    }

module _ (b : GdiState) (dc : ℕ) (a : Area) (src : ℕ) (p : Point) (rop : ℕ) {t : Bool} (e : t ≡ uses_src (table_of rop)) where
  -- the code ignores the source
  pub as_fill : not t ≡ true → blit b dc a src p rop ≡ pattern_fill b dc a rop
  unfolding blit
  as_fill f = rw (← e, not-true t f)

  -- the code uses the source: the target is checked first
  module _ (f : not t ≡ false) {u : Result Target NoTarget} (g : u ≡ target_of b dc) where
    targeted : Targeted (blit b dc a src p rop) b dc (λ s d. on_source b (target_of b src) (blit_on b a p (table_of rop) s d))
    unfolding blit
    targeted = record { plan = rw (← e, not-false t f) }

    pub refused : (why : NoTarget) → u ≡ Err why → blit b dc a src p rop ≡ refuse (code_of (refusal_of why)) b
    refused = no_target targeted g

    -- then the source is checked
    module _ {s : SurfaceId} {i : Site} {d : Dc} (h : u ≡ on s i d) {v : Result Target NoTarget} (k : v ≡ target_of b src) where
      sourced : Sourced (on_source b (target_of b src) (blit_on b a p (table_of rop) s d)) b src (blit_on b a p (table_of rop) s d)
      sourced = record { plan = refl }

      pub source_refused : (why : NoTarget) → v ≡ Err why → blit b dc a src p rop ≡ refuse (code_of (source_refusal_of why)) b
      source_refused why l = painted targeted g h ∙ no_source sourced k why l

      pub accepted : {q : SurfaceId} {j : Site} {o : Dc} → v ≡ on q j o → blit b dc a src p rop ≡ blit_on b a p (table_of rop) s d q
      accepted l = painted targeted g h ∙ from_source sourced k l
