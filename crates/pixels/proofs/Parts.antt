-- The cases of a DC's place, and its pixels as a part of one memory. Assumes nothing.
use Rattle.std.specs.Prelude.{Result, Err}
use mathlib.Core.List.{List, []}
use mathlib.Core.Path.{◌≡◌, sym, ◌∙◌, ap, subst}
use Prim.Native.Nat.{ℕ, ◌+◌, ◌-◌, ◌*◌, ◌≤◌}
use native.Mathlib.Omega.{arith}
use lib.ListN.{length}
use borrow.Author.Tests.{ne_eqb}
use denote.Ref.{Bor}
use Rattle.words.specs.Parts.{part}
use Rattle.gdi.specs.declared.Dc.{Dc}
use Rattle.gdi.specs.Record.{size}
use Rattle.numbers.specs.View.{view}
use Rattle.ready.specs.Ready.{common_refusal_on}
use Rattle.ready.proofs.Ready.{lent}
use Rattle.place.specs.declared.Memory.{Memory}
use Rattle.place.specs.declared.Memory.TheVariants.{Panel, Store}
use Rattle.place.specs.declared.Place.{Place}
use Rattle.place.specs.declared.Place.TheVariants.{Nowhere, At}
use Rattle.place.specs.declared.Site.{Site}
use Rattle.place.specs.declared.SurfaceId.{SurfaceId}
use Rattle.place.specs.declared.NoTarget.{NoTarget}
use Rattle.place.specs.declared.Target.{Target}
use Rattle.place.specs.declared.NoTarget.TheVariants.{NoDc, NoSurface}
use Rattle.place.specs.Place.{target_of, length_of, Inside, Within, on}
use Rattle.place.proofs.Places.{few_pixels}
use Rattle.place.proofs.Targets.{target_placed}
use Rattle.paint.specs.Memories.{memories, memory_of, pixels_at}
use Rattle.pixels.specs.Pixels.{place_on, place_of, pixels_of, pointer_at, Found}

-- where a DC's pixels lie, from the number of the refusal and the DC's target
module _ (l : List ℕ) (n k dc : ℕ) {no₀ : ℕ} (e : no₀ ≡ common_refusal_on l n k) where
  pub refused : (no₀ ≡ 0 → ⊥) → Found l n k dc Nowhere
  unfolding place_of
  refused ne = record { same = rw (← e, ne_eqb _ _ ne); within = tt }

  module _ (z : no₀ ≡ 0) {t : Result Target NoTarget} (f : t ≡ target_of (view l) dc) where
    on_target_lem : (u : Result Target NoTarget) → t ≡ u → place_on u ≡ place_of l n k dc
    unfolding place_of
    on_target_lem u g = rw (← e, z) (ap place_on (sym g ∙ f))

    pub no_target : (why : NoTarget) → t ≡ Err why → Found l n k dc Nowhere
    no_target NoDc g = record { same = on_target_lem (Err NoDc) g; within = tt }
    no_target NoSurface g = record { same = on_target_lem (Err NoSurface) g; within = tt }

    pub found : {s : SurfaceId} {i : Site} {d : Dc} → t ≡ on s i d → Found l n k dc i.at
    found {s} {i} {d} g =
        let q = (lent l n k no₀ e z).ready in
        let w = target_placed (view l) q.sound dc f g in
        record { same = on_target_lem (on s i d) g; within = rw (q.panel, q.store) w.within }

-- a place that was found is inside its memory
module _ {l : List ℕ} {n k dc : ℕ} {at : Place} (f : Found l n k dc at) {m : Memory} {p w h : ℕ} (e : at ≡ At m p w h) where
  inside : Inside (length_of n k m) p w h
  inside = subst (Within n k) e f.within

  pub area : w * h ≤ 16777216
  area = few_pixels inside

  pub panel_fits : m ≡ Panel → p + size w h ≤ n
  panel_fits g = subst (λ (v : Memory). p + size w h ≤ length_of n k v) g inside.fits

  pub store_fits : m ≡ Store → p + size w h ≤ k
  store_fits g = subst (λ (v : Memory). p + size w h ≤ length_of n k v) g inside.fits

-- these bytes are the DC's pixels, and this is where they lie in the two lent memories
abbrev Lies : (panel store : Bor (List ℕ)) (l : List ℕ) (dc : ℕ) → List ℕ → ℕ × ℕ → Type 0
Lies panel store l dc bytes pointer =
    (bytes ≡ pixels_of l (memories panel.now store.now) dc)
    × (pointer ≡ pointer_at panel.ref_ptr store.ref_ptr (place_of l (length panel.now) (length store.now) dc))

-- the cases of a place that was found
module _ (panel store : Bor (List ℕ)) {l : List ℕ} {dc : ℕ} {at : Place} (f : Found l (length panel.now) (length store.now) dc at) where
  lies_at : (u : Place) → at ≡ u → Lies panel store l dc (pixels_at (memories panel.now store.now) u) (pointer_at panel.ref_ptr store.ref_ptr u)
  lies_at u e = (ap (pixels_at (memories panel.now store.now)) (sym e ∙ f.same), ap (pointer_at panel.ref_ptr store.ref_ptr) (sym e ∙ f.same))

  pub no_pixels : at ≡ Nowhere → Lies panel store l dc [] (panel.ref_ptr.0, 0 + panel.ref_ptr.1)
  no_pixels e =
      let z : 0 + panel.ref_ptr.1 ≡ panel.ref_ptr.1 = omega arith in
      let i = lies_at Nowhere e in
      (i.0, ap {B = ℕ × ℕ} (λ x. (panel.ref_ptr.0, x)) z ∙ i.1)

  module _ {m : Memory} {p w h : ℕ} (e : at ≡ At m p w h) where
    -- a part from p to its end has the place's size
    lies_in : (v : Memory) → m ≡ v → Lies panel store l dc (part (memory_of (memories panel.now store.now) v) p (p + size w h - p)) (pointer_at panel.ref_ptr store.ref_ptr (At v p w h))
    lies_in v g =
        let z : p + size w h - p ≡ size w h = omega arith in
        let i = lies_at (At v p w h) (e ∙ ap (λ (x : Memory). At x p w h) g) in
        (ap (part (memory_of (memories panel.now store.now) v) p) z ∙ i.0, i.1)

    pub panel_part : m ≡ Panel → Lies panel store l dc (part panel.now p (p + size w h - p)) (panel.ref_ptr.0, p + panel.ref_ptr.1)
    panel_part g = lies_in Panel g

    pub store_part : m ≡ Store → Lies panel store l dc (part store.now p (p + size w h - p)) (store.ref_ptr.0, p + store.ref_ptr.1)
    store_part g = lies_in Store g
