-- The cases of a blit between two places, by the memories in which they lie. Assumes nothing.
use mathlib.Core.Bool.{Bool, false}
use mathlib.Core.List.{List, []}
use mathlib.Core.Path.{◌≡◌, refl, sym, ◌∙◌, ap}
use Prim.Native.Nat.{ℕ}
use Rattle.words.specs.Parts.{part, with_part}
use Rattle.blit.specs.Blit.{marks}
use Rattle.gdi.specs.Record.{size}
use Rattle.place.specs.declared.Memory.{Memory}
use Rattle.place.specs.declared.Memory.TheVariants.{Panel, Store}
use Rattle.place.specs.declared.Place.{Place}
use Rattle.place.specs.declared.Place.TheVariants.{Nowhere, At}
use Rattle.place.specs.Place.{length_of, Inside, Within}
use Rattle.place.proofs.Places.{taken_apart}
use Rattle.plan.specs.declared.Area.{Area}
use Rattle.plan.specs.declared.Point.{Point}
use Rattle.paint.specs.Memories.{Memories, memories, memory_of, with_memory, over}
use Rattle.plan.specs.Drawing.{blitted_at}
use Rattle.transfer.specs.Inner.{SameOrApart, PlacesApart, blit_part, blit_numbers, transferred}
use Rattle.transfer.proofs.Drawn.{no_source, part_back}

module _ {at src : Place} {m r : Memory} {p w h q x y : ℕ} (e : at ≡ At m p w h) (f : src ≡ At r q x y) where
  pub both_inside : (n k : ℕ) → Within n k at × Within n k src → (u v : Memory) → m ≡ u → r ≡ v
      → Inside (length_of n k u) p w h × Inside (length_of n k v) q x y
  both_inside n k i u v g l = (taken_apart n k u i.0 e g, taken_apart n k v i.1 f l)

  pub side_panel : PlacesApart at src → m ≡ Panel → r ≡ Panel → SameOrApart p w h q x y
  side_panel b g l = rw (e, f, g, l) at b

  pub side_store : PlacesApart at src → m ≡ Store → r ≡ Store → SameOrApart p w h q x y
  side_store b g l = rw (e, f, g, l) at b

-- the blit was made as defined, and the answer says whether a mark is due
abbrev pub Made : (at src : Place) → Area → (from : Point) → (t c : ℕ) → Memories → (due : Bool) → Memories → Type 0
Made at src a z t c ms due ms' = (due ≡ blitted_at at src a z) × (ms' ≡ transferred at src a z t c ms)

module _ (ms : Memories) {at : Place} (src : Place) (a : Area) (z : Point) (t c : ℕ) where
  pub to_nowhere : at ≡ Nowhere → Made at src a z t c ms false ms
  to_nowhere e = rw e (refl, refl)

  module _ {m : Memory} {p w h : ℕ} (e : at ≡ At m p w h) where
    pub from_nowhere : src ≡ Nowhere → Made at src a z t c ms false ms
    from_nowhere f = rw (e, f) (refl, by m)
      where
        by : (u : Memory) → ms ≡ over (At u p w h) (blit_part a z t c [] 0 0 w) ms
        by Panel =
            ap (λ (l : List ℕ). memories l ms.store)
            (sym (part_back ms.panel p (size w h)) ∙ ap (with_part ms.panel p (size w h)) (no_source a z t c w (part ms.panel p (size w h))))
        by Store =
            ap (λ (l : List ℕ). memories ms.panel l)
            (sym (part_back ms.store p (size w h)) ∙ ap (with_part ms.store p (size w h)) (no_source a z t c w (part ms.store p (size w h))))

    -- the target lies in the memory u, the source in v
    module _ {r : Memory} {q x y : ℕ} (f : src ≡ At r q x y) (u v : Memory) (g : m ≡ u) (k : r ≡ v) where
      pub drawn : {due : Bool} {l : List ℕ} → (due ≡ marks (blit_numbers w h a z x y)) × (l ≡ with_part (memory_of ms u) p (size w h)
          (blit_part a z t c (part (memory_of ms v) q (size x y)) x y w (part (memory_of ms u) p (size w h))))
          → Made at src a z t c ms due (with_memory ms u l)
      drawn (mark, d) = rw (e, f, g, k) (mark, ap (with_memory ms u) d)
