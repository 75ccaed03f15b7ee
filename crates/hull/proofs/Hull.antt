-- Laws of the hull, once for every region. Assumes nothing.
use mathlib.Core.Bool.{Bool, true, false, ◌||◌, true≢false}
use mathlib.Core.Logic.{◌↔◌, ◌⊎◌, inl, inr}
use mathlib.Core.Path.{◌≡◌, refl, sym, ◌∙◌}
use Prim.Native.Nat.{ℕ, ◌≤◌, ◌<◌}
use native.Mathlib.Omega.{arith}
use borrow.Author.Tests.{lt-ltb}
use Rattle.arithmetic.proofs.Test.{same_test}
use Rattle.hull.specs.declared.Bounds.{Bounds}
use Rattle.hull.specs.Hull.{nowhere, hull}
use Rattle.hull.specs.Inner.{holds_any, union, join}
use Rattle.hull.specs.Smallest.{Pixel, Holds, HoldsAll, Touched, Smallest, none, some}
use Rattle.hull.proofs.Smallest.{pixel_as, touched_as, touched_within, hull_smallest, is_hull}
use Rattle.hull.proofs.Union.{join_smallest}

-- no pixel lies in four zeros
not_nowhere : {c r : ℕ} → Holds nowhere c r → ⊥
not_nowhere p = omega arith

module _ (region : ℕ → ℕ → Bool) (w h : ℕ) where
  -- the hull holds every pixel
  pub hull_holds : HoldsAll region w h (hull region w h)
  hull_holds = by (hull_smallest region w h)
    where
      by : Smallest region w h (hull region w h) → HoldsAll region w h (hull region w h)
      by (none void e) = record { at = λ c r p. absurd (void c r p) }
      by (some all t) = all

  -- what lies in the hull lies in every box that holds all pixels
  pub hull_least : (b : Bounds) → HoldsAll region w h b → (c r : ℕ) → Holds (hull region w h) c r → Holds b c r
  hull_least b all c r p = by (hull_smallest region w h)
    where
      by : Smallest region w h (hull region w h) → Holds b c r
      by (none void e) = absurd (not_nowhere (rw e at p))
      by (some all' t) = let i = touched_within (hull region w h) b t all in omega arith

  -- a pixel lies on each side of the hull of a region that has one
  pub hull_touched : {c r : ℕ} → Pixel region w h c r → Touched region w h (hull region w h)
  hull_touched {c} {r} p = by (hull_smallest region w h)
    where
      by : Smallest region w h (hull region w h) → Touched region w h (hull region w h)
      by (none void e) = absurd (void c r p)
      by (some all t) = t

  -- the hull is four zeros just if there is no pixel
  pub hull_empty : (hull region w h ≡ nowhere) ↔ ((c r : ℕ) → Pixel region w h c r → ⊥)
  hull_empty = ((λ e c r p. not_nowhere (rw e at (hull_holds.at c r p))), (λ void. sym (is_hull region w h (none void refl))))

  -- it is four zeros or has a column and a row, and lies on the surface
  pub hull_ordered : (hull region w h ≡ nowhere) ⊎ (((hull region w h).left < (hull region w h).right) × ((hull region w h).top < (hull region w h).bottom))
  hull_ordered = by (hull_smallest region w h)
    where
      by : Smallest region w h (hull region w h) → (hull region w h ≡ nowhere) ⊎ (((hull region w h).left < (hull region w h).right) × ((hull region w h).top < (hull region w h).bottom))
      by (none void e) = inl e
      by (some all t) =
          let a = all.at (hull region w h).left t.on_left.0 t.on_left.1 in
          inr (omega arith)

  pub hull_within : ((hull region w h).right ≤ w) × ((hull region w h).bottom ≤ h)
  hull_within = by (hull_smallest region w h)
    where
      by : Smallest region w h (hull region w h) → ((hull region w h).right ≤ w) × ((hull region w h).bottom ≤ h)
      by (none void e) = rw e (omega arith)
      by (some all t) = omega (arith, t.on_right.1.on_column, t.on_bottom.1.on_row)

  -- it holds a pixel exactly if the region has one
  pub hull_any : (any : Bool) → (any ≡ true → (c : ℕ) × ((r : ℕ) × Pixel region w h c r)) → ((c r : ℕ) → Pixel region w h c r → any ≡ true) → holds_any (hull region w h) ≡ any
  hull_any any to from = by (hull_smallest region w h)
    where
      by : Smallest region w h (hull region w h) → holds_any (hull region w h) ≡ any
      by (none void e) = rw e (same_test false any (λ f. absurd (true≢false (sym f))) (λ f. let p = to f in absurd (void p.0 p.1.0 p.1.1)))
      by (some all t) =
          let b = hull region w h in
          let i = all.at b.left t.on_left.0 t.on_left.1 in
          lt-ltb 0 b.right (omega arith) ∙ sym (from b.left t.on_left.0 t.on_left.1)

-- regions that are equal on the surface
pub hull_cong : (p q : ℕ → ℕ → Bool) (w h : ℕ) → ((c r : ℕ) → c < w → r < h → p c r ≡ q c r) → hull p w h ≡ hull q w h
hull_cong p q w h same = is_hull q w h (by (hull_smallest p w h))
  where
    from : {c r : ℕ} → Pixel q w h c r → Pixel p w h c r
    from {c} {r} x = pixel_as x (same c r x.on_column x.on_row ∙ x.drawn)

    by : Smallest p w h (hull p w h) → Smallest q w h (hull p w h)
    by (none void e) = none (λ c r x. void c r (from x)) e
    by (some all t) = some (record { at = λ c r x. all.at c r (from x) }) (touched_as (λ c r x. sym (same c r x.on_column x.on_row) ∙ x.drawn) t)

-- the hull of two regions
pub hull_or : (p q : ℕ → ℕ → Bool) (w h : ℕ) → hull (union p q) w h ≡ join (hull p w h) (hull q w h)
hull_or p q w h = sym (is_hull (union p q) w h (join_smallest p q w h (hull_smallest p w h) (hull_smallest q w h)))

-- pixels that are drawn already, as an outline round its interior
pub hull_again : (p q : ℕ → ℕ → Bool) (w h : ℕ) → ((c r : ℕ) → Pixel q w h c r → p c r ≡ true) → join (hull p w h) (hull q w h) ≡ hull p w h
hull_again p q w h drawn = sym (hull_or p q w h) ∙ hull_cong (union p q) p w h same
  where
    same : (c r : ℕ) → c < w → r < h → union p q c r ≡ p c r
    same c r s t = by (p c r) (q c r) refl refl
      where
        by : (x y : Bool) → p c r ≡ x → q c r ≡ y → (x || y) ≡ x
        by true y e f = refl
        by false true e f = sym (drawn c r (record { on_column = s; on_row = t; drawn = f })) ∙ e
        by false false e f = refl

-- a region that grows by a part: a loop's box stays the hull of what was drawn
pub hull_part
    : (old part new : ℕ → ℕ → Bool) (w h : ℕ) {a b : Bounds} → a ≡ hull old w h → b ≡ hull part w h
    → ((c r : ℕ) → c < w → r < h → new c r ≡ (part c r || old c r)) → join a b ≡ hull new w h
hull_part old part new w h e f same =
    rw (e, f) (sym (hull_or old part w h))
    ∙ hull_cong (union old part) new w h (λ c r p q. swap (old c r) (part c r) ∙ sym (same c r p q))
  where
    swap : (s t : Bool) → (s || t) ≡ (t || s)
    swap true true = refl
    swap true false = refl
    swap false true = refl
    swap false false = refl
