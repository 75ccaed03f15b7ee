-- The join of two boxes holds what either holds, and joins the smallest boxes of two regions. Assumes nothing.
use mathlib.Core.Bool.{Bool, true, false, ◌||◌}
use mathlib.Core.Path.{◌≡◌, refl}
use Prim.Native.Nat.{ℕ, ◌-◌, ◌<◌, min, max}
use native.Mathlib.Decide.{dec_lt}
use native.Mathlib.Omega.{arith, min_cases, max_cases}
use borrow.Author.Tests.{ne_eqb}
use Rattle.hull.specs.declared.Bounds.{Bounds}
use Rattle.hull.specs.Hull.{corners, nowhere}
use Rattle.hull.specs.Inner.{union, join}
use Rattle.hull.specs.Smallest.{Pixel, Holds, HoldsAll, Touched, Smallest, none, some}
use Rattle.hull.proofs.Smallest.{pixel_as, touched_as}

-- four zeros is neutral
pub join_nowhere : (b : Bounds) → join nowhere b ≡ b
unfolding join
join_nowhere b = refl

pub nowhere_join : (b : Bounds) → 0 < b.right → join b nowhere ≡ b
unfolding join
nowhere_join b lt = rw (ne_eqb b.right 0 (λ e. omega arith))

-- two boxes with pixels
abbrev pub spanned : Bounds → Bounds → Bounds
spanned a b = corners (min a.left b.left) (min a.top b.top) (max a.right b.right) (max a.bottom b.bottom)

pub join_both : (a b : Bounds) → 0 < a.right → 0 < b.right → join a b ≡ spanned a b
unfolding join
join_both a b p q = rw (ne_eqb a.right 0 (λ e. omega arith), ne_eqb b.right 0 (λ e. omega arith))

-- the join holds what either box holds
module _ (a b : Bounds) {c r : ℕ} where
  pub join_first : Holds a c r → Holds (join a b) c r
  unfolding join
  join_first i = by (dec_lt 0 b.right)
    where
      by : Dec (0 < b.right) → Holds (join a b) c r
      by (yes lt) = rw (join_both a b (omega arith) lt) (omega arith)
      by (no ge) = let e : b.right ≡ 0 = omega arith in rw (ne_eqb a.right 0 (λ f. omega arith), e) i

  pub join_second : Holds b c r → Holds (join a b) c r
  unfolding join
  join_second i = by (dec_lt 0 a.right)
    where
      by : Dec (0 < a.right) → Holds (join a b) c r
      by (yes lt) = rw (join_both a b lt (omega arith)) (omega arith)
      by (no ge) = let e : a.right ≡ 0 = omega arith in rw e i

-- one of two numbers is the smaller, one the larger
pub of_min : (P : ℕ → Type 0) (a b : ℕ) → P a → P b → P (min a b)
of_min P a b x y = min_cases a b (P (min a b)) (λ l e. rw e x) (λ l e. rw e y)

pub of_max : (P : ℕ → Type 0) (a b : ℕ) → P a → P b → P (max a b)
of_max P a b x y = max_cases a b (P (max a b)) (λ l e. rw e y) (λ l e. rw e x)

-- a box with a pixel
some_right : {region : ℕ → ℕ → Bool} {w h : ℕ} {b : Bounds} → HoldsAll region w h b → Touched region w h b → 0 < b.right
some_right {b = b} all t = omega (arith, (all.at b.left t.on_left.0 t.on_left.1).to_right)

module _ (p q : ℕ → ℕ → Bool) (w h : ℕ) where
  first_drawn : (c r : ℕ) → Pixel p w h c r → union p q c r ≡ true
  first_drawn c r x = rw x.drawn

  second_drawn : (c r : ℕ) → Pixel q w h c r → union p q c r ≡ true
  second_drawn c r x = rw x.drawn (or_true (p c r))
    where
      or_true : (t : Bool) → (t || true) ≡ true
      or_true true = refl
      or_true false = refl

  of_either : (G : Type 0) {c r : ℕ} → Pixel (union p q) w h c r → (Pixel p w h c r → G) → (Pixel q w h c r → G) → G
  of_either G {c} {r} x f g = by (p c r) refl
    where
      by : (t : Bool) → p c r ≡ t → G
      by true e = f (pixel_as x e)
      by false e = g (pixel_as x (rw e at x.drawn))

  abbrev InColumn : ℕ → Type 0
  InColumn c = (r : ℕ) × Pixel (union p q) w h c r

  abbrev InRow : ℕ → Type 0
  InRow r = (c : ℕ) × Pixel (union p q) w h c r

  spanned_touched : {a b : Bounds} → Touched p w h a → Touched q w h b → Touched (union p q) w h (spanned a b)
  spanned_touched {a} {b} s t =
      let u = touched_as first_drawn s in
      let v = touched_as second_drawn t in
      record {
        on_left = of_min InColumn a.left b.left u.on_left v.on_left;
        on_top = of_min InRow a.top b.top u.on_top v.on_top;
        on_right = of_max (λ n. InColumn (n - 1)) a.right b.right u.on_right v.on_right;
        on_bottom = of_max (λ n. InRow (n - 1)) a.bottom b.bottom u.on_bottom v.on_bottom;
      }

  pub join_smallest : {a b : Bounds} → Smallest p w h a → Smallest q w h b → Smallest (union p q) w h (join a b)
  join_smallest (none v e) (none u f) = rw (e, f, join_nowhere nowhere) (none (λ c r x. of_either ⊥ x (v c r) (u c r)) refl)
  join_smallest {a} {b} (none v e) (some all t) =
      rw (e, join_nowhere b)
      (some (record { at = λ c r x. of_either (Holds b c r) x (λ y. absurd (v c r y)) (all.at c r) }) (touched_as second_drawn t))
  join_smallest {a} {b} (some all t) (none v e) =
      rw (e, nowhere_join a (some_right all t))
      (some (record { at = λ c r x. of_either (Holds a c r) x (all.at c r) (λ y. absurd (v c r y)) }) (touched_as first_drawn t))
  join_smallest {a} {b} (some all s) (some all' t) =
      rw (join_both a b (some_right all s) (some_right all' t))
      (some
      (record { at = λ c r x. of_either (Holds (spanned a b) c r) x (λ y. let i = all.at c r y in omega arith) (λ y. let i = all'.at c r y in omega arith) })
      (spanned_touched s t))
