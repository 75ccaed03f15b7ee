-- Laws of intervals. Assumes nothing.
use mathlib.Core.Bool.{Bool, true, false, true≢false}
use mathlib.Core.Path.{◌≡◌, refl, sym, ◌∙◌}
use Prim.Native.Nat.{ℕ, ◌≤◌, ◌<◌}
use native.Mathlib.Omega.{arith}
use lib.Dec.{leb, ltb}
use borrow.Author.Tests.{leb-true, leb-false, ltb-true, ltb-false}
use Rattle.arithmetic.specs.Interval.{between}

-- where j lies
pub data Lies (a b j : ℕ) : Type 0 where
  inside : between a b j ≡ true → a ≤ j → j < b → Lies a b j
  before : between a b j ≡ false → j < a → Lies a b j
  behind : between a b j ≡ false → b ≤ j → Lies a b j

pub where_is_lem : (a b j : ℕ) → Lies a b j
where_is_lem a b j = by (leb a j) (ltb j b) refl refl
  where
    by : (s t : Bool) → leb a j ≡ s → ltb j b ≡ t → Lies a b j
    by true true e f = inside (rw (e, f)) (leb-true a j e) (ltb-true j b f)
    by true false e f = behind (rw (e, f)) (ltb-false j b f)
    by false t e f = before (rw e) (leb-false a j e)

pub between_yes : (a b j : ℕ) → a ≤ j → j < b → between a b j ≡ true
between_yes a b j h k = by (where_is_lem a b j)
  where
    by : Lies a b j → between a b j ≡ true
    by (inside e f g) = e
    by (before e f) = absurd (omega arith)
    by (behind e f) = absurd (omega arith)

pub between_no : (a b j : ℕ) → ((a ≤ j) → (j < b) → ⊥) → between a b j ≡ false
between_no a b j h = by (where_is_lem a b j)
  where
    by : Lies a b j → between a b j ≡ false
    by (inside e f g) = absurd (h f g)
    by (before e f) = e
    by (behind e f) = e

-- the bounds of a number inside
pub bounds : (a b j : ℕ) → between a b j ≡ true → (a ≤ j) × (j < b)
bounds a b j e = by (where_is_lem a b j)
  where
    by : Lies a b j → (a ≤ j) × (j < b)
    by (inside f h k) = (h, k)
    by (before f h) = absurd (true≢false (sym e ∙ f))
    by (behind f h) = absurd (true≢false (sym e ∙ f))

-- two equivalent tests
pub between_cong : (a b j a' b' j' : ℕ) → (a ≤ j → j < b → (a' ≤ j') × (j' < b')) → (a' ≤ j' → j' < b' → (a ≤ j) × (j < b)) → between a b j ≡ between a' b' j'
between_cong a b j a' b' j' f g = by (where_is_lem a b j)
  where
    by : Lies a b j → between a b j ≡ between a' b' j'
    by (inside e h k) = e ∙ sym (between_yes a' b' j' (f h k).0 (f h k).1)
    by (before e h) = e ∙ sym (between_no a' b' j' (λ h' k'. let x = g h' k' in omega arith))
    by (behind e h) = e ∙ sym (between_no a' b' j' (λ h' k'. let x = g h' k' in omega arith))
