-- The integers for `omega`: z is positive z - negative z, so a fact of integers is one of naturals, and most proofs need no
-- cases on a sign. Assumes nothing.
use mathlib.Core.Bool.{Bool, true, false, cond, true≢false}
use mathlib.Core.Path.{◌≡◌, refl, sym, ◌∙◌, ap}
use Prim.Native.Nat.{ℕ, zero, suc, ◌+◌, ◌-◌, ◌≤◌, ◌<◌, min}
use native.Mathlib.Omega.{arith}
use lib.Dec.{T, leb, ltb}
use lib.IntN.{ℤ, pos, negsuc, ◌+ℤ◌, ◌-ℤ◌, neg_ℤ, sub_ℕ, nat_abs}
use lib.Signed.{le_z, lt_z, non_neg}
use borrow.Author.Tests.{leb-true, leb-false, ltb-true, ltb-false, lt-leb, le-leb}
use Rattle.arithmetic.specs.Integer.{positive}
use Rattle.arithmetic.specs.Inner.{negative}
use Rattle.arithmetic.proofs.Test.{same_order}

-- z = p - n, and one of the two is 0
abbrev pub Difference : ℤ → ℕ → ℕ → Type 0
Difference z p n = (positive z + n ≡ p + negative z) × ((positive z ≤ p) × (negative z ≤ n))

of_naturals : (a b : ℕ) → Difference (sub_ℕ a b) a b
of_naturals a b = by (ltb a b) refl
  where
    by : (t : Bool) → ltb a b ≡ t → Difference (cond t (negsuc (b - suc a)) (pos (a - b))) a b
    by true e = omega (arith, ltb-true a b e)
    by false e = omega (arith, ltb-false a b e)

pub sum : (a b : ℤ) → Difference (a +ℤ b) (positive a + positive b) (negative a + negative b)
sum (pos a) (pos b) = omega arith
sum (pos a) (negsuc b) = omega (arith, of_naturals a (suc b))
sum (negsuc a) (pos b) = omega (arith, of_naturals b (suc a))
sum (negsuc a) (negsuc b) = omega arith

negated : (a : ℤ) → (positive (neg_ℤ a) ≡ negative a) × (negative (neg_ℤ a) ≡ positive a)
negated (pos zero) = (refl, refl)
negated (pos (suc n)) = (refl, refl)
negated (negsuc n) = (refl, refl)

pub difference : (a b : ℤ) → Difference (a -ℤ b) (positive a + negative b) (negative a + positive b)
difference a b = omega (arith, sum a (neg_ℤ b), negated b)

-- orders and equality, over the parts
pub le_parts : (a b : ℤ) → le_z a b ≡ leb (positive a + negative b) (positive b + negative a)
le_parts (pos a) (pos b) = same_order a b (a + 0) (b + 0) (λ h. omega arith) (λ h. omega arith)
le_parts (pos a) (negsuc b) = sym (lt-leb (a + suc b) (0 + 0) (omega arith))
le_parts (negsuc a) (pos b) = sym (le-leb (0 + 0) (b + suc a) (omega arith))
le_parts (negsuc a) (negsuc b) = same_order b a (0 + suc b) (0 + suc a) (λ h. omega arith) (λ h. omega arith)

pub lt_parts : (a b : ℤ) → lt_z a b ≡ ltb (positive a + negative b) (positive b + negative a)
lt_parts (pos a) (pos b) = same_order (suc a) b (suc (a + 0)) (b + 0) (λ h. omega arith) (λ h. omega arith)
lt_parts (pos a) (negsuc b) = sym (lt-leb (suc (a + suc b)) (0 + 0) (omega arith))
lt_parts (negsuc a) (pos b) = sym (le-leb (suc (0 + 0)) (b + suc a) (omega arith))
lt_parts (negsuc a) (negsuc b) = same_order (suc b) a (suc (0 + suc b)) (0 + suc a) (λ h. omega arith) (λ h. omega arith)

pub eq_parts : (a b : ℤ) → positive a + negative b ≡ positive b + negative a → a ≡ b
eq_parts (pos a) (pos b) h = ap pos (omega arith)
eq_parts (pos a) (negsuc b) h = absurd (omega arith)
eq_parts (negsuc a) (pos b) h = absurd (omega arith)
eq_parts (negsuc a) (negsuc b) h = ap negsuc (omega arith)

-- integers with equal differences, a - b = c - e, are in the same order
module _ (a b c e : ℤ) (same : positive a + negative b + (positive e + negative c) ≡ positive c + negative e + (positive b + negative a)) where
  pub le_moved : le_z a b ≡ le_z c e
  le_moved =
      le_parts a b
      ∙ same_order (positive a + negative b) (positive b + negative a) (positive c + negative e) (positive e + negative c) (λ h. omega arith) (λ h. omega arith)
      ∙ sym (le_parts c e)

  pub lt_moved : lt_z a b ≡ lt_z c e
  lt_moved =
      lt_parts a b
      ∙ same_order (suc (positive a + negative b)) (positive b + negative a) (suc (positive c + negative e)) (positive e + negative c) (λ h. omega arith) (λ h. omega arith)
      ∙ sym (lt_parts c e)

-- one of the two parts is 0
pub one_part : (z : ℤ) → min (positive z) (negative z) ≡ 0
one_part (pos n) = omega arith
one_part (negsuc n) = omega arith

-- the absolute value
pub abs_parts : (z : ℤ) → nat_abs z ≡ positive z + negative z
abs_parts (pos n) = omega arith
abs_parts (negsuc n) = omega arith

-- an integer that is not negative
pub abs_positive : (z : ℤ) → negative z ≡ 0 → nat_abs z ≡ positive z
abs_positive (pos n) h = refl
abs_positive (negsuc n) h = absurd (omega arith)

pub not_negative : (z : ℤ) → negative z ≡ 0 → T (non_neg z)
not_negative (pos n) h = tt
not_negative (negsuc n) h = absurd (omega arith)

-- the code's test against 0
pub tested_negative : (z : ℤ) → lt_z z (pos 0) ≡ true → positive z ≡ 0
tested_negative (pos n) e = let h : n < 0 = leb-true (suc n) 0 e in omega arith
tested_negative (negsuc n) e = refl

pub tested_positive : (z : ℤ) → lt_z z (pos 0) ≡ false → negative z ≡ 0
tested_positive (pos n) e = refl
tested_positive (negsuc n) e = absurd (true≢false e)

-- the code's test of an extent against 0
pub not_positive : (z : ℤ) → le_z z (pos 0) ≡ true → lt_z (pos 0) z ≡ false
not_positive (pos n) e = lt-leb 1 n (let h : n ≤ 0 = leb-true n 0 e in omega arith)
not_positive (negsuc n) e = refl

pub is_positive : (z : ℤ) → le_z z (pos 0) ≡ false → lt_z (pos 0) z ≡ true
is_positive (pos n) e = le-leb 1 n (let h : 0 < n = leb-false n 0 e in omega arith)
is_positive (negsuc n) e = absurd (true≢false e)

pub as_natural : (z : ℤ) → le_z z (pos 0) ≡ false → (z ≡ pos (positive z)) × (1 ≤ positive z)
as_natural (pos n) e = (refl, let h : 0 < n = leb-false n 0 e in omega arith)
as_natural (negsuc n) e = absurd (true≢false e)
