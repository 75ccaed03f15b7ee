-- An operand that a code does not use has no effect on its result. Assumes nothing.
use mathlib.Core.Path.{◌≡◌, refl, sym, ◌∙◌}
use mathlib.Core.Bool.{false}
use Prim.Native.Nat.{ℕ, ◌<◌}
use lib.Dec.{eqb}
use borrow.Author.Tests.{eqb-true, not-false}
use Rattle.arithmetic.specs.Test.{any_below}
use Rattle.arithmetic.proofs.Test.{none}
use Rattle.rop3.specs.Rop3.{bit, result, applied, differ, uses, uses_src, uses_dst}
use Rattle.rop3.proofs.Bits.{Digit, off, on, bit_digit, bit_lt, from_bits_cong}

same : (x y : ℕ) → differ x y ≡ false → x ≡ y
same x y e = eqb-true x y (not-false (eqb x y) e)

-- an unused operand can be any bit
module _ (f : ℕ → ℕ → ℕ → ℕ) (e : uses f ≡ false) (a b : ℕ) (h : a < 2) (k : b < 2) where
  equal : f a b 0 ≡ f a b 1
  equal = same (f a b 0) (f a b 1) (none 2 (λ y. differ (f a y 0) (f a y 1)) (none 2 (λ x. any_below 2 (λ y. differ (f x y 0) (f x y 1))) e a h) b k)

  as_zero : {x : ℕ} → Digit x → f a b x ≡ f a b 0
  as_zero off = refl
  as_zero on = sym equal

  any_bit : {x y : ℕ} → Digit x → Digit y → f a b x ≡ f a b y
  any_bit p q = as_zero p ∙ sym (as_zero q)

-- a code that does not use S gives the same result for every S
pub without_src : (t : ℕ) → uses_src t ≡ false → (p s s' d : ℕ) → applied t p s d ≡ applied t p s' d
unfolding applied
without_src t e p s s' d =
    from_bits_cong 16 (λ n. result t (bit p n) (bit s n) (bit d n)) (λ n. result t (bit p n) (bit s' n) (bit d n))
    (λ n. any_bit (λ p d s. result t p s d) e (bit p n) (bit d n) (bit_lt n p) (bit_lt n d) (bit_digit n s) (bit_digit n s'))

-- a code that does not use D gives the same result for every D
pub without_dst : (t : ℕ) → uses_dst t ≡ false → (p s d d' : ℕ) → applied t p s d ≡ applied t p s d'
unfolding applied
without_dst t e p s d d' =
    from_bits_cong 16 (λ n. result t (bit p n) (bit s n) (bit d n)) (λ n. result t (bit p n) (bit s n) (bit d' n))
    (λ n. any_bit (λ p s d. result t p s d) e (bit p n) (bit s n) (bit_lt n p) (bit_lt n s) (bit_digit n d) (bit_digit n d'))
