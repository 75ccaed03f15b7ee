-- `along` by quotient and remainder, its bound and its order. Assumes nothing.
use mathlib.Core.Path.{◌≡◌, ◌∙◌, ap}
use Prim.Native.Nat.{ℕ, ◌+◌, ◌*◌, ◌/◌, ◌≤◌, ◌<◌}
use native.Mathlib.Nat.{mul-le-mul_right, div-lt_iff_lt-mul, le-div_iff_mul-le, div-mul-le_self}
use native.Mathlib.Omega.{arith}
use lib.Arith.{digits_div}
use Rattle.line.specs.declared.Quotient.{Quotient}
use Rattle.line.specs.Line.{along}
use Rattle.line.specs.Inner.{Carried}

module _ (a b : ℕ) where
  -- the quotient that the code carries is `along`
  pub along_is : {i : ℕ} {at : Quotient} → Carried (record { long = a; short = b }) i at → along a b i ≡ at.q
  along_is {i} {at} k = ap (λ (n : ℕ). n / (2 * a)) k.sum ∙ digits_div at.q k.less

  -- `along` stays within b, and never goes back
  pub along_le : (i : ℕ) → i < a → along a b i ≤ b
  along_le i lt =
      let h : along a b i < b + 1 = (div-lt_iff_lt-mul {k = 2 * a} {x = 2 * i * b + a} {y = b + 1} (omega arith)).1 (omega (arith, mul-le-mul_right b lt)) in
      omega arith

  pub along_order : (i k : ℕ) → 0 < a → i ≤ k → along a b i ≤ along a b k
  along_order i k some le =
      (le-div_iff_mul-le {k = 2 * a} {x = along a b i} {y = 2 * k * b + a} (omega arith)).1 (omega (arith, div-mul-le_self (2 * i * b + a) (2 * a), mul-le-mul_right b le))
