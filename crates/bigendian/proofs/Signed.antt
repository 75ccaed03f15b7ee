-- Laws of two's complement, with the first negative number as a parameter, and of the machine words that hold it. Assumes nothing.
use mathlib.Core.Path.{◌≡◌, ap, sym, ◌∙◌}
use Prim.Native.Nat.{ℕ, suc, ◌*◌, ◌-◌, ◌≤◌, ◌<◌, ◌^◌}
use native.Mathlib.Decide.{dec_lt}
use native.Mathlib.Omega.{arith}
use lib.IntN.{ℤ, pos, negsuc, ◌-ℤ◌}
use mir.Val.{SFits, to_z}
use mir.Syntax.{w32, w64}
use borrow.Author.Tests.{lt-ltb, le-ltb}
use Rattle.arithmetic.proofs.Integer.{difference, eq_parts}
use Rattle.arithmetic.proofs.Machine.{fits32, fits64, held32, held64, stored32, stored64, natural64}
use Rattle.arithmetic.specs.Integer.{positive}
use Rattle.arithmetic.specs.Inner.{negative}
use Rattle.bigendian.specs.BigEndian.{signed}

pub below_half : (half : ℕ) {n : ℕ} → n < half → signed half n ≡ pos n
below_half half {n} h = rw (lt-ltb n half h)

pub from_half : (half : ℕ) {n : ℕ} → half ≤ n → signed half n ≡ pos n -ℤ pos (2 * half)
from_half half {n} h = rw (le-ltb n half h)

-- from -half to half - 1
pub signed_range : (half n : ℕ) → n < 2 * half → (positive (signed half n) < half) × (negative (signed half n) ≤ half)
signed_range half n h = by (dec_lt n half)
  where
    by : Dec (n < half) → (positive (signed half n) < half) × (negative (signed half n) ≤ half)
    by (yes k) = rw (below_half half k) (omega arith)
    by (no k) =
        let e = from_half half {n = n} (omega arith) ∙ eq_parts (pos n -ℤ pos (2 * half)) (negsuc (2 * half - suc n)) (omega (arith, difference (pos n) (pos (2 * half)))) in
        omega (arith, ap positive e, ap negative e)

-- the lower half, as the code returns it
pub low_returns : (half : ℕ) {n m : ℕ} → n < half → half ≤ 2 ^ 31 → n ≡ m → to_z w32 n ≡ signed half m
low_returns half {n} {m} h b e = rw (← e, lt-ltb n half h, lt-ltb n (2 ^ 31) (omega arith))

-- the upper half, computed in 64 bits
module _ (half : ℕ) {n : ℕ} (low : half ≤ n) (high : n < 2 * half) (small : half ≤ 2 ^ 31) where
  abbrev less : ℤ
  less = to_z w64 n -ℤ pos (2 * half)

  less_is : less ≡ signed half n
  less_is = rw (natural64 n (omega arith)) (sym (from_half half low))

  pub less_fits : SFits w64 less
  less_fits = rw less_is (fits64 (signed half n) (omega (arith, signed_range half n high)) (omega (arith, signed_range half n high)))

  less_held : held64 less ≡ signed half n
  less_held = stored64 less less_fits ∙ less_is

  less_small : SFits w32 (signed half n)
  less_small = fits32 (signed half n) (omega (arith, signed_range half n high)) (omega (arith, signed_range half n high))

  pub less_cast : SFits w32 (held64 less)
  less_cast = rw less_held less_small

  pub high_returns : {m : ℕ} → n ≡ m → held32 (held64 less) ≡ signed half m
  high_returns e = rw (less_held, stored32 (signed half n) less_small) (ap (signed half) e)
