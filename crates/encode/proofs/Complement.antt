-- Laws of the two's complement of an integer of 32 bits, as the code computes it in 64 bits. Assumes nothing.
use mathlib.Core.Bool.{true, false}
use mathlib.Core.Path.{◌≡◌, ◌∙◌}
use Prim.Native.Nat.{ℕ, ◌+◌, ◌-◌, ◌*◌, ◌≤◌, ◌<◌, ◌^◌}
use native.Mathlib.Omega.{arith}
use lib.Dec.{T}
use lib.Signed.{non_neg, lt_z}
use lib.IntN.{ℤ, pos, nat_abs, ◌+ℤ◌, ◌-ℤ◌}
use mir.Val.{Fits, SFits}
use mir.Syntax.{w32, w64}
use borrow.Author.Tests.{ltb-true}
use Rattle.arithmetic.specs.Integer.{positive}
use Rattle.arithmetic.specs.Inner.{negative}
use Rattle.arithmetic.proofs.Integer.{sum, difference, lt_parts, eq_parts, tested_negative, tested_positive, not_negative, abs_positive}
use Rattle.arithmetic.proofs.Machine.{range32, fits64, held32, held64, stored32, stored64, cast_held}
use Rattle.bigendian.specs.BigEndian.{signed32}
use Rattle.bigendian.proofs.Signed.{below_half, from_half}

module _ (z : ℤ) (f : SFits w32 z) where
  module _ (tested : lt_z (held32 z) (pos 0) ≡ true) where
    less : positive z < negative z
    less = omega (arith, ltb-true (positive z + 0) (0 + negative z) (rw (stored32 z f, lt_parts z (pos 0)) at tested))

    below : positive z ≡ 0
    below = tested_negative z (rw (stored32 z f) at tested)

    -- a negative integer: its two's complement is n more
    module _ {n : ℕ} (low : 2 ^ 31 ≤ n) (high : n ≤ 2 ^ 32) where
      abbrev turned : ℤ
      turned = held64 (held32 z) +ℤ pos n

      turned_is : turned ≡ pos (n - negative z)
      turned_is = rw (cast_held f) (eq_parts (z +ℤ pos n) (pos (n - negative z)) (omega (arith, below, less, sum z (pos n), range32 z f)))

      pub turned_fits : SFits w64 turned
      turned_fits = rw turned_is (fits64 (pos (n - negative z)) (omega (arith, below, less)) (omega (arith, below, less)))

      turned_held : held64 turned ≡ pos (n - negative z)
      turned_held = stored64 turned turned_fits ∙ turned_is

      pub turned_cast : T (non_neg (held64 turned)) × Fits w32 (nat_abs (held64 turned))
      turned_cast = rw turned_held (not_negative (pos (n - negative z)) (omega arith), record { fits = omega (arith, below, less) })

    -- with n = 2³²
    pub turned_back : signed32 (nat_abs (held64 (held64 (held32 z) +ℤ pos 4294967296))) ≡ z
    turned_back =
        let number : ℕ = 4294967296 - negative z in
        rw (turned_held {n = 4294967296} (omega arith) (omega arith))
        (from_half (2 ^ 31) {n = number} (omega (arith, below, less, range32 z f)) ∙ eq_parts (pos number -ℤ pos (2 * 2 ^ 31)) z (omega (arith, below, less, difference (pos number) (pos (2 * 2 ^ 31)), range32 z f)))

  -- an integer from 0 on is its own two's complement
  module _ (tested : lt_z (held32 z) (pos 0) ≡ false) where
    from : negative z ≡ 0
    from = tested_positive z (rw (stored32 z f) at tested)

    pub kept_cast : T (non_neg (held32 z)) × Fits w32 (nat_abs (held32 z))
    kept_cast = rw (stored32 z f) (not_negative z from, record { fits = omega (arith, from, abs_positive z from, range32 z f) })

    pub kept_back : signed32 (nat_abs (held32 z)) ≡ z
    kept_back = rw (stored32 z f, abs_positive z from) (below_half (2 ^ 31) {n = positive z} (omega (arith, range32 z f)) ∙ eq_parts (pos (positive z)) z (omega (arith, from)))
