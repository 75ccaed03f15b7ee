-- `bits::low_bits` meets its contract: the shift loses no bit. Assumes nothing.
use mathlib.Core.Path.{◌≡◌, ◌∙◌}
use Prim.Native.Nat.{ℕ, ◌*◌, ◌%◌, ◌<◌, ◌^◌}
use native.Mathlib.Omega.{arith}
use lib.Bits.{and_mask}
use lib.Pow.{pow_pos, shl_exact}
use Rattle.bits.proofs.low_bits.Goals as goal

weight : (n : ℕ) → n < 32 → (1 * 2 ^ n) % 2 ^ 32 ≡ 2 ^ n
weight n h = shl_exact 1 n 32 (omega arith) (omega arith) ∙ omega arith

pub overflow_sub-result : goal.overflow_sub-result
overflow_sub-result c =
    rw (weight c.args.n c.requires) (pow_pos c.args.n)

pub returns : goal.returns
returns c =
    rw (weight c.args.n c.requires) (and_mask c.args.v c.args.n)
