-- `rop3::uses_src` meets its contract: one test over all 256 tables. Assumes nothing.
use mathlib.Core.Bool.{Bool, not}
use mathlib.Core.Path.{refl, ◌∙◌}
use Prim.Native.Nat.{ℕ, ◌/◌}
use native.Mathlib.Omega.{arith}
use lib.Bits.{bit_and, bit_xor}
use lib.Dec.{eqb}
use Rattle.arithmetic.proofs.Test.{agreed_below}
use Rattle.rop3.specs.Rop3.{uses_src}
use Rattle.rop3.proofs.uses_src.Goals as goal

abbrev code : ℕ → Bool
code t = not (eqb (bit_and (bit_xor t (t / 4)) 51) 0)

pub returns : goal.returns
returns c =
    agreed_below 256 code uses_src refl c.table-t.result (omega (arith, c.table-t.ensures)) ∙ rw c.table-t.ensures
