-- The bits of a byte before those behind are a field of its quotient.
use mathlib.Core.Path.{◌≡◌, sym, ◌∙◌, ap}
use Prim.Native.Nat.{◌-◌, ◌/◌, ◌%◌, ◌^◌}
use native.Mathlib.Omega.{arith}
use lib.ListN.{get_or}
use borrow.Author.Rules.{rules}
use Rattle.bits.specs.Bits.{number_of}
use Rattle.bits.proofs.Fields.{number_mod}
use Rattle.bits.proofs.Bytes.{part_of}
use Rattle.bits.proofs.bits_at.Goals as goal

pub returns : goal.returns
returns c =
    let a = c.args in
    let b = 8 - a.at % 8 - a.n in
    let byte : c.from-byte.result ≡ get_or a.s.now (a.at / 8) 0 = search rules in
    (rw byte at c.low_bits.ensures)
    ∙ sym (ap number_of (part_of a.s.now a.at a.n b (omega arith) (omega arith)) ∙ number_mod a.n (get_or a.s.now (a.at / 8) 0 / 2 ^ b))
