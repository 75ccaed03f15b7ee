-- `rop3::apply_table` meets its contract: each bit goes through the tree of multiplexers to its entry of the table. Assumes nothing.
use mathlib.Core.Path.{◌∙◌}
use native.Mathlib.Omega.{arith}
use Rattle.rop3.specs.Rop3.{bit, result, applied}
use Rattle.rop3.proofs.Bits.{bit_digit, by_p, from_bits_lem}
use Rattle.rop3.proofs.apply_table.Goals as goal

pub returns : goal.returns
unfolding applied
returns c =
    let a = c.args in
    from_bits_lem 16 c.mux.result (λ n. result a.table (bit a.pat n) (bit a.src n) (bit a.dst n)) (omega (arith, c.mux.type_inv))
    (λ n l. c.mux.ensures n
    ∙ rw (c.by_src.ensures n l, c.by_src-2.ensures n l)
    (by_p a.table (bit_digit n a.pat) (bit_digit n a.src) (bit_digit n a.dst)))
