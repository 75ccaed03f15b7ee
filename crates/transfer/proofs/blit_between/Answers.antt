-- `transfer::blit_between` meets its contract. Assumes nothing.
use native.Mathlib.Omega.{arith}
use borrow.Author.Rules.{rules}
use Rattle.rop3.specs.Rop3.{table_of}
use Rattle.place.proofs.Places.{few_pixels}
use Rattle.transfer.proofs.Numbers.{sides_read}
use Rattle.transfer.proofs.Drawn.{drawn_between}
use Rattle.transfer.proofs.blit_between.Goals as goal

pub overflow_mul-n : goal.overflow_mul-n
overflow_mul-n c =
    omega (arith, few_pixels c.requires.0)

pub overflow_mul-k : goal.overflow_mul-k
overflow_mul-k c =
    omega (arith, few_pixels c.requires.1)

pub blit_from-requires : goal.blit_from-requires
blit_from-requires c =
    let a = c.args in
    sides_read a.width a.height a.area a.from a.src_w a.src_h c.blit_numbers-b.ensures (search rules) c.requires.1.wide

pub returns : goal.returns
returns c =
    let a = c.args in
    let r = drawn_between a.width a.height a.area a.from a.src_w a.src_h (table_of a.rop) a.pat.0 a.mem.now a.other.now a.p a.q
    c.requires.0 c.requires.1 c.blit_numbers-b.ensures (c.blit_from.ensures.value, c.blit_from.ensures.bytes) in
    record { value = r.0; bytes = r.1 }
