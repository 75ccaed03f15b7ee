-- `transfer::blit_inside` meets its contract. Assumes nothing.
use Rattle.rop3.specs.Rop3.{table_of}
use Rattle.transfer.proofs.Drawn.{placed, drawn_inside}
use Rattle.transfer.proofs.blit_inside.Goals as goal

pub blit_within-requires : goal.blit_within-requires
blit_within-requires c =
    let a = c.args in
    placed a.width a.height a.area a.from a.src_w a.src_h (table_of a.rop) a.pat.0 a.mem.now a.p a.q
    c.requires.inside.0 c.requires.inside.1 c.requires.same_or_apart c.blit_numbers-b.ensures

pub returns : goal.returns
returns c =
    let a = c.args in
    let r = drawn_inside a.width a.height a.area a.from a.src_w a.src_h (table_of a.rop) a.pat.0 a.mem.now a.p a.q
    c.requires.inside.0 c.requires.inside.1 c.requires.same_or_apart c.blit_numbers-b.ensures (c.blit_within.ensures.value, c.blit_within.ensures.bytes) in
    record { value = r.0; bytes = r.1 }
