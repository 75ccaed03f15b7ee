-- `unpack::read_head` meets its contract. Assumes nothing.
use native.Mathlib.Omega.{arith}
use lib.ListN.{length-set}
use Rattle.bits.specs.Bits.{bits_of, total}
use Rattle.unpack.proofs.Starts.{field_there, fields_there}
use Rattle.unpack.proofs.Blocks.{dc_short}
use Rattle.unpack.proofs.Read.{dc_back_long, head_read}
use Rattle.unpack.proofs.read_head.Goals as goal

pub dc_held-d-requires : goal.dc_held-d-requires
unfolding total
dc_held-d-requires c =
    fields_there c.args.bytes.now 71 (omega (arith, c.requires.in_bounds)) (omega arith) (omega arith) dc_short

pub field_at-requires : goal.field_at-requires
field_at-requires c =
    field_there c.args.bytes.now (omega (arith, c.requires.in_bounds)) (omega arith) (omega arith)

pub field_at-requires-2 : goal.field_at-requires-2
field_at-requires-2 c =
    field_there c.args.bytes.now (omega (arith, c.requires.in_bounds)) (omega arith) (omega arith)

pub bounds-numbers-3 : goal.bounds-numbers-3
bounds-numbers-3 c =
    simp length-set (omega (arith, dc_back_long c.args.numbers.now c.put_dc.new.numbers c.requires.numbers_len c.put_dc.auto.numbers))

pub field_at-requires-3 : goal.field_at-requires-3
field_at-requires-3 c =
    field_there c.args.bytes.now (omega (arith, c.requires.in_bounds)) (omega arith) (omega arith)

pub bounds-numbers-6 : goal.bounds-numbers-6
bounds-numbers-6 c =
    simp length-set (omega (arith, dc_back_long c.args.numbers.now c.put_dc.new.numbers c.requires.numbers_len c.put_dc.auto.numbers))

pub field_at-requires-4 : goal.field_at-requires-4
field_at-requires-4 c =
    field_there c.args.bytes.now (omega (arith, c.requires.in_bounds)) (omega arith) (omega arith)

pub bounds-numbers-8 : goal.bounds-numbers-8
bounds-numbers-8 c =
    simp length-set (omega (arith, dc_back_long c.args.numbers.now c.put_dc.new.numbers c.requires.numbers_len c.put_dc.auto.numbers))

pub returns : goal.returns
returns c =
    head_read c.args.numbers.now c.put_dc.new.numbers c.requires.numbers_len c.put_dc.auto.numbers
    c.field_at.result c.field_at-2.result c.field_at-3.result c.field_at-4.result
    (bits_of c.args.bytes.now) c.put_dc.ensures c.dc_held-d.ensures c.field_at.ensures c.field_at-2.ensures c.field_at-3.ensures c.field_at-4.ensures
