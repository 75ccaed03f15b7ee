-- `unpack::read_table` meets its contract. Assumes nothing.
use mathlib.Core.Path.{◌∙◌, ap, subst}
use Prim.Native.Nat.{ℕ}
use native.Mathlib.Omega.{arith}
use Rattle.bits.specs.Bits.{bits_of, field_at}
use Rattle.saved_table.specs.Held.{start_held}
use Rattle.unpack.specs.Inner.{SlotsRead}
use Rattle.unpack.proofs.Starts.{field_there, start_first, complete_parts}
use Rattle.unpack.proofs.Read.{table_read}
use Rattle.unpack.proofs.read_table.Goals as goal

pub read_head-requires : goal.read_head-requires
read_head-requires c =
    let bs = bits_of c.args.bytes.now in
    record {
      in_bounds = omega (arith, start_first bs (field_at bs 62 9), (complete_parts bs c.requires.bytes_value).long);
      numbers_len = c.requires.numbers_len;
    }

pub field_at-requires : goal.field_at-requires
field_at-requires c =
    let bs = bits_of c.args.bytes.now in
    field_there c.args.bytes.now (omega (arith, start_first bs (field_at bs 62 9), (complete_parts bs c.requires.bytes_value).long)) (omega arith) (omega arith)

pub read_slots-requires : goal.read_slots-requires
read_slots-requires c =
    let bs = bits_of c.args.bytes.now in
    let e = c.field_at.ensures in
    record {
      n_in_bounds = omega (arith, ap (start_held bs) e, (complete_parts bs c.requires.bytes_value).long);
      n_bound = omega (arith, e, (complete_parts bs c.requires.bytes_value).few);
      numbers_len = c.read_head.ensures.long ∙ c.requires.numbers_len;
    }

pub returns : goal.returns
returns c =
    let bs = bits_of c.args.bytes.now in
    let m = c.read_head.new.numbers in
    let l' = c.read_slots.new.numbers in
    let slots = subst (λ (n : ℕ). SlotsRead bs n m l') c.field_at.ensures c.read_slots.ensures in
    table_read bs c.args.numbers.now m l' c.requires.numbers_len c.requires.stock_dirty_place_bound (complete_parts bs c.requires.bytes_value).few c.read_head.ensures slots
