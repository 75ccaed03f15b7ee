-- `unpack::read_slot` meets its contract. Assumes nothing.
use mathlib.Core.Path.{◌≡◌, ap}
use Prim.Native.Nat.{◌+◌}
use native.Mathlib.Omega.{arith}
use Rattle.bits.specs.Bits.{bits_of, field_at, total}
use Rattle.saved_table.specs.Table.{widths_of}
use Rattle.saved_table.proofs.Lengths.{kind_total}
use Rattle.unpack.proofs.Starts.{field_there, fields_there}
use Rattle.unpack.proofs.Blocks.{kind_short}
use Rattle.unpack.proofs.Read.{slot_coded}
use Rattle.unpack.proofs.read_slot.Goals as goal

pub field_at-kind-requires : goal.field_at-kind-requires
field_at-kind-requires c =
    field_there c.args.bytes.now (omega arith) (omega arith) (omega arith)

pub field_at-handle-requires : goal.field_at-handle-requires
field_at-handle-requires c =
    field_there c.args.bytes.now (omega arith) (omega arith) (omega arith)

pub object_held-object-requires : goal.object_held-object-requires
object_held-object-requires c =
    let s = c.args.bytes.now in
    let k = c.field_at-kind.result in
    let e : total (widths_of k) ≡ total (widths_of (field_at (bits_of s) c.args.at 3)) = ap (λ j. total (widths_of j)) c.field_at-kind.ensures in
    fields_there s (c.args.at + 35) (omega (arith, e, c.requires.at_in_bounds)) (omega arith) (kind_total k) (kind_short k)

pub overflow_add-result : goal.overflow_add-result
overflow_add-result c =
    omega (arith, c.object_bits.ensures, kind_total c.field_at-kind.result)

pub returns : goal.returns
returns c =
    let a = c.args in
    let bs = bits_of a.bytes.now in
    let e : total (widths_of c.field_at-kind.result) ≡ total (widths_of (field_at bs a.at 3)) = ap (λ j. total (widths_of j)) c.field_at-kind.ensures in
    record {
      value = omega (arith, e, c.object_bits.ensures);
      slot_coded = slot_coded bs a.at c.field_at-kind.ensures c.field_at-handle.ensures c.object_held-object.ensures c.put_slot.ensures;
    }
