use mathlib.Core.Path.{◌≡◌}
use Prim.Native.Nat.{◌+◌}
use lib.ListN.{length}
use Rattle.numbers.specs.Layout.{count_place}
use Rattle.numbers.specs.Block.{at}
use Rattle.numbers.specs.View.{view}
use Rattle.saved_table.specs.Table.{slots_bits}
use Rattle.pack.proofs.Chunks.{Left}
use Rattle.pack.proofs.table_len.Given as goal

abbrev pub invariant-loop-slot : goal.invariant-loop-slot
invariant-loop-slot l = record {
  left : Left l.numbers (at l.numbers count_place) (length l.yielded) l.slot-iterator;
  bits : l.bits ≡ 425 + length (slots_bits (view l.numbers) (length l.yielded));
}
