use mathlib.Core.Path.{◌≡◌}
use Rattle.bits.specs.Bits.{bits_of}
use Rattle.saved_table.specs.Held.{start_held}
use Rattle.unpack.specs.Inner.{SlotsRead}
use Rattle.unpack.proofs.read_slots.Given as goal

abbrev pub invariant-loop-i : goal.invariant-loop-i
invariant-loop-i l = record {
  start : l.at ≡ start_held (bits_of l.bytes) l.i;
  read : SlotsRead (bits_of l.bytes) l.i l.initial.numbers l.numbers;
}
