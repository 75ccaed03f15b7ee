use mathlib.Core.Path.{◌≡◌}
use Rattle.bits.specs.Bits.{bits_of}
use Rattle.saved_table.specs.Held.{start_held}
use Rattle.unpack.proofs.is_complete.Given as goal

abbrev pub invariant-loop : goal.invariant-loop
invariant-loop l = l.at ≡ start_held (bits_of l.bytes) l.counter
