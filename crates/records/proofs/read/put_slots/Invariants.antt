-- `records::read::put_slots` meets its contract. The invariant: the slots up to k end within the stream, and the number of numbers is kept.
use Rattle.std.proofs.Common.{◌≡◌, ◌≤◌, length}
use Rattle.records.proofs.read.put_slots.Given as goal

abbrev pub invariant-loop-k : goal.invariant-loop-k
invariant-loop-k l = (l.at ≤ l.next) × ((l.next ≤ length l.s) × (length l.numbers ≡ length l.initial.numbers))
