use Rattle.sound.proofs.Slots.{Passed}
use Rattle.sound.proofs.scan_slots.Given as goal

abbrev pub invariant-loop-i : goal.invariant-loop-i
invariant-loop-i l = Passed l.numbers l.i l.end l.last l.ascending
