-- the words up to i are inverted
use Rattle.std.proofs.Common.{◌≡◌, ◌-◌}
use Rattle.arithmetic.specs.Interval.{between}
use Rattle.words.specs.Words.{painted, word}
use Rattle.runs.proofs.invert_run.Given as goal

abbrev pub invariant-loop-i : goal.invariant-loop-i
invariant-loop-i l = l.mem ≡ painted (between l.d l.i) (λ i. 65535 - word l.initial.mem i) l.initial.mem
