-- the words up to d + k are v
use Rattle.std.proofs.Common.{◌≡◌, ◌+◌}
use Rattle.arithmetic.specs.Interval.{between}
use Rattle.words.specs.Words.{painted}
use Rattle.runs.proofs.fill_run.Given as goal

abbrev pub invariant-loop-k : goal.invariant-loop-k
invariant-loop-k l = l.mem ≡ painted (between l.d (l.d + l.k)) (λ _. l.v) l.initial.mem
