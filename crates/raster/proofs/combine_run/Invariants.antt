-- the words up to i are combined
use Rattle.std.proofs.Common.{◌≡◌}
use Rattle.arithmetic.specs.Interval.{between}
use Rattle.words.specs.Words.{painted}
use Rattle.raster.specs.Raster.{ropped}
use Rattle.raster.proofs.combine_run.Given as goal

abbrev pub invariant-loop-i : goal.invariant-loop-i
invariant-loop-i l = l.mem ≡ painted (between l.d l.i) (ropped l.table l.pat (λ _. 0) l.initial.mem) l.initial.mem
