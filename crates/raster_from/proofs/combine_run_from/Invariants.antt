-- the words up to k are combined
use Rattle.std.proofs.Common.{◌≡◌, ◌+◌, ◌-◌}
use Rattle.arithmetic.specs.Interval.{between}
use Rattle.words.specs.Words.{painted, word}
use Rattle.raster.specs.Raster.{ropped}
use Rattle.raster_from.proofs.combine_run_from.Given as goal

abbrev pub invariant-loop-k : goal.invariant-loop-k
invariant-loop-k l = l.dst ≡ painted (between l.d (l.d + l.k)) (ropped l.table l.pat (λ i. word l.src (l.s + (i - l.d))) l.initial.dst) l.initial.dst
