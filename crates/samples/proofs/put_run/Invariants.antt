-- The bytes of the first i words are put.
use mathlib.Core.Path.{◌≡◌}
use Rattle.words.specs.Words.{word}
use Rattle.p6.specs.Joined.{joined}
use Rattle.p6.specs.Inner.{put}
use Rattle.samples.proofs.put_run.Given as goal

abbrev pub invariant-loop-i : goal.invariant-loop-i
invariant-loop-i g l = l.out ≡ put l.initial.out l.at (joined (λ j. g.F.Format.bytes_of (word l.pixels j)) l.i)
