-- The words up to k have the row's ink.
use mathlib.Core.Path.{◌≡◌}
use Rattle.words.specs.Words.{painted}
use Rattle.glyph.specs.Inner.{row_ink}
use Rattle.glyph.proofs.ink_run.Given as goal

abbrev pub invariant-loop-k : goal.invariant-loop-k
invariant-loop-k l = l.pixels ≡ painted (row_ink l.row l.skip l.d l.k) (λ _. l.color) l.initial.pixels
