-- The rows before row k of those that are shown have the glyph's ink.
use mathlib.Core.Path.{◌≡◌}
use Prim.Native.Nat.{◌+◌}
use lib.IntN.{pos, ◌+ℤ◌}
use Rattle.words.specs.Words.{painted}
use Rattle.glyph.proofs.Glyph.{rows_ink}
use Rattle.glyph.proofs.draw_glyph.Given as goal

abbrev pub invariant-loop-k : goal.invariant-loop-k
invariant-loop-k l = l.pixels ≡ painted (rows_ink (l.x +ℤ pos l.dx) l.y l.fn.rows l.width l.x0 l.n l.y0 (l.y0 + l.k)) (λ _. l.color) l.initial.pixels
