-- `glyph::cut` meets its contract: its sums are exact, and `clamp` clips. Assumes nothing.
use mathlib.Core.Path.{◌∙◌, ap}
use native.Mathlib.Omega.{arith}
use lib.IntN.{ℤ, pos, ◌+ℤ◌}
use Rattle.std.proofs.lemmas.Int.{ints}
use Rattle.clip.specs.Clip.{nearest}
use Rattle.glyph.proofs.Reach.{shown}
use Rattle.glyph.proofs.cut.Goals as goal

pub returns : goal.returns
returns c =
    shown (c.args.x +ℤ pos c.args.dx) c.args.n c.args.side _ c.requires
    (c.clamp.ensures ∙ ap (λ (z : ℤ). nearest z c.args.side) (omega (arith, ints)))
    (c.clamp-2.ensures ∙ ap (λ (z : ℤ). nearest z c.args.side) (omega (arith, ints)))
    (c.clamp-3.ensures ∙ ap (λ (z : ℤ). nearest z 8) (omega (arith, ints)))
