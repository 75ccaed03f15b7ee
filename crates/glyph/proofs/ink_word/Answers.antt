-- `glyph::ink_word` meets its contract: it stores the color, or the word that stands there. Assumes nothing.
use mathlib.Core.Path.{◌∙◌, ap}
use mathlib.Core.Bool.{cond}
use Prim.Native.Nat.{ℕ}
use Rattle.std.proofs.Common.{rules}
use Rattle.font.specs.Font.{ink_at}
use Rattle.glyph.proofs.Row.{word_chosen}
use Rattle.glyph.proofs.ink_word.Goals as goal

pub returns : goal.returns
returns c =
    let a = c.args in
    c.set_word.ensures
    ∙ word_chosen a.row a.k a.i a.color a.pixels.now c.requires.1 c.requires.0
    (λ j. search rules)
    (c.inked_or.ensures ∙ ap (λ (x : ℕ). cond (ink_at a.row a.k) a.color x) c.word_at-old.ensures)
