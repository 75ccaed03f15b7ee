-- `text::draw_char` meets its contract. Assumes nothing.
use Rattle.std.proofs.Common.{rules, ◌≡◌, ◌-◌, ◌+ℤ◌, pos, true, false}
use Rattle.words.specs.Words.{painted}
use Rattle.surface.specs.Region.{words_of}
use Rattle.glyph.specs.Inner.{bitmap_ink}
use Rattle.glyph.proofs.Glyph.{glyph_narrow}
use Rattle.text.specs.Ink.{printable}
use Rattle.text.proofs.Drawn.{char_drawn, char_blank}
use Rattle.text.proofs.draw_char.Goals as goal

-- the rows are a glyph's, whose ink is in the first five columns
pub draw_glyph-requires-clause-narrow : goal.draw_glyph-requires-clause-narrow
draw_glyph-requires-clause-narrow c = glyph_narrow (c.args.ch - 0x20) c.glyph-rows.ensures

-- the glyph's ink is the character's
pub returns-then-is_printable : goal.returns-then-is_printable
returns-then-is_printable c =
    let a = c.args in
    let some : printable a.ch ≡ true = search rules in
    let glyph : c.draw_glyph.new.pixels ≡ painted (words_of a.width (bitmap_ink (a.x +ℤ pos 0) a.y c.glyph-rows.result)) (λ _. a.color.0) a.pixels.now = search rules in
    char_drawn a.width a.height a.x a.y a.ch a.color.0 a.pixels.now c.in_ok-check.ensures some c.glyph-rows.ensures glyph

-- no other character has ink
pub returns-else-is_printable : goal.returns-else-is_printable
returns-else-is_printable c =
    let a = c.args in
    let none : printable a.ch ≡ false = search rules in
    char_blank a.width a.height a.x a.y a.ch a.color.0 a.pixels.now c.in_ok-check.ensures none
