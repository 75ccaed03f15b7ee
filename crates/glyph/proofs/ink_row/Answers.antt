-- `glyph::ink_row` meets its contract: a row without ink changes nothing. Assumes nothing.
use Rattle.glyph.proofs.Row.{blank_row}
use Rattle.glyph.proofs.ink_row.Goals as goal

pub returns-then-row-eq0 : goal.returns-then-row-eq0
returns-then-row-eq0 c = let a = c.args in blank_row a.row a.skip a.d a.n a.color a.pixels.now c.if-row-eq0.true
