-- `glyph::ink_run` meets its contract: each word adds its column. Assumes nothing.
use Rattle.glyph.proofs.Row.{row_none, row_next}
use Rattle.glyph.proofs.ink_run.Goals as goal

pub loop-k-init : goal.loop-k-init
loop-k-init c = let a = c.args in row_none a.row a.skip a.d a.color a.pixels.now

pub loop-k-preserved : goal.loop-k-preserved
loop-k-preserved c = let a = c.args in row_next a.row a.skip a.d c.loop-k.k a.color a.pixels.now c.loop-k.invariant c.ink_word.ensures
