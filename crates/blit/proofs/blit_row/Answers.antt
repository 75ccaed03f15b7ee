-- `blit::blit_row` meets its contract. Assumes nothing.
use Rattle.std.proofs.Common.{arith}
use Rattle.blit.proofs.From.{row_held_lem, row_passed}
use Rattle.blit.proofs.blit_row.Goals as goal

-- the row's part of the source is there
pub returns-then-from-columns : goal.returns-then-from-columns
returns-then-from-columns c =
    let a = c.args in
    row_held_lem a.r a.width a.src_w a.table a.pat a.y a.src.now a.pixels.now c.source_row.ensures (omega arith) c.rop_run_from.ensures

-- the row's part of the source passes its end
pub returns-else-from-columns : goal.returns-else-from-columns
returns-else-from-columns c =
    let a = c.args in
    row_passed a.r a.width a.src_w a.table a.pat a.y a.src.now a.pixels.now c.source_row.ensures (omega arith)
