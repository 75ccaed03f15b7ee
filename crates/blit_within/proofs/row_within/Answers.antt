-- `blit_within::row_within` meets its contract. Assumes nothing.
use Rattle.std.proofs.Common.{arith}
use Rattle.blit_within.proofs.Within.{row_drawn, end_within, source_within}
use Rattle.blit_within.proofs.row_within.Goals as goal

-- the row and its source end in the memory
pub rop_run_within-requires : goal.rop_run_within-requires
rop_run_within-requires c =
    let a = c.args in
    let room = c.requires.room_within in
    let row = c.requires.y0_le_y in
    let to_end = end_within a.r a.p.at a.p.width a.p.src_at a.p.src_w a.table a.pat a.mem.now room a.y row.1 in
    let from_end = source_within a.r a.p.at a.p.width a.p.src_at a.p.src_w a.table a.pat a.mem.now room a.y row.0 row.1 c.source_row.ensures in
    omega (arith, to_end, from_end)

-- the run drawn is the row
pub returns : goal.returns
returns c =
    let a = c.args in
    row_drawn a.r a.p.at a.p.width a.p.src_at a.p.src_w a.table a.pat a.y a.mem.now c.source_row.ensures c.rop_run_within.ensures
