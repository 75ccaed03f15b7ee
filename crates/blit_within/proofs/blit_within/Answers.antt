-- `blit_within::blit_within` meets its contract: the rows of the clipped box. Assumes nothing.
use Rattle.std.proofs.Common.{rules}
use Rattle.rop3.specs.Rop3.{table_of}
use Rattle.blit.proofs.Pixels.{Empty}
use Rattle.blit_within.proofs.Within.{empty_within, room_within, drawn_within}
use Rattle.blit_within.proofs.blit_within.Goals as goal

-- an empty box changes nothing
pub returns-then-is_empty-clause-bytes : goal.returns-then-is_empty-clause-bytes
returns-then-is_empty-clause-bytes c =
    let a = c.args in
    let none : Empty c.clip_of-r.result = search rules in
    empty_within a.b a.at a.src_at (table_of a.rop) a.pat.0 a.mem.now c.requires c.clip_of-r.ensures none

-- the clipped box and its source lie on their surfaces
pub rows_within-requires : goal.rows_within-requires
rows_within-requires c =
    let a = c.args in
    room_within a.b a.at a.src_at (table_of a.rop) a.pat.0 a.mem.now c.requires c.clip_of-r.ensures

-- the box's rows together are the blit
pub returns-clause-bytes : goal.returns-clause-bytes
returns-clause-bytes c =
    let a = c.args in
    drawn_within a.b a.at a.src_at (table_of a.rop) a.pat.0 a.mem.now c.requires c.clip_of-r.ensures c.table.ensures c.rows_within.ensures
