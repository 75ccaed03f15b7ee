-- `blit::blit_from` meets its contract: the rows of the clipped box. Assumes nothing.
use Rattle.std.proofs.Common.{rules}
use Rattle.rop3.specs.Rop3.{table_of}
use Rattle.blit.proofs.From.{empty_from, room_from, drawn_from}
use Rattle.blit.proofs.Pixels.{Empty}
use Rattle.blit.proofs.blit_from.Goals as goal

-- an empty box changes nothing
pub returns-then-is_empty-clause-bytes : goal.returns-then-is_empty-clause-bytes
returns-then-is_empty-clause-bytes c =
    let a = c.args in
    let none : Empty c.clip_of-r.result = search rules in
    empty_from a.b (table_of a.rop) a.pat.0 a.src.now a.pixels.now c.requires.0.some c.requires.0.long c.clip_of-r.ensures none

-- the clipped box lies on the surface
pub blit_rows-requires : goal.blit_rows-requires
blit_rows-requires c =
    let a = c.args in
    room_from a.b (table_of a.rop) a.pat.0 a.src.now a.pixels.now c.requires.0.some c.requires.0.long c.clip_of-r.ensures c.requires.1

-- the box's rows together are the blit
pub returns-clause-bytes : goal.returns-clause-bytes
returns-clause-bytes c =
    let a = c.args in
    drawn_from a.b (table_of a.rop) a.pat.0 a.src.now a.pixels.now c.requires.0.some c.requires.0.long c.clip_of-r.ensures c.table.ensures c.blit_rows.ensures
