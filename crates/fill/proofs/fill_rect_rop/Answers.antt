-- `fill::fill_rect_rop` meets its contract: the clipped box drawn by `rop_rect`. Assumes nothing.
use Rattle.std.proofs.Common.{rules, ◌≡◌}
use Rattle.clip.specs.Clip.{clipped_rect}
use Rattle.fill.proofs.Box.{box_fits, box_done}
use Rattle.fill.proofs.fill_rect_rop.Goals as goal

-- the clipped box lies on the surface, which was checked
pub rop_rect-requires : goal.rop_rect-requires
rop_rect-requires c =
    let a = c.args in
    let is : c.clip_rect-part.result ≡ clipped_rect a.x a.y a.w a.h a.width a.height = search rules in
    box_fits a.x a.y a.w a.h a.rop a.pat.0 a.width a.height a.pixels.now c.in_ok-check.ensures is

-- the clipped box has the pixels of the box, and its table is that of the code
pub returns : goal.returns
returns c =
    let a = c.args in
    let is : c.clip_rect-part.result ≡ clipped_rect a.x a.y a.w a.h a.width a.height = search rules in
    box_done a.x a.y a.w a.h a.rop a.pat.0 a.width a.height a.pixels.now c.in_ok-check.ensures is c.rop_rect.ensures.value (rw c.table.ensures at c.rop_rect.ensures.bytes)
