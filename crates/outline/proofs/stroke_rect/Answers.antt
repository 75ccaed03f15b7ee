-- `outline::stroke_rect` meets its contract: nothing, or the sides between the clipped edges. Assumes nothing.
use Rattle.std.proofs.Common.{rules, ◌≡◌, true, false}
use Rattle.outline.specs.Outline.{outline_marks}
use Rattle.outline.specs.Inner.{edges_of}
use Rattle.outline.proofs.Box.{none_done, edges_fit, outline_done}
use Rattle.outline.proofs.stroke_rect.Goals as goal

-- a box without columns or without rows has no rim
pub returns-then-w-le0 : goal.returns-then-w-le0
returns-then-w-le0 c =
    let a = c.args in
    let none : outline_marks a.w a.h ≡ false = search rules in
    none_done a.x a.y a.w a.h a.color.0 a.width a.height a.pixels.now c.in_ok-check.ensures none

-- the edges of a box lie on the surface, which was checked
pub stroke_edges-requires : goal.stroke_edges-requires
stroke_edges-requires c =
    let a = c.args in
    let some : outline_marks a.w a.h ≡ true = search rules in
    let columns : c.edges_of-columns.result ≡ edges_of a.x a.w a.width = search rules in
    let rows : c.edges_of-rows.result ≡ edges_of a.y a.h a.height = search rules in
    edges_fit a.x a.y a.w a.h a.color.0 a.width a.height a.pixels.now c.in_ok-check.ensures some columns rows

-- the sides between the edges are the rim
pub returns : goal.returns
returns c =
    let a = c.args in
    let some : outline_marks a.w a.h ≡ true = search rules in
    let columns : c.edges_of-columns.result ≡ edges_of a.x a.w a.width = search rules in
    let rows : c.edges_of-rows.result ≡ edges_of a.y a.h a.height = search rules in
    outline_done a.x a.y a.w a.h a.color.0 a.width a.height a.pixels.now c.in_ok-check.ensures some columns rows c.stroke_edges.ensures
