-- `glyph::draw_glyph` meets its contract. Assumes nothing.
use Prim.Native.Nat.{◌+◌, ◌-◌, ◌<◌}
use native.Mathlib.Omega.{arith}
use Rattle.std.proofs.lemmas.Grind.{common_steps}
use Rattle.arithmetic.proofs.Machine.{stored32}
use Rattle.glyph.proofs.Reach.{plus_zero}
use Rattle.glyph.proofs.Drawn.{row_shown, row_inside, rows_before, row_after, rows_all}
use Rattle.glyph.proofs.draw_glyph.Goals as goal

-- the row lies in the memory
pub ink_row-requires : goal.ink_row-requires
ink_row-requires c =
    let below : c.cut-down.result.from + c.loop-k.k < c.cut-down.result.to = grind (arith, common_steps) in
    let h = row_inside c.cut-across.ensures (rw plus_zero at c.cut-down.ensures) c.loop-k.k below in
    omega arith

-- before the first row nothing is drawn
pub loop-k-init : goal.loop-k-init
loop-k-init c =
    let a = c.args in
    rows_before c.cut-across.ensures (rw plus_zero at c.cut-down.ensures) a.rows a.color a.pixels.now c.requires.in_order

-- the call draws row k of those that are shown
pub loop-k-preserved : goal.loop-k-preserved
loop-k-preserved c =
    let a = c.args in
    let t = c.cut-down.result in
    let k = c.loop-k.k in
    let below : t.from + k < t.to = grind (arith, common_steps) in
    row_after c.cut-across.ensures (rw plus_zero at c.cut-down.ensures) a.rows a.color a.pixels.now c.requires.in_order k below
    (row_shown a.rows t.skip (t.to - t.from) k (omega arith)) c.loop-k.invariant c.ink_row.ensures

-- all rows that are shown are the glyph on the surface
pub returns : goal.returns
returns c =
    let a = c.args in
    rw (stored32 a.x c.ranges.x, stored32 a.y c.ranges.y)
    at (rows_all c.cut-across.ensures (rw plus_zero at c.cut-down.ensures) a.rows a.color a.pixels.now c.requires.in_order c.loop-k.k c.requires.narrow
    (grind (arith, common_steps)) c.loop-k.invariant)
