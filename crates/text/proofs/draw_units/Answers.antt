-- `text::draw_units` meets its contract. The invariant: the units before k are drawn. Assumes nothing.
use mathlib.Core.List.{List, []}
use mathlib.Core.Path.{ap}
use lib.ListN.{get_or}
use Rattle.std.proofs.Common.{rules, ◌+ℤ◌, pos, ℕ}
use Rattle.arithmetic.proofs.Machine.{stored32}
use Rattle.glyph.specs.Inner.{Shown}
use Rattle.glyph.proofs.Glyph.{glyph_narrow}
use Rattle.glyph.proofs.Reach.{plus_zero}
use Rattle.text.proofs.Drawn.{all_missed, first_unit, next_unit, last_unit}
use Rattle.text.proofs.draw_units.Goals as goal

-- a text above or below the surface
pub returns-then-down : goal.returns-then-down
returns-then-down c =
    let a = c.args in
    let down : Shown (a.y +ℤ pos 0) 8 a.height c.cut-down.result = search rules in
    all_missed a.width a.height a.s.now a.n a.x a.y a.color.0 a.pixels.now c.requires.in_order c.cut-down.result (rw plus_zero at down) c.if-down.true

-- the units before the first end left of the surface
pub loop-k-init : goal.loop-k-init
loop-k-init c = first_unit _ _ _ _ _ _ _ _ c.requires.in_order c.units_reached-units.ensures

-- the rows are a glyph's, whose ink is in the first five columns
pub draw_glyph-requires-clause-narrow : goal.draw_glyph-requires-clause-narrow
draw_glyph-requires-clause-narrow c =
    glyph_narrow c.glyph_for.result (ap (λ (table : List (List ℕ)). get_or table c.glyph_for.result []) c.glyphs-glyphs.ensures)

-- unit k is one more
pub loop-k-preserved : goal.loop-k-preserved
loop-k-preserved c =
    next_unit _ _ _ _ _ _ _ _ c.requires.in_order c.units_reached-units.ensures c.loop-k.invariant c.loop-k-test.true c.glyph_for.ensures.0
    (ap (λ (table : List (List ℕ)). get_or table c.glyph_for.result []) c.glyphs-glyphs.ensures) c.draw_glyph.ensures c.draw_glyph.auto.pixels

-- the units after the last start right of the surface
pub returns : goal.returns
returns c =
    rw (stored32 c.args.x c.ranges.x, stored32 c.args.y c.ranges.y)
    at (last_unit _ _ _ _ _ _ _ _ c.requires.in_order c.units_reached-units.ensures c.loop-k.invariant c.loop-k-test.false)
