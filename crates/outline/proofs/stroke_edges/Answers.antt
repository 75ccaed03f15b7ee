-- `outline::stroke_edges` meets its contract: four sides. Assumes nothing.
use Rattle.outline.proofs.Sides.{four_sides}
use Rattle.outline.proofs.stroke_edges.Goals as goal

-- the four sides are drawn one after another
pub returns : goal.returns
returns c = four_sides c.args.width c.args.color c.args.x c.args.y c.args.pixels.now c.stroke_side.ensures c.stroke_side-2.ensures c.stroke_side-3.ensures c.stroke_side-4.ensures
