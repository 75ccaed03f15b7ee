use Prim.Native.Nat.{◌-◌}
use Rattle.fill.proofs.Rows.{AtRow}
use Rattle.fill.proofs.rop_rows.Given as goal

abbrev pub invariant-loop-r : goal.invariant-loop-r
invariant-loop-r l = AtRow l.width l.x0 l.columns l.y0 l.y1 l.table l.pat l.initial.pixels l.start l.r l.pixels

abbrev pub decreases-loop-r : goal.decreases-loop-r
decreases-loop-r l = l.y1 - l.r
