-- `blit_within::rows_within` meets its contract: each order reads no row after it is drawn. The invariants: the rows above y, and the
-- rows from y on, are drawn. Assumes nothing.
use Rattle.std.proofs.Common.{◌≡◌, ◌+◌, ◌-◌, arith, refl, ◌∙◌}
use Rattle.blit_within.proofs.Within.{first_within, next_down, next_up}
use Rattle.blit_within.proofs.rows_within.Goals as goal

-- no row is drawn yet
pub loop-y-init : goal.loop-y-init
loop-y-init c = record { rows = first_within _ _ _ _ _ _ _ _ c.requires _; size = refl }

pub loop-y-else-r-init : goal.loop-y-else-r-init
loop-y-else-r-init c = record { rows = first_within _ _ _ _ _ _ _ _ c.requires _; size = refl; above = c.requires.across.rows_ordered }

-- row y is one more
pub loop-y-preserved : goal.loop-y-preserved
loop-y-preserved c =
    let l = c.loop-y in
    record {
      rows = next_down _ _ _ _ _ _ _ _ c.requires l.y c.if-r.true (omega arith) c.loop-y-test.true l.invariant.rows c.row_within.ensures;
      size = c.row_within.auto.mem ∙ l.invariant.size;
    }

-- row y - 1 is one more
pub loop-y-else-r-preserved : goal.loop-y-else-r-preserved
loop-y-else-r-preserved c =
    let l = c.loop-y-else-r in
    let row = c.row_within-in-loop-y-else-r in
    let one : l.y ≡ l.y - 1 + 1 = omega arith in
    record {
      rows = next_up _ _ _ _ _ _ _ _ c.requires (l.y - 1) (omega arith) (omega arith) (omega arith) (rw one at l.invariant.rows) row.ensures;
      size = row.auto.mem ∙ l.invariant.size;
      above = omega arith;
    }
