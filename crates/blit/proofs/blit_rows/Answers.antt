-- `blit::blit_rows` meets its contract. The invariant: the rows above y are drawn. Assumes nothing.
use Rattle.std.proofs.Common.{arith, refl, ◌∙◌}
use Rattle.blit.proofs.From.{first_from, next_from}
use Rattle.blit.proofs.blit_rows.Goals as goal

-- before the first row none is drawn
pub loop-y-init : goal.loop-y-init
loop-y-init c =
    record { rows = first_from c.args.r c.args.width c.args.src_w c.args.table c.args.pat c.args.src.now c.args.pixels.now c.requires; size = refl }

-- row y is one more
pub loop-y-preserved : goal.loop-y-preserved
loop-y-preserved c =
    let a = c.args in
    let l = c.loop-y in
    record {
      rows = next_from a.r a.width a.src_w a.table a.pat a.src.now a.pixels.now c.requires l.y (omega arith) c.loop-y-test.true l.invariant.rows c.blit_row.ensures;
      size = c.blit_row.auto.pixels ∙ l.invariant.size;
    }
