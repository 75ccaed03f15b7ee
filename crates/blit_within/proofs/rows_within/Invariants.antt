use Rattle.std.proofs.Common.{◌≡◌, ◌≤◌, length}
use Rattle.blit_within.specs.Inner.{rows_within}
use Rattle.blit_within.proofs.rows_within.Given as goal

abbrev pub invariant-loop-y : goal.invariant-loop-y
invariant-loop-y l = record {
  rows : l.mem ≡ rows_within l.r l.p.at l.p.width l.p.src_at l.p.src_w l.table l.pat l.r.y0 l.y l.initial.mem;
  size : length l.mem ≡ length l.initial.mem;
}

abbrev pub invariant-loop-y-else-r : goal.invariant-loop-y-else-r
invariant-loop-y-else-r l = record {
  rows : l.mem ≡ rows_within l.r l.p.at l.p.width l.p.src_at l.p.src_w l.table l.pat l.y l.r.y1 l.initial.mem;
  size : length l.mem ≡ length l.initial.mem;
  above : l.r.y0 ≤ l.y;
}
