use Rattle.std.proofs.Common.{◌≡◌, length}
use Rattle.blit.specs.Inner.{rows_from}
use Rattle.blit.proofs.blit_rows.Given as goal

abbrev pub invariant-loop-y : goal.invariant-loop-y
invariant-loop-y l = record {
  rows : l.pixels ≡ rows_from l.r l.width l.src_w l.table l.pat l.y l.src l.initial.pixels;
  size : length l.pixels ≡ length l.initial.pixels;
}
