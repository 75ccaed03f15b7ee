-- `primitives::colors::with_rows` meets its contract. The invariant: the line has two digits for each row passed.
use Rattle.std.proofs.Common.{◌≡◌, ◌+◌, ◌*◌, length}
use Rattle.primitives.proofs.colors.with_rows.Given as goal

abbrev pub invariant-loop-row : goal.invariant-loop-row
invariant-loop-row l = (length l.out ≡ 3 + 2 * l.row-index) × (length l.row-items ≡ 8)
