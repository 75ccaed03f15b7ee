-- As many digits as there is room for hold n, so that the fewest are no more.
use Rattle.std.proofs.Common.{◌≤◌, length, arith}
use Rattle.output.proofs.Counting.{prefix_len_of_le}
use Rattle.output.proofs.Powers.{digit_count_le}
use Rattle.output.proofs.number.in_base.Goals as goal
use Rattle.output.proofs.number.in_base.Goals.{After-digit_count-k}

count_fits : (c : goal.After-digit_count-k) → c.digit_count-k.result ≤ length c.args.out.now
count_fits c = digit_count_le _ _ _ _ _ (omega arith) c.digit_count-k.ensures c.requires.width.1 c.requires.room

pub write_digits-requires-clause-in_bounds : goal.write_digits-requires-clause-in_bounds
write_digits-requires-clause-in_bounds c = count_fits (goal.at.write_digits-requires-clause-in_bounds c).After-digit_count-k

pub returns-clause-in_bounds : goal.returns-clause-in_bounds
returns-clause-in_bounds c = prefix_len_of_le _ _ (omega (arith, count_fits (goal.at.returns-clause-in_bounds c).After-digit_count-k))
