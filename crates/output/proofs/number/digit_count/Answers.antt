-- The logarithm, rounded down, is one less than the number of digits.
use Rattle.output.proofs.Powers.{count_of_log}
use Rattle.output.proofs.number.digit_count.Goals as goal

pub returns : goal.returns
returns c =
    let log = rw c.max.ensures at c.ilog.ensures in
    count_of_log _ _ _ c.ilog.result _ c.requires.base c.requires.width_nonzero log.power_le log.next_power_gt c.max-2.ensures
