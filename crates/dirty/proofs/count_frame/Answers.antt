-- `dirty::count_frame` meets its contract. Assumes nothing.
use Rattle.std.proofs.Common.{refl, arith, length-set}
use Rattle.numbers.proofs.Seen.{record_length}
use Rattle.dirty.proofs.Numbers.{counter_set}
use Rattle.dirty.proofs.count_frame.Goals as goal

pub bounds-numbers-4 : goal.bounds-numbers-4
bounds-numbers-4 c =
    omega (arith, record_length _ c.requires)

pub bounds-numbers-5 : goal.bounds-numbers-5
bounds-numbers-5 c =
    omega (arith, record_length _ c.requires)

pub bounds-numbers-4-2 : goal.bounds-numbers-4-2
bounds-numbers-4-2 c =
    omega (arith, record_length _ c.requires)

pub bounds-numbers-5-2 : goal.bounds-numbers-5-2
bounds-numbers-5-2 c =
    simp length-set (omega (arith, record_length _ c.requires))

pub returns : goal.returns
returns c =
    counter_set _ c.requires _ (rw (c.from.ensures, c.from-2.ensures) refl)
