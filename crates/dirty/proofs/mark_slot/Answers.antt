-- `dirty::mark_slot` meets its contract. Assumes nothing.
use Rattle.std.proofs.Common.{arith}
use Rattle.dirty.proofs.Numbers.{room, other_kept, bitmap_set}
use Rattle.dirty.proofs.mark_slot.Goals as goal

pub overflow_mul-p : goal.overflow_mul-p
overflow_mul-p c =
    omega (arith, room _ c.requires.numbers_value _ c.requires.i_bound)

pub overflow_add-p : goal.overflow_add-p
overflow_add-p c =
    omega (arith, room _ c.requires.numbers_value _ c.requires.i_bound)

pub overflow_add-p-2 : goal.overflow_add-p-2
overflow_add-p-2 c =
    omega (arith, room _ c.requires.numbers_value _ c.requires.i_bound)

pub offset_bounds-numbers-p : goal.offset_bounds-numbers-p
offset_bounds-numbers-p c =
    omega (arith, room _ c.requires.numbers_value _ c.requires.i_bound)

pub bounds-numbers-p : goal.bounds-numbers-p
bounds-numbers-p c =
    omega (arith, room _ c.requires.numbers_value _ c.requires.i_bound)

pub overflow_add-numbers : goal.overflow_add-numbers
overflow_add-numbers c =
    omega (arith, room _ c.requires.numbers_value _ c.requires.i_bound)

pub offset_bounds-numbers-p-then-numbers-p-eq1 : goal.offset_bounds-numbers-p-then-numbers-p-eq1
offset_bounds-numbers-p-then-numbers-p-eq1 c =
    omega (arith, room _ c.requires.numbers_value _ c.requires.i_bound)

pub bounds-numbers-p-then-numbers-p-eq1 : goal.bounds-numbers-p-then-numbers-p-eq1
bounds-numbers-p-then-numbers-p-eq1 c =
    omega (arith, room _ c.requires.numbers_value _ c.requires.i_bound)

pub returns-then-numbers-p-eq1 : goal.returns-then-numbers-p-eq1
returns-then-numbers-p-eq1 c =
    bitmap_set _ c.requires.numbers_value _ c.requires.i_bound c.if-numbers-p-eq1.true

pub returns-else-numbers-p-eq1 : goal.returns-else-numbers-p-eq1
returns-else-numbers-p-eq1 c =
    other_kept _ c.requires.numbers_value _ c.requires.i_bound c.if-numbers-p-eq1.false
