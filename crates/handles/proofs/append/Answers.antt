-- `handles::append` meets its contract. Assumes nothing.
use Rattle.std.proofs.Common.{refl, arith, length-set}
use Rattle.numbers.proofs.Seen.{record_length}
use Rattle.handles.proofs.Grown.{room, back_long, appended}
use Rattle.handles.proofs.append.Goals as goal

pub bounds-numbers-8 : goal.bounds-numbers-8
bounds-numbers-8 c =
    omega (arith, record_length _ c.requires.numbers_value)

pub slice_bounds-put_slot-end : goal.slice_bounds-put_slot-end
slice_bounds-put_slot-end c =
    let p = c.requires in omega (arith, room _ p.numbers_value p.count_place_bound)

pub bounds-numbers-6 : goal.bounds-numbers-6
bounds-numbers-6 c =
    let p = c.requires in
    omega (arith, back_long _ p.numbers_value p.count_place_bound c.put_slot.new.numbers c.put_slot.auto.numbers)

pub bounds-numbers-8-2 : goal.bounds-numbers-8-2
bounds-numbers-8-2 c =
    let p = c.requires in
    simp length-set (omega (arith, back_long _ p.numbers_value p.count_place_bound c.put_slot.new.numbers c.put_slot.auto.numbers))

pub returns : goal.returns
returns c =
    let p = c.requires in
    appended _ p.numbers_value p.count_place_bound c.put_slot.new.numbers c.put_slot.auto.numbers refl c.put_slot.ensures
