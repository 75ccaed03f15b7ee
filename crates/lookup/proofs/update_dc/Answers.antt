-- `lookup::update_dc` meets its contract. Assumes nothing.
use native.Mathlib.Omega.{arith}
use Rattle.numbers.proofs.Seen.{record_length}
use Rattle.lookup.proofs.Updates.{spot_room, updated_screen, updated_created}
use Rattle.lookup.proofs.update_dc.Goals as goal

pub slice_bounds-put_dc-end : goal.slice_bounds-put_dc-end
slice_bounds-put_dc-end c =
    omega (arith, record_length _ c.requires.numbers_value)

pub overflow_mul-p : goal.overflow_mul-p
overflow_mul-p c =
    omega (arith, spot_room _ c.requires.numbers_value _ c.requires.has_dc c.in-Created.is)

pub overflow_add-p : goal.overflow_add-p
overflow_add-p c =
    omega (arith, spot_room _ c.requires.numbers_value _ c.requires.has_dc c.in-Created.is)

pub overflow_add-p-in-Created : goal.overflow_add-p-in-Created
overflow_add-p-in-Created c =
    omega (arith, spot_room _ c.requires.numbers_value _ c.requires.has_dc c.in-Created.is)

pub overflow_add-p-in-Created-2 : goal.overflow_add-p-in-Created-2
overflow_add-p-in-Created-2 c =
    omega (arith, spot_room _ c.requires.numbers_value _ c.requires.has_dc c.in-Created.is)

pub offset_bounds-numbers-p : goal.offset_bounds-numbers-p
offset_bounds-numbers-p c =
    omega (arith, spot_room _ c.requires.numbers_value _ c.requires.has_dc c.in-Created.is)

pub slice_bounds-put_dc-end-in-Created : goal.slice_bounds-put_dc-end-in-Created
slice_bounds-put_dc-end-in-Created c =
    omega (arith, spot_room _ c.requires.numbers_value _ c.requires.has_dc c.in-Created.is)

pub returns-in-Screen : goal.returns-in-Screen
returns-in-Screen c =
    updated_screen _ c.requires.numbers_value _ c.put_dc.new.numbers c.in-Screen.is c.put_dc.auto.numbers c.put_dc.ensures

pub returns-in-Created : goal.returns-in-Created
returns-in-Created c =
    updated_created _ c.requires.numbers_value _ c.requires.has_dc c.in-Created.is c.put_dc-in-Created.new.numbers c.put_dc-in-Created.auto.numbers c.put_dc-in-Created.ensures
