-- `place::where_is` meets its contract. Assumes nothing.
use native.Mathlib.Omega.{arith}
use Rattle.numbers.proofs.Seen.{record_length}
use Rattle.place.proofs.Places.{placed_stock, placed_created}
use Rattle.place.proofs.Numbers.{panel_seen}
use Rattle.place.proofs.where_is.Goals as goal

pub bounds-numbers-2 : goal.bounds-numbers-2
bounds-numbers-2 c =
    omega (arith, record_length _ c.requires.numbers_value)

pub bounds-numbers-3 : goal.bounds-numbers-3
bounds-numbers-3 c =
    omega (arith, record_length _ c.requires.numbers_value)

pub returns-then-h : goal.returns-then-h
returns-then-h c =
    rw c.untabled-then-h.ensures (placed_stock _ c.requires.numbers_value_2 c.in-Bitmap.is c.if-h.true)

pub returns-in-Panel : goal.returns-in-Panel
returns-in-Panel c =
    panel_seen c.args.numbers.now c.requires.numbers_value_2 c.in-Panel.is c.untabled.ensures

pub returns-else-h : goal.returns-else-h
returns-else-h c =
    placed_created _ c.requires.numbers_value_2 c.in-Bitmap.is c.if-h.false c.locate.ensures
