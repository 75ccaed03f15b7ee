-- `panel::set_sides` meets its contract. Assumes nothing.
use native.Mathlib.Omega.{arith}
use lib.ListN.{length-set}
use Rattle.numbers.proofs.Seen.{record_length}
use Rattle.panel.proofs.Sides.{sides_set}
use Rattle.panel.proofs.set_sides.Goals as goal

pub bounds-numbers-3 : goal.bounds-numbers-3
bounds-numbers-3 c = simp length-set (omega (arith, record_length _ c.requires))

pub returns : goal.returns
returns c = sides_set _ c.requires _ _
