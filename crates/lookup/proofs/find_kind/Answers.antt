-- `lookup::find_kind` meets its contract. Assumes nothing.
use mathlib.Core.Path.{sym, ◌∙◌}
use native.Mathlib.Omega.{arith}
use Rattle.gdi.specs.Lookup.{kind_of}
use Rattle.lookup.proofs.Found.{found_room, found_kind}
use Rattle.lookup.proofs.find_kind.Goals as goal

pub overflow_mul-i : goal.overflow_mul-i
overflow_mul-i c =
    omega (arith, found_room _ c.requires _ c.find.ensures c.in-Some.is)

pub overflow_add-i : goal.overflow_add-i
overflow_add-i c =
    omega (arith, found_room _ c.requires _ c.find.ensures c.in-Some.is)

pub kind_at-requires : goal.kind_at-requires
kind_at-requires c =
    omega (arith, found_room _ c.requires _ c.find.ensures c.in-Some.is)

pub returns-in-Some : goal.returns-in-Some
returns-in-Some c =
    found_kind _ c.requires _ c.find.ensures c.in-Some.is c.kind_at.ensures

pub returns-in-None : goal.returns-in-None
unfolding kind_of
returns-in-None c =
    rw (sym c.find.ensures ∙ c.in-None.is) c.stock_kind.ensures
