-- `lookup::kind_at` meets its contract. Assumes nothing.
use mathlib.Core.Path.{sym, ap}
use Rattle.gdi.specs.Lookup.{kind_at}
use Rattle.numbers.proofs.Seen.{object_dc, object_bitmap, object_brush, object_pen, object_font, part_first}
use Rattle.lookup.proofs.kind_at.Goals as goal

pub returns-in-0 : goal.returns-in-0
returns-in-0 c =
    sym (ap kind_at (object_dc _ _ c.in-0.is))

pub returns-in-1 : goal.returns-in-1
returns-in-1 c =
    sym (ap kind_at (object_bitmap _ _ c.in-1.is))

pub returns-in-2 : goal.returns-in-2
returns-in-2 c =
    rw (object_brush _ _ c.in-2.is, part_first)

pub returns-in-3 : goal.returns-in-3
returns-in-3 c =
    rw (object_pen _ _ c.in-3.is, part_first)

pub returns-in_default : goal.returns-in_default
returns-in_default c =
    sym (ap kind_at (object_font _ _ c.in_default.in_default-own.rest.0.0.0.1 c.in_default.in_default-own.rest.0.0.1 c.in_default.in_default-own.rest.0.1 c.in_default.in_default-own.rest.1))
