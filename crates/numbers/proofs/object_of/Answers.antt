-- `numbers::object_of` meets its contract. Assumes nothing.
use mathlib.Core.Path.{sym, ◌∙◌, ap}
use lib.IntN.{ℤ}
use Rattle.arithmetic.proofs.Machine.{stored32}
use Rattle.gdi.specs.declared.GdiObject.TheVariants.{Font}
use Rattle.numbers.proofs.Seen.{object_brush, object_pen, object_font}
use Rattle.numbers.specs.Block.{object_of}
use Rattle.numbers.proofs.object_of.Goals as goal

pub returns-in-0 : goal.returns-in-0
unfolding object_of
returns-in-0 c =
    rw (c.in-0.is, c.dc_of.ensures)

pub returns-in-1 : goal.returns-in-1
unfolding object_of
returns-in-1 c =
    rw c.in-1.is

pub returns-in-2 : goal.returns-in-2
returns-in-2 c =
    sym (object_brush _ _ c.in-2.is)

pub returns-in-3 : goal.returns-in-3
returns-in-3 c =
    sym (object_pen _ _ c.in-3.is)

pub returns-in_default : goal.returns-in_default
returns-in_default c =
    let r = c.in_default.in_default-own.rest in
    ap (λ (z : ℤ). Font (record { height = z })) (stored32 c.signed.result (record { sfits = c.signed.type_inv }) ∙ c.signed.ensures)
    ∙ sym (object_font _ _ r.0.0.0.1 r.0.0.1 r.0.1 r.1)
