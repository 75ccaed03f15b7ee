-- `lookup::find_dc` meets its contract. Assumes nothing.
use mathlib.Core.Path.{sym, ◌∙◌}
use native.Mathlib.Omega.{arith}
use Rattle.gdi.proofs.Lookup.{dc_none}
use Rattle.numbers.proofs.Seen.{record_length}
use Rattle.lookup.proofs.Found.{dc_of_screen, found_dc, found_other}
use Rattle.lookup.proofs.find_dc.Goals as goal

pub slice_bounds-dc_of-end : goal.slice_bounds-dc_of-end
slice_bounds-dc_of-end c =
    omega (arith, record_length _ c.requires)

pub returns-then-handle-eq-GDI_SCREEN_DC : goal.returns-then-handle-eq-GDI_SCREEN_DC
returns-then-handle-eq-GDI_SCREEN_DC c =
    dc_of_screen _ _ c.if-handle-eq-GDI_SCREEN_DC.true c.dc_of-d.ensures

pub returns-then-numbers-p-ne0 : goal.returns-then-numbers-p-ne0
returns-then-numbers-p-ne0 c =
    found_other _ c.requires _ c.find.ensures c.in_ok-i.was c.if-handle-eq-GDI_SCREEN_DC.false c.if-numbers-p-ne0.true

pub returns : goal.returns
returns c =
    found_dc _ c.requires _ c.find.ensures c.in_ok-i.was c.if-handle-eq-GDI_SCREEN_DC.false c.if-numbers-p-ne0.false c.dc_of-d-2.ensures

pub returns-in_err-i : goal.returns-in_err-i
returns-in_err-i c =
    c.from_residual.ensures ∙ dc_none _ _ c.if-handle-eq-GDI_SCREEN_DC.false (sym c.find.ensures ∙ c.in_err-i.was)
