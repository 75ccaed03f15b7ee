-- `snapshot::snapshot` meets its contract. Assumes nothing.
use native.Mathlib.Omega.{arith}
use Rattle.std.proofs.lemmas.Result.{err_from_is_err_and}
use Rattle.snapshot.proofs.Refusal.{panel_refused, made}
use Rattle.snapshot.proofs.snapshot.Goals as goal

-- What the record check refuses, a snapshot refuses with the same number.
pub returns-in_err-check_panel : goal.returns-in_err-check_panel
returns-in_err-check_panel g c =
    let p = err_from_is_err_and c.from_residual.result c.from_residual.ensures.1 in
    rw (p.1, p.2) (panel_refused _ _ c.in_err-check_panel.ensures)

-- The output has the length that is wanted: it becomes the picture.
pub returns : goal.returns
returns g c =
    made _ c.in_ok-check_panel.ensures c.len.ensures (omega arith) c.write.ensures
