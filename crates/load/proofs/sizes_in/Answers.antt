-- `load::sizes_in` meets its contract. Assumes nothing.
use mathlib.Core.Path.{sym}
use native.Mathlib.Omega.{arith}
use Rattle.load.proofs.Table.{not_complete, not_sound, not_saved, few_pixels, table_sizes}
use Rattle.load.proofs.sizes_in.Goals as goal

pub returns-then-not-is_complete : goal.returns-then-not-is_complete
returns-then-not-is_complete c =
    not_complete c.args.bytes.now (sym c.if-not-is_complete.ensures)

pub returns-in_err-end : goal.returns-in_err-end
returns-in_err-end c =
    rw c.from_residual.ensures (not_sound c.args.bytes.now c.read_table.ensures c.in_err-end.ensures)

pub returns-then-not-is_table_of : goal.returns-then-not-is_table_of
returns-then-not-is_table_of c =
    not_saved c.args.bytes.now c.read_table.ensures (sym c.if-not-is_table_of.ensures)

pub overflow_mul-result-2 : goal.overflow_mul-result-2
overflow_mul-result-2 c =
    omega (arith, few_pixels c.args.bytes.now c.read_table.ensures c.in_ok-end.ensures)

pub returns : goal.returns
returns c =
    table_sizes c.args.bytes.now c.read_table.ensures c.in_ok-end.ensures (sym c.if-not-is_table_of.ensures)
