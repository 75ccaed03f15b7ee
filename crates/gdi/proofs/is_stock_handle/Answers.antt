-- `gdi::is_stock_handle` meets its contract. Assumes nothing.
use native.Mathlib.Omega.{arith}
use Rattle.gdi.proofs.Stock.{stock_row, stock_key, stock_low, stock_high}
use Rattle.gdi.proofs.is_stock_handle.Goals as goal

pub returns-in_default : goal.returns-in_default
returns-in_default c =
    stock_low _ (omega arith) c.in_default.in_default-own.rest.1

pub returns-in_default-2 : goal.returns-in_default-2
returns-in_default-2 c =
    stock_high _ (omega arith) c.in_default.in_default-own.rest.1

pub returns-in-3735883200 : goal.returns-in-3735883200
returns-in-3735883200 c =
    stock_key _ c.in-3735883200.is

pub returns-in-3735883200-2 : goal.returns-in-3735883200-2
returns-in-3735883200-2 c =
    stock_row _ (omega arith) (omega arith)
