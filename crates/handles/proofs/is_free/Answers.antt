-- `handles::is_free` meets its contract. Assumes nothing.
use Rattle.std.proofs.Common.{◌≡◌, Bool, true, false, not, sym, ap, ◌∙◌, is_none, arith, eq-eqb}
use Rattle.handles.proofs.Absent.{nothing_found}
use Rattle.handles.proofs.Search.{zero_taken, stock_taken, by_absent}
use Rattle.handles.proofs.is_free.Goals as goal
use Rattle.handles.proofs.is_free.Goals.{then-handle-ne0, else-handle-ne0}

pub returns-then-not-is_stock_handle : goal.returns-then-not-is_stock_handle
returns-then-not-is_stock_handle c =
    elim c.if-handle-ne0.branch [
      | then-handle-ne0 w ↦
          let stock : w.is_stock_handle.result ≡ false = grind (arith, w.value-is, c.if-not-is_stock_handle.true) in
          by_absent _ _ _ w.if-handle-ne0.true (sym w.is_stock_handle.ensures ∙ stock)
          (let found : c.is_none.result ≡ is_none c.find.result = grind (arith, c.is_none.ensures) in
          found ∙ ap is_none c.find.ensures ∙ nothing_found _ _ _)
      | else-handle-ne0 w ↦ absurd (grind (arith, w.value-is, c.if-not-is_stock_handle.true, eq-eqb c.args.handle 0 w.if-handle-ne0.false))
    ]

pub returns-else-not-is_stock_handle : goal.returns-else-not-is_stock_handle
returns-else-not-is_stock_handle c =
    c.if-not-is_stock_handle.false ∙ elim c.if-handle-ne0.branch [
      | then-handle-ne0 w ↦
          let stock : w.is_stock_handle.result ≡ true = grind (arith, w.value-is, c.if-not-is_stock_handle.false) in
          stock_taken _ _ _ w.if-handle-ne0.true (sym w.is_stock_handle.ensures ∙ stock)
      | else-handle-ne0 w ↦ zero_taken _ _ _ w.if-handle-ne0.false
    ]
