-- `delete::remove` meets its contract. Assumes nothing.
use mathlib.Core.Path.{refl, sym, ◌∙◌, ap}
use Rattle.numbers.proofs.Seen.{found_in}
use Rattle.plan.specs.Answer.{removed}
use Rattle.plan.proofs.Followed.{acceptance_same}
use Rattle.delete.proofs.Gone.{object_read, stays, is_none, leaves, gone_followed}
use Rattle.delete.proofs.remove.Goals as goal

-- a stock object
pub returns-then-is_stock_handle : goal.returns-then-is_stock_handle
returns-then-is_stock_handle c =
    λ panel. acceptance_same c.requires.is_record_lem refl (stays _ _ _ _ _ (sym c.is_stock_handle.ensures ∙ c.if-is_stock_handle.true))

-- no object
pub returns-in_default : goal.returns-in_default
returns-in_default c =
    λ panel. acceptance_same c.requires.is_record_lem refl (is_none _ _ _ _ _ (sym c.is_stock_handle.ensures ∙ c.if-is_stock_handle.false) c.find.ensures c.in_default.is)

-- a created object, which is answered
pub returns : goal.returns
returns c =
    gone_followed _ _ _ c.args.numbers.now _ (leaves _ _ _ _ _ (sym c.is_stock_handle.ensures ∙ c.if-is_stock_handle.false) c.find.ensures c.in-Some.is)
    (ap removed (object_read c.args.numbers.now c.requires.is_record_lem _ (found_in c.args.numbers.now _ (sym c.find.ensures ∙ c.in-Some.is)) c.object_of-o.ensures)) refl
    c.take_out.ensures.updated c.take_out.ensures.store_after
