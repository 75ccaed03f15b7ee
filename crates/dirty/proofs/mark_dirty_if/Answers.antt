-- `dirty::mark_dirty_if` meets its contract. Assumes nothing.
use Rattle.dirty.proofs.Numbers.{due_updated, undue_updated}
use Rattle.dirty.proofs.mark_dirty_if.Goals as goal

pub returns-then-due : goal.returns-then-due
returns-then-due c =
    due_updated _ _ c.if-due.true c.mark_dirty.ensures

pub returns-else-due : goal.returns-else-due
returns-else-due c =
    undue_updated _ _ c.requires.numbers_value c.if-due.false
