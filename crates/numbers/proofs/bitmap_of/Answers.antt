-- `numbers::bitmap_of` meets its contract. Assumes nothing.
use borrow.Author.Tests.{eq-eqb, ne_eqb}
use Rattle.numbers.proofs.bitmap_of.Goals as goal

pub returns-then-present-eq1 : goal.returns-then-present-eq1
returns-then-present-eq1 c =
    rw (eq-eqb _ _ c.if-present-eq1.true)

pub returns-else-present-eq1 : goal.returns-else-present-eq1
returns-else-present-eq1 c =
    rw (ne_eqb _ _ c.if-present-eq1.false)
