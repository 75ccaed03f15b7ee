-- `numbers::slot_of` meets its contract. Assumes nothing.
use Rattle.numbers.proofs.slot_of.Goals as goal

pub returns : goal.returns
returns c =
    rw c.object_of.ensures
