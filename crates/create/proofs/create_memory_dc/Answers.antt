-- `create::create_memory_dc` meets its contract. Assumes nothing.
use Rattle.create.proofs.create_memory_dc.Goals as goal

pub returns : goal.returns
returns c =
    rw (← c.default_dc.ensures) c.make.ensures
