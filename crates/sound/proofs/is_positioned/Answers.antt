-- `sound::is_positioned` meets its contract. Assumes nothing.
use Rattle.sound.proofs.Objects.{position_read}
use Rattle.sound.proofs.is_positioned.Goals as goal

pub returns : goal.returns
returns c =
    position_read c.args.numbers.now c.args.p (record { sfits = c.signed-x.type_inv }) (record { sfits = c.signed-y.type_inv }) c.signed-x.ensures c.signed-y.ensures c.is_position.ensures
