-- `open::put_fresh` meets its contract. Assumes nothing.
use Rattle.open.proofs.Fresh.{fresh_put}
use Rattle.open.proofs.put_fresh.Goals as goal

pub returns : goal.returns
returns c =
    fresh_put c.args.numbers.now c.copy_from_slice.new.self c.put_dc.new.numbers c.requires c.copy_from_slice.ensures.after c.screen_dc.ensures c.put_dc.auto.numbers c.put_dc.ensures
