-- `panel::fill` meets its contract. Assumes nothing.
use borrow.Author.Rules.{rules}
use Rattle.panel.proofs.Cases.{filled}
use Rattle.panel.proofs.Sides.{filled_seen}
use Rattle.panel.proofs.fill.Goals as goal

pub returns : goal.returns
returns c =
    filled c.args.numbers.now c.args.panel.now _ c.requires.ready.sound c.requires.ready.panel (search rules) c.mark_dirty.ensures (filled_seen c.args.numbers.now c.args.panel.now _ c.fill_run.ensures)
