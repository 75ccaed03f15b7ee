-- `line_to::set_position` meets its contract. Assumes nothing.
use mathlib.Core.Path.{refl, sym}
use borrow.Author.Rules.{rules}
use Rattle.lookup.proofs.HasDc.{has_dc}
use Rattle.line_to.proofs.Moves.{position_written}
use Rattle.line_to.proofs.set_position.Goals as goal

pub update_dc-requires : goal.update_dc-requires
update_dc-requires c =
    record {
      numbers_value = c.requires.numbers_value;
      has_dc = has_dc (sym c.requires.dc_value) refl;
    }

pub returns : goal.returns
returns c =
    position_written c.args.numbers.now c.args.dc c.args.to (search rules) (search rules)
    c.requires.dc_value c.with_position-after.ensures c.update_dc.ensures
