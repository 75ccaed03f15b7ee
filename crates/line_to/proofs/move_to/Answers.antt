-- `line_to::move_to` meets its contract. Assumes nothing.
use mathlib.Core.Path.{sym, ◌∙◌}
use borrow.Author.Rules.{rules}
use Rattle.line_to.proofs.Near.{tested}
use Rattle.line_to.proofs.Moves.{move_made, move_far, move_no_dc}
use Rattle.line_to.proofs.move_to.Goals as goal

pub set_position-requires : goal.set_position-requires
set_position-requires c =
    record {
      numbers_value = c.requires.is_record_lem;
      dc_value = sym c.find_dc.ensures ∙ c.in-Some.is;
    }

pub returns : goal.returns
returns c ms =
    move_made c.args.numbers.now c.args.dc c.args.to c.find_dc.ensures ms c.in-Some.is
    (tested c.args.to (search rules) (search rules) c.is_position.ensures c.if-not-is_position.false)
    c.position_of.ensures c.set_position.ensures

pub returns-then-not-is_position : goal.returns-then-not-is_position
returns-then-not-is_position c ms =
    move_far c.args.numbers.now c.args.dc c.args.to c.find_dc.ensures ms c.in-Some.is
    (tested c.args.to (search rules) (search rules) c.is_position.ensures c.if-not-is_position.true) c.requires.is_record_lem

pub returns-in_default : goal.returns-in_default
returns-in_default c ms =
    move_no_dc c.args.numbers.now c.args.dc c.args.to c.find_dc.ensures ms c.in_default.is c.requires.is_record_lem
