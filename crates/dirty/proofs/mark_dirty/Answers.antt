-- `dirty::mark_dirty` meets its contract. Assumes nothing.
use Rattle.std.proofs.Common.{refl, arith}
use Rattle.numbers.specs.View.{view}
use Rattle.numbers.proofs.Seen.{found_in, record_length}
use Rattle.numbers.proofs.Kept.{updated_same}
use Rattle.dirty.proofs.Marks.{mark_panel, mark_stock, slot_found, mark_found, mark_none}
use Rattle.dirty.proofs.Numbers.{updated_as, stock_set}
use Rattle.dirty.proofs.mark_dirty.Goals as goal

pub bounds-numbers-7 : goal.bounds-numbers-7
bounds-numbers-7 c =
    omega (arith, record_length _ c.requires.numbers_value)

pub returns-then-h : goal.returns-then-h
returns-then-h c =
    updated_as (mark_stock (view c.args.numbers.now) c.in-Bitmap.is c.if-h.true) (stock_set _ c.requires.numbers_value)

pub mark_slot-requires : goal.mark_slot-requires
mark_slot-requires c =
    record {
      numbers_value = c.requires.numbers_value;
      i_bound = found_in _ _ (slot_found (view c.args.numbers.now) c.in-Bitmap.is c.if-h.false c.requires.slot_value c.in-Some.is);
    }

pub returns-in-Panel : goal.returns-in-Panel
returns-in-Panel c =
    updated_as (mark_panel (view c.args.numbers.now) c.in-Panel.is refl) c.count_frame.ensures

pub returns-in-Some : goal.returns-in-Some
returns-in-Some c =
    updated_as (mark_found (view c.args.numbers.now) c.in-Bitmap.is c.if-h.false (slot_found (view c.args.numbers.now) c.in-Bitmap.is c.if-h.false c.requires.slot_value c.in-Some.is) refl) c.mark_slot.ensures

pub returns-in_default : goal.returns-in_default
returns-in_default c =
    updated_as (mark_none (view c.args.numbers.now) c.in-Bitmap.is c.if-h.false (slot_found (view c.args.numbers.now) c.in-Bitmap.is c.if-h.false c.requires.slot_value c.in_default.is)) (updated_same c.requires.numbers_value)
