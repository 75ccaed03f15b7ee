-- `place::locate` meets its contract. Assumes nothing.
use native.Mathlib.Omega.{arith}
use borrow.Author.Rules.{rules}
use Rattle.numbers.specs.Layout.{count_place}
use Rattle.numbers.proofs.Seen.{record_length, record_count}
use Rattle.place.proofs.Numbers.{sought_first, object_sound, located_seen, next_small, sought_next, end_seen}
use Rattle.place.proofs.locate.Goals as goal

pub bounds-numbers-8 : goal.bounds-numbers-8
bounds-numbers-8 c =
    omega (arith, record_length _ c.requires.numbers_value)

pub overflow_cast-n : goal.overflow_cast-n
overflow_cast-n c =
    omega (arith, c.shared_slice_known-2-1.given count_place)

pub loop-i-init : goal.loop-i-init
loop-i-init c =
    (search rules, (record_count _ c.requires.numbers_value, (record_length _ c.requires.numbers_value, sought_first c.args.numbers.now c.args.handle)))

pub returns-then-numbers-p : goal.returns-then-numbers-p
returns-then-numbers-p c =
    located_seen c.args.numbers.now c.requires.numbers_value c.requires.numbers_value_2 c.loop-i.i c.loop-i-test.true c.loop-i.invariant.1.1.1 c.if-numbers-p.true c.frame.ensures

pub bytes_of-start-requires : goal.bytes_of-start-requires
bytes_of-start-requires c =
    record {
      slot_size_in_bounds = omega arith;
      object_size_value = object_sound c.args.numbers.now c.requires.numbers_value c.requires.numbers_value_2 c.loop-i.i c.loop-i-test.true;
    }

pub overflow_add-start : goal.overflow_add-start
overflow_add-start c =
    omega (arith, next_small c.args.numbers.now c.requires.numbers_value c.requires.numbers_value_2 c.loop-i.i c.loop-i-test.true c.loop-i.invariant.1.1.1 c.bytes_of-start.ensures)

pub loop-i-preserved : goal.loop-i-preserved
loop-i-preserved c =
    (search rules, (search rules, (search rules, sought_next c.args.numbers.now c.requires.numbers_value c.requires.numbers_value_2 c.loop-i.i c.loop-i-test.true c.loop-i.invariant.1.1.1 c.bytes_of-start.ensures c.if-numbers-p.false)))

pub returns : goal.returns
returns c =
    end_seen c.args.numbers.now c.loop-i-test.false c.loop-i.invariant.1.1.1 c.untabled.ensures
