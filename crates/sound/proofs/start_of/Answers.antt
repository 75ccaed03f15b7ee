-- `sound::start_of` meets its contract. Assumes nothing.
use native.Mathlib.Omega.{arith}
use Rattle.numbers.specs.View.{view}
use Rattle.numbers.proofs.Seen.{record_count}
use Rattle.sound.proofs.Bytes.{start_none, start_more}
use Rattle.sound.proofs.Slots.{slot_room, fits_seen, bytes_seen, bytes_small}
use Rattle.sound.proofs.start_of.Goals as goal

pub loop-i-init : goal.loop-i-init
loop-i-init c =
    (start_none (view c.args.numbers.now), omega arith)

pub bytes_of-end-requires : goal.bytes_of-end-requires
bytes_of-end-requires c =
    record {
      slot_size_in_bounds = slot_room _ c.requires.numbers_value _ (omega arith);
      object_size_value = fits_seen c.args.numbers.now c.requires.numbers_value _ (omega arith) c.requires.numbers_value_2;
    }

pub overflow_add-end : goal.overflow_add-end
overflow_add-end c =
    omega (arith, bytes_small c.args.numbers.now c.requires.numbers_value c.loop-i.i (omega arith) c.requires.numbers_value_2 c.bytes_of-end.ensures, record_count _ c.requires.numbers_value)

pub loop-i-preserved : goal.loop-i-preserved
loop-i-preserved c = (
  start_more (view c.args.numbers.now) c.loop-i.i c.loop-i.invariant.0 (bytes_seen c.args.numbers.now c.requires.numbers_value c.loop-i.i (omega arith) c.bytes_of-end.ensures),
  omega (arith, bytes_small c.args.numbers.now c.requires.numbers_value c.loop-i.i (omega arith) c.requires.numbers_value_2 c.bytes_of-end.ensures),
)

pub returns-clause-upper_bound : goal.returns-clause-upper_bound
returns-clause-upper_bound c =
    omega (arith, record_count _ c.requires.numbers_value)
