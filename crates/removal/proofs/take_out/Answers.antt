-- `removal::take_out` meets its contract. Assumes nothing.
use native.Mathlib.Omega.{arith}
use Rattle.numbers.proofs.Seen.{record_length, record_count}
use Rattle.sound.proofs.Sound.{parts}
use Rattle.sound.proofs.Slots.{slot_room, fits_seen}
use Rattle.removal.proofs.Gaps.{gap_room, gap_closed}
use Rattle.removal.proofs.take_out.Goals as goal

pub bounds-numbers-8 : goal.bounds-numbers-8
bounds-numbers-8 c =
    omega (arith, record_length _ c.requires.numbers_value)

pub overflow_cast-count : goal.overflow_cast-count
overflow_cast-count c =
    omega (arith, record_count _ c.requires.numbers_value)

pub start_of-p-requires : goal.start_of-p-requires
start_of-p-requires c =
    let q = c.requires in
    record {
      numbers_value = q.numbers_value;
      numbers_value_2 = (parts _ q.numbers_value_2).slots;
      n_bound = omega arith;
    }

pub start_of-end-requires : goal.start_of-end-requires
start_of-end-requires c =
    let q = c.requires in
    record {
      numbers_value = q.numbers_value;
      numbers_value_2 = (parts _ q.numbers_value_2).slots;
      n_bound = omega arith;
    }

pub overflow_mul-i : goal.overflow_mul-i
overflow_mul-i c =
    omega (arith, record_count _ c.requires.numbers_value)

pub overflow_add-i : goal.overflow_add-i
overflow_add-i c =
    omega (arith, record_count _ c.requires.numbers_value)

pub bytes_of-n-requires : goal.bytes_of-n-requires
bytes_of-n-requires c =
    let lt = c.requires.i_bound in
    record {
      slot_size_in_bounds = slot_room _ c.requires.numbers_value _ lt;
      object_size_value = fits_seen c.args.numbers.now c.requires.numbers_value c.args.i lt (parts _ c.requires.numbers_value_2).slots;
    }

pub close_up-requires : goal.close_up-requires
close_up-requires c =
    gap_room c.args.numbers.now c.requires.numbers_value c.args.i c.requires.i_bound
    c.start_of-p.ensures.value c.bytes_of-n.ensures c.start_of-end.ensures.value
    c.requires.numbers_value_2 c.args.store.now c.requires.store_len

pub returns : goal.returns
returns c =
    record {
      updated = c.remove_slot.ensures;
      store_after = gap_closed c.args.numbers.now c.requires.numbers_value c.args.i c.requires.i_bound
          c.start_of-p.ensures.value c.bytes_of-n.ensures c.start_of-end.ensures.value
          c.args.store.now c.close_up.ensures;
    }
