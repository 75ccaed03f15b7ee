-- `removal::remove_slot` meets its contract. The invariant: the numbers from slot i up to k are those one slot later. Assumes
-- nothing.
use mathlib.Core.Path.{◌≡◌, refl}
use Prim.Native.Nat.{◌-◌}
use native.Mathlib.Omega.{arith}
use lib.ListN.{length-set}
use Rattle.numbers.specs.Layout.{slot_size, count_place, slot_place}
use Rattle.numbers.specs.Block.{at}
use Rattle.numbers.proofs.Seen.{record_length, record_count}
use Rattle.memory.proofs.Gap.{moved_none, moved_more}
use Rattle.removal.proofs.Without.{last_room, moved_down}
use Rattle.removal.proofs.remove_slot.Goals as goal

pub bounds-numbers-8 : goal.bounds-numbers-8
bounds-numbers-8 c =
    omega (arith, record_length _ c.requires.numbers_value)

pub overflow_cast-end : goal.overflow_cast-end
overflow_cast-end c =
    omega (arith, record_count _ c.requires.numbers_value)

pub overflow_mul-end : goal.overflow_mul-end
overflow_mul-end c =
    omega (arith, record_count _ c.requires.numbers_value)

pub overflow_add-end : goal.overflow_add-end
overflow_add-end c =
    omega (arith, record_count _ c.requires.numbers_value)

pub overflow_mul-k : goal.overflow_mul-k
overflow_mul-k c =
    omega (arith, record_count _ c.requires.numbers_value)

pub overflow_add-k : goal.overflow_add-k
overflow_add-k c =
    omega (arith, record_count _ c.requires.numbers_value)

pub loop-k-init : goal.loop-k-init
loop-k-init c = (
  moved_none c.args.numbers.now (slot_place c.args.i) slot_size,
  (refl, (last_room c.args.numbers.now c.requires.numbers_value c.args.i c.requires.i_bound, (record_length _ c.requires.numbers_value, (omega arith, omega arith)))),
)

pub loop-k-preserved : goal.loop-k-preserved
loop-k-preserved c =
    let l = c.loop-k in
    let a = c.args in (
      moved_more a.numbers.now (slot_place a.i) slot_size 0 l.numbers l.k (omega arith) (omega arith) l.invariant.0,
      (simp length-set l.invariant.1.0, (l.invariant.1.1.0, (l.invariant.1.1.1.0, (omega arith, omega arith)))),
    )

pub returns : goal.returns
returns c =
    let l = c.loop-k in
    let f : l.k ≡ slot_place (at c.args.numbers.now count_place - 1) = omega arith in
    moved_down c.args.numbers.now c.requires.numbers_value c.args.i c.requires.i_bound l.numbers (rw f at l.invariant.0)
