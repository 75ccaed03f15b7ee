-- `sound::scan_slots` meets its contract. Assumes nothing.
use mathlib.Core.Path.{refl, sym, ◌∙◌}
use native.Mathlib.Omega.{arith}
use Rattle.sound.proofs.Slots.{none_passed, pass_more, all_passed, malformed, handle_unfit, object_unfit}
use Rattle.sound.proofs.scan_slots.Goals as goal
use Rattle.sound.proofs.scan_slots.Goals.{then-not-is_slot-via-then-not-is_slot, then-not-is_slot-via-else-not-is_slot+then-not-handle_fits, then-not-is_slot-via-else-not-is_slot+else-not-handle_fits+then-not-object_fits}

pub loop-i-init : goal.loop-i-init
loop-i-init c =
    none_passed c.args.numbers.now

pub returns-then-not-is_slot : goal.returns-then-not-is_slot
returns-then-not-is_slot c =
    let l = c.args.numbers.now in
    let i = c.loop-i.i in
    elim c.then-not-is_slot.branch [
      | then-not-is_slot-via-then-not-is_slot w ↦ malformed l c.requires.count_place_bound i c.loop-i-test.true (sym c.is_slot.ensures ∙ w.if-not-is_slot.true)
      | then-not-is_slot-via-else-not-is_slot+then-not-handle_fits w ↦ handle_unfit l c.requires.count_place_bound i c.loop-i-test.true (sym w.handle_fits.ensures ∙ w.if-not-handle_fits.true)
      | then-not-is_slot-via-else-not-is_slot+else-not-handle_fits+then-not-object_fits w ↦ object_unfit l c.requires.count_place_bound i c.loop-i-test.true (sym w.handle_fits.ensures ∙ w.if-not-handle_fits.false) (sym w.object_fits.ensures ∙ w.if-not-object_fits.true)
    ]

pub loop-i-preserved : goal.loop-i-preserved
loop-i-preserved c =
    pass_more c.args.numbers.now c.requires.count_place_bound c.loop-i.i c.loop-i-test.true c.loop-i.invariant (sym c.is_slot.ensures ∙ c.if-not-is_slot.false)
    (sym c.handle_fits.ensures ∙ c.if-not-handle_fits.false) (sym c.object_fits.ensures ∙ c.if-not-object_fits.false) c.bytes_of-end.ensures refl

pub returns : goal.returns
returns c =
    all_passed c.args.numbers.now {i = c.loop-i.i} (omega arith) c.loop-i.invariant
