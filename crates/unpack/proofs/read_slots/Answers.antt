-- `unpack::read_slots` meets its contract. The invariant: the first i objects were read, and object i begins at bit `at`.
-- Assumes nothing.
use mathlib.Core.Path.{sym, ◌∙◌, ap, subst}
use Prim.Native.Nat.{ℕ}
use native.Mathlib.Omega.{arith}
use Rattle.bits.specs.Bits.{bits_of}
use Rattle.numbers.proofs.Block.{SlotCoded}
use Rattle.numbers.proofs.Slots.{lent_long}
use Rattle.saved_table.specs.Held.{slot_held}
use Rattle.unpack.specs.Inner.{end_held}
use Rattle.unpack.proofs.Starts.{start_none, start_more, start_few, start_next}
use Rattle.unpack.proofs.Read.{no_slots, slots_more}
use Rattle.unpack.proofs.read_slots.Goals as goal

pub loop-i-init : goal.loop-i-init
loop-i-init c =
    record {
      start = sym (start_none (bits_of c.args.bytes.now));
      read = no_slots (bits_of c.args.bytes.now) c.args.numbers.now;
    }

pub read_slot-at-requires : goal.read_slot-at-requires
read_slot-at-requires c =
    let bs = bits_of c.args.bytes.now in
    record {
      at_in_bounds = omega (arith, start_next bs c.loop-i.i c.args.n c.loop-i-test.true, ap (end_held bs) c.loop-i.invariant.start, c.requires.n_in_bounds);
      at_bound = omega (arith, start_few bs c.loop-i.i, c.loop-i.invariant.start, c.requires.n_bound);
      numbers_len = lent_long c.loop-i.numbers c.loop-i.i (c.loop-i.invariant.read.kept.long ∙ c.requires.numbers_len) (omega (arith, c.requires.n_bound));
    }

pub loop-i-preserved : goal.loop-i-preserved
loop-i-preserved c =
    let bs = bits_of c.args.bytes.now in
    let e = c.loop-i.invariant.start in
    let coded = subst (λ (p : ℕ). SlotCoded (slot_held bs p) c.read_slot-at.new.numbers) e c.read_slot-at.ensures.slot_coded in
    let more = slots_more bs c.args.numbers.now c.loop-i.numbers c.read_slot-at.new.numbers c.loop-i.i c.requires.numbers_len (omega (arith, c.requires.n_bound)) c.loop-i.invariant.read c.read_slot-at.auto.numbers coded in
    record {
      start = c.read_slot-at.ensures.value ∙ ap (end_held bs) e ∙ sym (start_more bs c.loop-i.i);
      read = more;
    }
