-- `pack::table_len` meets its contract. The invariant: the bits of the head, the screen DC and the objects so far. Assumes nothing.
use mathlib.Core.Bool.{true}
use mathlib.Core.List.{List}
use mathlib.Core.Path.{◌≡◌, refl, sym, ap, ◌∙◌}
use Prim.Native.Nat.{ℕ, ◌+◌, ◌≤◌, ◌<◌}
use native.Mathlib.Numerals.{add-one}
use native.Mathlib.Omega.{arith}
use lib.ListN.{length}
use Rattle.std.specs.Slice.Iter.{chunks_exact_rest, chunks_exact_size}
use Rattle.std.proofs.lemmas.List.{length_push}
use Rattle.words.specs.Parts.{part}
use Rattle.bits.specs.Bits.{total, byte_count}
use Rattle.gdi.specs.Lookup.{slot_at}
use Rattle.numbers.specs.Layout.{count_place, slot_place, kind_place, slot_size}
use Rattle.numbers.specs.Block.{at, kind_number}
use Rattle.numbers.specs.View.{view, is_record}
use Rattle.numbers.proofs.Record.{parts}
use Rattle.numbers.proofs.Seen.{count_seen, part_at}
use Rattle.saved_table.specs.Table.{widths_of, slots_bits, saved_table}
use Rattle.saved_table.proofs.Lengths.{kind_total, length_slots, slots_short}
use Rattle.pack.proofs.Lengths.{length_saved}
use Rattle.pack.proofs.Values.{kind_read}
use Rattle.pack.proofs.Chunks.{all_left, next_slot, none_left, slots_long}
use Rattle.pack.proofs.table_len.Goals as goal

module _ (l : List ℕ) (r : is_record l ≡ true) where
  few : (i : ℕ) {n : ℕ} → i ≤ at l count_place → n ≡ 425 + length (slots_bits (view l) i) → n ≤ 100009
  few i h f = omega (arith, slots_short (view l) i, (parts l r).few)

  done : (i : ℕ) {n k : ℕ} → i ≡ at l count_place → n ≡ 425 + length (slots_bits (view l) i) → k ≡ byte_count n → k ≡ length (saved_table (view l))
  done i {n} {k} e f g =
      let whole : n ≡ 425 + length (slots_bits (view l) (view l).count) = f ∙ rw (e, count_seen l) in
      g ∙ ap byte_count whole ∙ sym (length_saved (view l))

  -- one more object, from the numbers of its slot
  more : (i : ℕ) (slot : List ℕ) {k n : ℕ} → i < at l count_place → slot ≡ part l (slot_place i) slot_size → k ≡ total (widths_of (at slot kind_place))
      → n ≡ 425 + length (slots_bits (view l) i) → n + (35 + k) ≡ 425 + length (slots_bits (view l) (i + 1))
  more i slot lt s e f =
      let kind : at slot kind_place ≡ at l (slot_place i + kind_place) = ap (λ x. at x kind_place) s ∙ part_at l (slot_place i) slot_size kind_place (omega arith) in
      let g : total (widths_of (kind_number (slot_at (view l) i).object)) ≡ total (widths_of (at slot kind_place)) = ap (λ (k : ℕ). total (widths_of k)) (kind_read l r i lt ∙ sym kind) in
      rw (add-one i) (omega (arith, length_slots (view l) i))

pub bounds-numbers-8 : goal.bounds-numbers-8
bounds-numbers-8 c =
    omega (arith, (parts c.args.numbers.now c.requires).long)

pub slice_bounds-chunks_exact-end : goal.slice_bounds-chunks_exact-end
slice_bounds-chunks_exact-end c =
    omega (arith, (parts c.args.numbers.now c.requires).long, (parts c.args.numbers.now c.requires).few)

pub loop-slot-init : goal.loop-slot-init
unfolding slots_bits
loop-slot-init c =
    let items = c.into_iter-slot-iterator.ensures.into_iter_gives in
    record {
      left = all_left c.args.numbers.now (at c.args.numbers.now count_place) (ap chunks_exact_rest items ∙ c.chunks_exact-slot-items.ensures.rest) (ap chunks_exact_size items ∙ c.chunks_exact-slot-items.ensures.size);
      bits = refl;
    }

pub overflow_add-bits-in-loop-slot : goal.overflow_add-bits-in-loop-slot
overflow_add-bits-in-loop-slot c =
    omega (arith, c.object_bits.ensures, kind_total (at c.in-Some.slot.now kind_place))

pub overflow_add-bits-in-loop-slot-2 : goal.overflow_add-bits-in-loop-slot-2
overflow_add-bits-in-loop-slot-2 c =
    let s = c.loop-slot in
    omega (arith, c.object_bits.ensures, kind_total (at c.in-Some.slot.now kind_place), few c.args.numbers.now c.requires (length s.yielded) s.invariant.left.few s.invariant.bits)

pub loop-slot-preserved : goal.loop-slot-preserved
loop-slot-preserved c =
    let l = c.args.numbers.now in
    let s = c.loop-slot in
    let next = next_slot l (at l count_place) (slots_long l c.requires) (length s.yielded) s.invariant.left c.in-Some.slot c.next.new.self c.in-Some.ensures.steps in
    rw (length_push s.yielded c.in-Some.slot) (record {
      left = next.1.1;
      bits = more l c.requires (length s.yielded) c.in-Some.slot.now next.0 next.1.0 c.object_bits.ensures s.invariant.bits;
    })

pub returns : goal.returns
returns c =
    let l = c.args.numbers.now in
    let s = c.loop-slot in
    let e = none_left l (at l count_place) (slots_long l c.requires) (length s.yielded) s.invariant.left c.in-None.ensures.steps in
    record {
      value = done l c.requires (length s.yielded) e s.invariant.bits (omega arith);
      upper_bound = omega (arith, few l c.requires (length s.yielded) s.invariant.left.few s.invariant.bits);
    }
