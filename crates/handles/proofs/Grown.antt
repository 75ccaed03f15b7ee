-- Numbers in which a slot was written after the last object and the count was raised by one encode the record with that object.
-- Assumes nothing.
use Rattle.std.proofs.Common.{◌≡◌, ℕ, suc, ◌+◌, ◌<◌, ◌≤◌, Bool, true, cond, ltb, List, length, drop, set, sym, ap, ◌∙◌, arith, length-set, get_or-set_other, get_or-set_same, lt-ltb}
use native.Mathlib.Decide.{ℕ_discrete}
use lib.Seq.{set_split}
use Rattle.arithmetic.proofs.Test.{all_of, same_order}
use Rattle.words.specs.Parts.{part}
use Rattle.words.proofs.Parts.{part_same}
use Rattle.gdi.specs.declared.Slot.{Slot}
use Rattle.gdi.specs.declared.GdiObject.{GdiObject}
use Rattle.gdi.specs.Record.{vacant_slot}
use Rattle.gdi.specs.Updates.{with_objects}
use Rattle.numbers.specs.Layout.{dc_size, slot_size, head_size, record_size, next_handle_place, stock_dirty_place, count_place, screen_place, slot_place}
use Rattle.numbers.specs.Block.{at, is_dc, slot_of, is_slot}
use Rattle.numbers.specs.View.{slot_in, slot_table, view, is_record, Updated}
use Rattle.numbers.proofs.Block.{SlotCoded}
use Rattle.numbers.proofs.Record.{parts, by_slots}
use Rattle.numbers.proofs.View.{length_table, table_set}
use Rattle.numbers.proofs.Slots.{lent_slot, slot_back, lent_long, slot_back_lem}
use Rattle.numbers.proofs.Updates.{KeptBut, objects_seen}
use Rattle.numbers.proofs.Kept.{Kept, kept_all, kept_set, kept_part, part_kept, tail_kept}
use Rattle.handles.specs.Handles.{ahead, inserted, added_as}

-- slot i of n, from the numbers of slot i of m of another record
slot_as : (l l' : List ℕ) (m n i : ℕ) → ltb i n ≡ ltb i m → part l' (slot_place i) slot_size ≡ part l (slot_place i) slot_size → slot_in l' n i ≡ slot_in l m i
slot_as l l' m n i e f = rw (e, f)

-- l with a slot written after its last object, and then with another next handle and a count of one more
module _ (l m l' : List ℕ) (r : is_record l ≡ true) (few : at l count_place < 256) (put : Kept l (slot_place (at l count_place)) slot_size m) (counted : Kept m 0 head_size l') (same : KeptBut m l' next_handle_place count_place)
    {next : ℕ} (named : at l' next_handle_place ≡ next) (count : at l' count_place ≡ at l count_place + 1) {s : Slot} (coded : SlotCoded s (part m (slot_place (at l count_place)) slot_size)) where
  number : KeptBut l l' next_handle_place count_place
  number k h a b = same k h a b ∙ put.same k (λ x y. omega arith)

  stock : at l' stock_dirty_place ≡ at l stock_dirty_place
  stock = number stock_dirty_place (omega arith) (λ x. omega arith) (λ x. omega arith)

  screen : part l' screen_place dc_size ≡ part l screen_place dc_size
  screen = part_kept counted screen_place dc_size (λ j a b c d. omega arith) ∙ part_kept put screen_place dc_size (λ j a b c d. omega arith)

  slots_kept : (j : ℕ) → part l' (slot_place j) slot_size ≡ part m (slot_place j) slot_size
  slots_kept j = part_kept counted (slot_place j) slot_size (λ k a b c d. omega arith)

  other : (j : ℕ) → (j ≡ at l count_place → ⊥) → part l' (slot_place j) slot_size ≡ part l (slot_place j) slot_size
  other j ne = slots_kept j ∙ part_kept put (slot_place j) slot_size (λ k a b c d. omega arith)

  there : slot_in l' (at l' count_place) (at l count_place) ≡ s
  there =
      ap (λ (t : Bool). cond t (slot_of (part l' (slot_place (at l count_place)) slot_size)) vacant_slot) (lt-ltb (at l count_place) (at l' count_place) (omega arith))
      ∙ ap slot_of (slots_kept (at l count_place)) ∙ coded.same

  table : slot_table l' (at l' count_place) ≡ inserted (slot_table l (at l count_place)) (at l count_place) s
  table =
      sym (table_set (slot_in l (at l count_place)) (slot_in l' (at l' count_place)) (at l count_place) few
      (λ j h ne. sym (slot_as l l' (at l count_place) (at l' count_place) j (same_order (suc j) (at l' count_place) (suc j) (at l count_place) (λ x. omega arith) (λ x. omega arith)) (other j ne))))
      ∙ ap (λ (x : Slot). set (slot_table l (at l count_place)) (at l count_place) x) there
      ∙ set_split (slot_table l (at l count_place)) (at l count_place) s (omega (arith, length_table (slot_in l (at l count_place)) 0 256))

  slots : (j : ℕ) → j < at l' count_place → Dec (j ≡ at l count_place) → is_slot (part l' (slot_place j) slot_size) ≡ true
  slots j h (yes e) = rw e (ap is_slot (slots_kept (at l count_place)) ∙ coded.is_slot_lem)
  slots j h (no ne) = ap is_slot (other j ne) ∙ (parts l r).slots j (omega arith)

  again : is_record l' ≡ true
  again =
      sym (by_slots l' (counted.long ∙ put.long ∙ (parts l r).long) (omega (arith, stock, (parts l r).flag)) (omega arith) (ap is_dc screen ∙ (parts l r).screen))
      ∙ all_of (at l' count_place) (λ i. is_slot (part l' (slot_place i) slot_size)) (λ i h. slots i h (ℕ_discrete i (at l count_place)))

  seen : view l' ≡ with_objects (view l) next ((view l).count + 1) (inserted (view l).objects (view l).count s)
  unfolding view
  seen = objects_seen l l' screen number named count table

  rest : drop (slot_place ((view l).count + 1)) l' ≡ drop (slot_place ((view l).count + 1)) l
  unfolding view
  rest = tail_kept counted (slot_place (at l count_place + 1)) (omega arith) ∙ tail_kept put (slot_place (at l count_place + 1)) (omega arith)

  grown : Updated l (with_objects (view l) next ((view l).count + 1) (inserted (view l).objects (view l).count s)) l'
  grown = record { is_record_lem = again; same = seen; rest = rest }

-- the same, as the code lends the slot and stores the two numbers
module _ (l : List ℕ) (r : is_record l ≡ true) (few : at l count_place < 256) where
  pub room : slot_place (at l count_place) + slot_size ≤ length l
  room = omega (arith, (parts l r).long)

  module _ (x : List ℕ) (len : length x ≡ length (lent_slot l (at l count_place))) where
    slot_size_lem : length x ≡ slot_size
    slot_size_lem = len ∙ lent_long l (at l count_place) (parts l r).long few

    put_in : Kept l (slot_place (at l count_place)) slot_size (slot_back l (at l count_place) x)
    put_in = rw (slot_back_lem l (at l count_place) x) (kept_part l x (slot_place (at l count_place)) slot_size (slot_place (at l count_place)) slot_size slot_size_lem room (omega arith) (omega arith))

    pub back_long : length (slot_back l (at l count_place) x) ≡ record_size
    back_long = put_in.long ∙ (parts l r).long

    pub appended : {h n : ℕ} {o : GdiObject} → n ≡ ahead h 1 → SlotCoded (record { handle = h; object = o }) x
        → Updated l (added_as (view l) h o) (set (set (slot_back l (at l count_place) x) next_handle_place n) count_place (at l count_place + 1))
    appended {h} {n} {o} e coded = grown l m l' r few put_in counted same (next ∙ e) count there
      where
        m : List ℕ
        m = slot_back l (at l count_place) x

        l' : List ℕ
        l' = set (set m next_handle_place n) count_place (at l count_place + 1)

        counted : Kept m 0 head_size l'
        counted = kept_set count_place (at l count_place + 1) (kept_set next_handle_place n (kept_all m 0 head_size) (omega arith) (omega arith)) (omega arith) (omega arith)

        next : at l' next_handle_place ≡ n
        next = get_or-set_other (set m next_handle_place n) count_place next_handle_place (at l count_place + 1) 0 (λ z. omega arith) ∙ get_or-set_same m next_handle_place n 0 (omega (arith, back_long))

        same : KeptBut m l' next_handle_place count_place
        same k b x y = get_or-set_other (set m next_handle_place n) count_place k (at l count_place + 1) 0 y ∙ get_or-set_other m next_handle_place k n 0 x

        count : at l' count_place ≡ at l count_place + 1
        count = get_or-set_same (set m next_handle_place n) count_place (at l count_place + 1) 0 (omega (arith, length-set m next_handle_place n, back_long))

        there : SlotCoded (record { handle = h; object = o }) (part m (slot_place (at l count_place)) slot_size)
        there = rw (slot_back_lem l (at l count_place) x, part_same l x (slot_place (at l count_place)) slot_size slot_size_lem room) coded
