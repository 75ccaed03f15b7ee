-- Numbers whose later slots moved down by one encode the record without an object. Assumes nothing.
use mathlib.Core.Bool.{true}
use mathlib.Core.List.{List, append_assoc}
use mathlib.Core.Path.{◌≡◌, sym, ◌∙◌, ap}
use Prim.Native.Nat.{ℕ, ◌+◌, ◌-◌, ◌≤◌, ◌<◌}
use native.Mathlib.Decide.{dec_lt}
use native.Mathlib.Omega.{arith}
use lib.ListN.{length, take, drop, get_or, set, length-set, length-drop}
use lib.Seq.{paste, ext_get_or, get_or-drop, get_or-set_same, get_or-set_other}
use Rattle.arithmetic.proofs.Test.{all_of}
use Rattle.words.specs.Parts.{part, with_part}
use Rattle.words.proofs.Parts.{length_part, length_with, with_before, with_within, with_behind}
use Rattle.gdi.specs.Record.{no_slot, vacant_slot}
use Rattle.gdi.specs.Lookup.{slot_at}
use Rattle.numbers.specs.Layout.{dc_size, slot_size, record_size, next_handle_place, stock_dirty_place, count_place, screen_place, slots_place, slot_place}
use Rattle.numbers.specs.Block.{at, is_dc, slot_of, is_slot}
use Rattle.numbers.specs.View.{slot_in, view, is_record, Updated}
use Rattle.numbers.proofs.Record.{parts, by_slots}
use Rattle.numbers.proofs.Seen.{part_at}
use Rattle.numbers.proofs.Updates.{objects_seen}
use Rattle.numbers.proofs.View.{length_table, slot_seen, slot_vacant}
use Rattle.memory.specs.Gap.{closed_up}
use Rattle.memory.proofs.Gap.{closed_length, closed_below, closed_above, closed_freed, closed_past}
use Rattle.removal.specs.Removal.{without_at}

-- the numbers from p + n on moved down to p, up to end
module _ (l : List ℕ) (p n end : ℕ) (le : p ≤ end) (room : end + n ≤ length l) where
  abbrev shifted : List ℕ
  shifted = paste l p (drop (p + n) l) (end - p)

  abbrev xs : List ℕ
  xs = part l (p + n) (end - p)

  as_part : shifted ≡ with_part l p (end - p) xs
  as_part = append_assoc (take p l) (take (end - p) (drop (p + n) l)) (drop (p + (end - p)) l)

  len : length xs ≡ end - p
  len = length_part l (p + n) (end - p) (omega arith)

  fits : p + (end - p) ≤ length l
  fits = omega arith

  shifted_long : length shifted ≡ length l
  shifted_long = ap length as_part ∙ length_with l xs p (end - p) len fits

  shifted_before : (k : ℕ) → k < p → at shifted k ≡ at l k
  shifted_before k h = ap (λ (x : List ℕ). at x k) as_part ∙ with_before l xs p (end - p) len fits k h

  shifted_within : (k : ℕ) → p ≤ k → k < end → at shifted k ≡ at l (k + n)
  shifted_within k a b =
      ap (λ (x : List ℕ). at x k) as_part ∙ with_within l xs p (end - p) len fits k a (omega arith)
      ∙ part_at l (p + n) (end - p) (k - p) (omega arith) ∙ ap (at l) (omega arith)

  shifted_behind : (k : ℕ) → end ≤ k → at shifted k ≡ at l k
  shifted_behind k h = ap (λ (x : List ℕ). at x k) as_part ∙ with_behind l xs p (end - p) len fits k (omega arith)

-- the numbers after slot i moved down by one slot, up to the slot before the last, and the count is one less
record Down (l : List ℕ) (i : ℕ) (l' : List ℕ) : Type 0 where
  pub long : length l' ≡ length l
  pub count : at l' count_place ≡ at l count_place - 1
  pub before : (k : ℕ) → k < slot_place i → (k ≡ count_place → ⊥) → at l' k ≡ at l k
  pub moved : (k : ℕ) → slot_place i ≤ k → k < slot_place (at l count_place - 1) → at l' k ≡ at l (k + slot_size)
  pub behind : (k : ℕ) → slot_place (at l count_place - 1) ≤ k → at l' k ≡ at l k

module _ (l l' : List ℕ) (r : is_record l ≡ true) (i : ℕ) (lt : i < at l count_place) (down : Down l i l') where
  number : (k : ℕ) → k < slots_place → (k ≡ count_place → ⊥) → at l' k ≡ at l k
  number k h ne = down.before k (omega arith) ne

  -- numbers of l from another place on
  part_from : (q q' k : ℕ) → q + k ≤ length l → q' + k ≤ length l → ((j : ℕ) → j < k → at l' (q + j) ≡ at l (q' + j)) → part l' q k ≡ part l q' k
  part_from q q' k a b same =
      let long : length (part l' q k) ≡ k = length_part l' q k (omega (arith, down.long)) in
      ext_get_or 0 (part l' q k) (part l q' k) (long ∙ sym (length_part l q' k b))
      (λ j h. let c : j < k = omega arith in part_at l' q k j c ∙ same j c ∙ sym (part_at l q' k j c))

  screen : part l' screen_place dc_size ≡ part l screen_place dc_size
  screen = let n : length l ≡ record_size = (parts l r).long in part_from screen_place screen_place dc_size (omega arith) (omega arith) (λ j a. down.before (screen_place + j) (omega arith) (λ e. omega arith))

  -- a slot before the object stays, a slot after it moves down
  slot_below : (j : ℕ) → j < i → part l' (slot_place j) slot_size ≡ part l (slot_place j) slot_size
  slot_below j h =
      let fits : slot_place j + slot_size ≤ length l = omega (arith, (parts l r).few, (parts l r).long) in
      part_from (slot_place j) (slot_place j) slot_size fits fits (λ k a. down.before (slot_place j + k) (omega arith) (λ e. omega arith))

  slot_above : (j : ℕ) → i ≤ j → j + 1 < at l count_place → part l' (slot_place j) slot_size ≡ part l (slot_place (j + 1)) slot_size
  slot_above j h b =
      let fits : slot_place (j + 1) + slot_size ≤ length l = omega (arith, (parts l r).few, (parts l r).long) in
      part_from (slot_place j) (slot_place (j + 1)) slot_size (omega arith) fits (λ k a. down.moved (slot_place j + k) (omega arith) (omega arith) ∙ ap (at l) (omega arith))

  slots : (j : ℕ) → j < at l' count_place → is_slot (part l' (slot_place j) slot_size) ≡ true
  slots j h = by (omega (arith, down.count)) (dec_lt j i)
    where
      by : j + 1 < at l count_place → Dec (j < i) → is_slot (part l' (slot_place j) slot_size) ≡ true
      by b (yes a) = ap is_slot (slot_below j a) ∙ (parts l r).slots j (omega arith)
      by b (no a) = ap is_slot (slot_above j (omega arith) b) ∙ (parts l r).slots (j + 1) b

  good : is_record l' ≡ true
  good =
      sym (by_slots l' (down.long ∙ (parts l r).long) (omega (arith, number stock_dirty_place (omega arith) (λ e. omega arith), (parts l r).flag)) (omega (arith, down.count, (parts l r).few))
      (ap is_dc screen ∙ (parts l r).screen))
      ∙ all_of (at l' count_place) (λ j. is_slot (part l' (slot_place j) slot_size)) slots

  -- the table
  table_long : (m : List ℕ) → length (view m).objects ≡ 256
  unfolding view
  table_long m = length_table (slot_in m (at m count_place)) 0 256

  slot_of_lem : (j : ℕ) → j < 256 → slot_at (view l') j ≡ get_or (closed_up vacant_slot (view l).objects i 1 (at l count_place)) j no_slot
  slot_of_lem j h = by (dec_lt j i) (dec_lt (j + 1) (at l count_place)) (dec_lt j (at l count_place))
    where
      fits : at l count_place ≤ length (view l).objects
      fits = omega (arith, table_long l, (parts l r).few)

      by : Dec (j < i) → Dec (j + 1 < at l count_place) → Dec (j < at l count_place) → slot_at (view l') j ≡ get_or (closed_up vacant_slot (view l).objects i 1 (at l count_place)) j no_slot
      by (yes a) b c =
          slot_seen l' j (omega (arith, down.count)) h ∙ ap slot_of (slot_below j a) ∙ sym (slot_seen l j (omega arith) h)
          ∙ sym (closed_below vacant_slot (view l).objects i 1 (at l count_place) (omega arith) fits no_slot j a)
      by (no a) (yes b) c =
          slot_seen l' j (omega (arith, down.count)) h ∙ ap slot_of (slot_above j (omega arith) b) ∙ sym (slot_seen l (j + 1) b (omega (arith, (parts l r).few)))
          ∙ sym (closed_above vacant_slot (view l).objects i 1 (at l count_place) (omega arith) fits no_slot j (omega arith) b)
      by (no a) (no b) (yes c) =
          slot_vacant l' j (omega (arith, down.count)) h
          ∙ sym (closed_freed vacant_slot (view l).objects i 1 (at l count_place) (omega arith) fits no_slot j (omega arith) c)
      by (no a) (no b) (no c) =
          slot_vacant l' j (omega (arith, down.count)) h ∙ sym (slot_vacant l j (omega arith) h)
          ∙ sym (closed_past vacant_slot (view l).objects i 1 (at l count_place) (omega arith) fits no_slot j (omega arith))

  table : (view l').objects ≡ closed_up vacant_slot (view l).objects i 1 (at l count_place)
  table =
      ext_get_or no_slot (view l').objects (closed_up vacant_slot (view l).objects i 1 (at l count_place))
      (table_long l' ∙ sym (closed_length vacant_slot (view l).objects i 1 (at l count_place) (omega arith) (omega (arith, table_long l, (parts l r).few)) ∙ table_long l))
      (λ j h. slot_of_lem j (omega (arith, table_long l')))

  seen : view l' ≡ without_at (view l) i
  unfolding view without_at
  seen =
      objects_seen l l' screen (λ k h a b. number k (omega arith) b) (number next_handle_place (omega arith) (λ e. omega arith)) down.count table

  rest : drop (slot_place (without_at (view l) i).count) l' ≡ drop (slot_place (without_at (view l) i).count) l
  unfolding view without_at
  rest =
      ext_get_or 0 (drop (slot_place (at l count_place - 1)) l') (drop (slot_place (at l count_place - 1)) l) (simp (length-drop, down.long))
      (λ j h. get_or-drop (slot_place (at l count_place - 1)) l' j 0 ∙ down.behind (slot_place (at l count_place - 1) + j) (omega arith) ∙ sym (get_or-drop (slot_place (at l count_place - 1)) l j 0))

  down_updated : Updated l (without_at (view l) i) l'
  down_updated = record { is_record_lem = good; same = seen; rest = rest }

-- the same, as the code moves the numbers and stores the count
module _ (l : List ℕ) (r : is_record l ≡ true) (i : ℕ) (lt : i < at l count_place) where
  abbrev end : ℕ
  end = slot_place (at l count_place - 1)

  pub last_room : end + slot_size ≤ length l
  last_room = omega (arith, (parts l r).few, (parts l r).long)

  pub moved_down : (t : List ℕ) → t ≡ paste l (slot_place i) (drop (slot_place i + slot_size) l) (end - slot_place i)
      → Updated l (without_at (view l) i) (set t count_place (at l count_place - 1))
  moved_down t e = down_updated l (set t count_place (at l count_place - 1)) r i lt
      (record {
        long = length-set t count_place (at l count_place - 1) ∙ long;
        count = get_or-set_same t count_place (at l count_place - 1) 0 (omega (arith, long, last_room));
        before = λ k h ne. other k ne ∙ shifted_before l (slot_place i) slot_size end le last_room k h;
        moved = λ k a b. other k (λ x. omega arith) ∙ shifted_within l (slot_place i) slot_size end le last_room k a b;
        behind = λ k h. other k (λ x. omega arith) ∙ shifted_behind l (slot_place i) slot_size end le last_room k h;
      })
    where
      le : slot_place i ≤ end
      le = omega arith

      long : length t ≡ length l
      long = ap length e ∙ shifted_long l (slot_place i) slot_size end le last_room

      other : (k : ℕ) → (k ≡ count_place → ⊥) → at (set t count_place (at l count_place - 1)) k ≡ at (paste l (slot_place i) (drop (slot_place i + slot_size) l) (end - slot_place i)) k
      other k ne = get_or-set_other t count_place k (at l count_place - 1) 0 ne ∙ ap (λ (x : List ℕ). at x k) e
