-- Numbers that change in one block only: the rest of the record stays, and they encode a record again if that block is well formed.
-- Assumes nothing.
use mathlib.Core.Bool.{Bool, true, cond}
use mathlib.Core.List.{List}
use mathlib.Core.Path.{◌≡◌, refl, sym, ◌∙◌, ap}
use Prim.Native.Nat.{ℕ, ◌+◌, ◌≤◌, ◌<◌}
use native.Mathlib.Decide.{ℕ_discrete, dec_lt}
use native.Mathlib.Omega.{arith}
use lib.Dec.{ltb}
use lib.ListN.{length, drop, set, length-take, length-drop, length-set}
use lib.Seq.{ext_get_or, get_or-drop, get_or-set_other}
use borrow.Author.Tests.{eq-eqb, le-leb, lt-ltb}
use Rattle.arithmetic.proofs.Test.{together, all_of}
use Rattle.words.specs.Parts.{part, with_part}
use Rattle.words.proofs.Parts.{length_with, with_before, with_behind}
use Rattle.gdi.specs.declared.Slot.{Slot}
use Rattle.gdi.specs.Record.{vacant_slot}
use Rattle.gdi.specs.Updates.{with_objects}
use Rattle.numbers.specs.Layout.{dc_size, slot_size, record_size, next_handle_place, stock_dirty_place, count_place, screen_place, slots_place, slot_place}
use Rattle.numbers.specs.Block.{at, is_dc, slot_of, is_slot}
use Rattle.numbers.specs.View.{slot_in, slot_table, view, is_record, Updated}
use Rattle.numbers.proofs.Block.{SlotCoded}
use Rattle.numbers.proofs.Record.{parts}
use Rattle.numbers.proofs.Seen.{part_at}
use Rattle.numbers.proofs.Updates.{objects_seen}
use Rattle.numbers.proofs.View.{table_same, table_set}

-- numbers that encode a record are updated to it by doing nothing
pub updated_same : {l : List ℕ} → is_record l ≡ true → Updated l (view l) l
updated_same r = record { is_record_lem = r; same = refl; rest = refl }

-- all but the n numbers from p on are kept
pub record Kept (l : List ℕ) (p n : ℕ) (l' : List ℕ) : Type 0 where
  pub long : length l' ≡ length l
  pub same : (k : ℕ) → (p ≤ k → k < p + n → ⊥) → at l' k ≡ at l k

pub kept_all : (l : List ℕ) (p n : ℕ) → Kept l p n l
kept_all l p n = record { long = refl; same = λ k out. refl }

-- one number of the block is written
pub kept_set : {l m : List ℕ} {p n : ℕ} (k v : ℕ) → Kept l p n m → p ≤ k → k < p + n → Kept l p n (set m k v)
kept_set {m = m} k v h a b =
    record {
      long = length-set m k v ∙ h.long;
      same = λ j out. get_or-set_other m k j v 0 (λ e. out (omega arith) (omega arith)) ∙ h.same j out;
    }

-- a part of the block was lent
pub kept_part : (l xs : List ℕ) (p n q k : ℕ) → length xs ≡ k → q + k ≤ length l → p ≤ q → q + k ≤ p + n → Kept l p n (with_part l q k xs)
kept_part l xs p n q k len fits a b =
    record { long = length_with l xs q k len fits; same = λ j out. by j out (dec_lt j q) (dec_lt j (q + k)) }
  where
    by : (j : ℕ) → (p ≤ j → j < p + n → ⊥) → Dec (j < q) → Dec (j < q + k) → at (with_part l q k xs) j ≡ at l j
    by j out (yes x) y = with_before l xs q k len fits j x
    by j out (no x) (yes y) = absurd (out (omega arith) (omega arith))
    by j out (no x) (no y) = with_behind l xs q k len fits j (omega arith)

module _ {l l' : List ℕ} {p n : ℕ} (kept : Kept l p n l') where
  -- parts apart from the block
  pub part_kept : (q k : ℕ) → ((j : ℕ) → q ≤ j → j < q + k → p ≤ j → j < p + n → ⊥) → part l' q k ≡ part l q k
  part_kept q k apart =
      ext_get_or 0 (part l' q k) (part l q k) (simp (length-take, length-drop, kept.long))
      (λ i lt. let b : i < k = omega (arith, length-take k (drop q l')) in
      part_at l' q k i b ∙ kept.same (q + i) (apart (q + i) (omega arith) (omega arith)) ∙ sym (part_at l q k i b))

  pub tail_kept : (k : ℕ) → p + n ≤ k → drop k l' ≡ drop k l
  tail_kept k le =
      ext_get_or 0 (drop k l') (drop k l) (simp (length-drop, kept.long))
      (λ i lt. get_or-drop k l' i 0 ∙ kept.same (k + i) (λ a b. omega arith) ∙ sym (get_or-drop k l i 0))

-- the same slot from the same numbers
slot_same : (l l' : List ℕ) (c c' j : ℕ) → c' ≡ c → part l' (slot_place j) slot_size ≡ part l (slot_place j) slot_size → slot_in l' c' j ≡ slot_in l c j
slot_same l l' c c' j e f = ap (λ (x : List ℕ). cond (ltb j c') (slot_of x) vacant_slot) f ∙ ap (λ (m : ℕ). cond (ltb j m) (slot_of (part l (slot_place j) slot_size)) vacant_slot) e

module _ (l l' : List ℕ) (r : is_record l ≡ true) where
  again : length l' ≡ length l → at l' stock_dirty_place ≤ 1 → at l' count_place ≡ at l count_place → is_dc (part l' screen_place dc_size) ≡ true → ((i : ℕ) → i < at l count_place → is_slot (part l' (slot_place i) slot_size) ≡ true) → is_record l' ≡ true
  unfolding is_record
  again a b c d e =
      together (eq-eqb (length l') record_size (a ∙ (parts l r).long))
      (together (le-leb (at l' stock_dirty_place) 1 b)
      (together (le-leb (at l' count_place) 256 (omega (arith, (parts l r).few)))
      (together d
      (all_of (at l' count_place) (λ i. is_slot (part l' (slot_place i) slot_size)) (λ i h. e i (omega arith))))))

  -- a block before the slots, without the count
  module _ {p n : ℕ} (kept : Kept l p n l') (front : p + n ≤ slots_place) (count : at l' count_place ≡ at l count_place) where
    slots_kept : (j : ℕ) → part l' (slot_place j) slot_size ≡ part l (slot_place j) slot_size
    slots_kept j = part_kept kept (slot_place j) slot_size (λ k a b c d. omega arith)

    pub table_kept : slot_table l' (at l' count_place) ≡ slot_table l (at l count_place)
    table_kept = table_same (slot_in l' (at l' count_place)) (slot_in l (at l count_place)) (λ j lt. slot_same l l' (at l count_place) (at l' count_place) j count (slots_kept j))

    pub front_record : at l' stock_dirty_place ≤ 1 → is_dc (part l' screen_place dc_size) ≡ true → is_record l' ≡ true
    front_record f d = again kept.long f count d (λ i h. ap is_slot (slots_kept i) ∙ (parts l r).slots i h)

    pub front_rest : drop (slot_place (at l count_place)) l' ≡ drop (slot_place (at l count_place)) l
    front_rest = tail_kept kept (slot_place (at l count_place)) (omega arith)

  -- the block of slot i
  module _ (i : ℕ) (lt : i < at l count_place) (kept : Kept l (slot_place i) slot_size l') {s : Slot} (coded : SlotCoded s (part l' (slot_place i) slot_size)) where
    number : (k : ℕ) → k < slots_place → at l' k ≡ at l k
    number k h = kept.same k (λ a b. omega arith)

    screen : part l' screen_place dc_size ≡ part l screen_place dc_size
    screen = part_kept kept screen_place dc_size (λ j a b c d. omega arith)

    other : (j : ℕ) → (j ≡ i → ⊥) → part l' (slot_place j) slot_size ≡ part l (slot_place j) slot_size
    other j ne = part_kept kept (slot_place j) slot_size (λ k a b c d. omega arith)

    there : slot_in l' (at l' count_place) i ≡ s
    there = ap (λ (t : Bool). cond t (slot_of (part l' (slot_place i) slot_size)) vacant_slot) (lt-ltb i (at l' count_place) (omega (arith, number count_place (omega arith)))) ∙ coded.same

    table : slot_table l' (at l' count_place) ≡ set (slot_table l (at l count_place)) i s
    table =
        sym (table_set (slot_in l (at l count_place)) (slot_in l' (at l' count_place)) i (omega (arith, (parts l r).few))
        (λ j h ne. sym (slot_same l l' (at l count_place) (at l' count_place) j (number count_place (omega arith)) (other j ne))))
        ∙ ap (λ (x : Slot). set (slot_table l (at l count_place)) i x) there

    slots : (j : ℕ) → j < at l count_place → Dec (j ≡ i) → is_slot (part l' (slot_place j) slot_size) ≡ true
    slots j h (yes e) = rw e coded.is_slot_lem
    slots j h (no ne) = ap is_slot (other j ne) ∙ (parts l r).slots j h

    seen : view l' ≡ with_objects (view l) (view l).next_handle (view l).count (set (view l).objects i s)
    unfolding view
    seen =
        objects_seen l l' screen (λ k h a b. number k (omega arith)) (number next_handle_place (omega arith)) (number count_place (omega arith)) table

    rest : drop (slot_place (view l).count) l' ≡ drop (slot_place (view l).count) l
    unfolding view
    rest = tail_kept kept (slot_place (at l count_place)) (omega arith)

    pub slot_updated : Updated l (with_objects (view l) (view l).next_handle (view l).count (set (view l).objects i s)) l'
    slot_updated =
        record {
          is_record_lem = again kept.long (omega (arith, number stock_dirty_place (omega arith), (parts l r).flag)) (number count_place (omega arith)) (ap is_dc screen ∙ (parts l r).screen) (λ j h. slots j h (ℕ_discrete j i));
          same = seen;
          rest = rest;
        }
