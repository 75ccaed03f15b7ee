-- Laws of the record that numbers encode. Assumes nothing.
use mathlib.Core.Bool.{Bool, cond}
use mathlib.Core.List.{List, [], ◌∷◌}
use mathlib.Core.Path.{◌≡◌, refl, sym, ◌∙◌, ap}
use Prim.Native.Nat.{ℕ, zero, suc, ◌+◌, ◌/◌, ◌%◌, ◌≤◌, ◌<◌}
use native.Mathlib.Decide.{ℕ_discrete}
use native.Mathlib.Omega.{arith}
use lib.ListN.{length, get_or, set, length-set}
use lib.Seq.{ext_get_or, get_or-set_same, get_or-set_other}
use borrow.Author.Tests.{lt-ltb, le-ltb}
use Rattle.words.specs.Parts.{part}
use Rattle.gdi.specs.declared.GdiState.{GdiState}
use Rattle.gdi.specs.declared.Slot.{Slot}
use Rattle.gdi.specs.Record.{no_slot, vacant_slot}
use Rattle.gdi.specs.Lookup.{slot_at}
use Rattle.numbers.specs.Layout.{slot_size, count_place, slot_place}
use Rattle.numbers.specs.Block.{at, flag_number, slot_of}
use Rattle.numbers.specs.View.{table_from, slot_in, view}

-- the numbers before the screen DC, from the record
abbrev pub device_numbers : GdiState → List ℕ
device_numbers b =
    b.panel_len ∷ b.store_len ∷ b.width ∷ b.height ∷ b.frame_counter % 4294967296 ∷ b.frame_counter / 4294967296 ∷ b.next_handle
    ∷ flag_number b.stock_dirty ∷ b.count ∷ []

-- tables of slots
pub length_table : (f : ℕ → Slot) (k m : ℕ) → length (table_from f k m) ≡ m
unfolding table_from
length_table f k zero = refl
length_table f k (suc m) = ap suc (length_table f (suc k) m)

pub table_at : (f : ℕ → Slot) (k m i : ℕ) (d : Slot) → i < m → get_or (table_from f k m) i d ≡ f (k + i)
unfolding table_from
table_at f k zero i d h = absurd (omega arith)
table_at f k (suc m) zero d h = ap f (omega arith)
table_at f k (suc m) (suc i) d h = table_at f (suc k) m i d (omega arith) ∙ ap f (omega arith)

pub table_slot : (f : ℕ → Slot) (i : ℕ) → i < 256 → get_or (table_from f 0 256) i no_slot ≡ f i
table_slot f i h = table_at f 0 256 i no_slot h ∙ ap f (omega arith)

-- tables that differ at i alone, where g has another slot
pub table_set : (f g : ℕ → Slot) (i : ℕ) → i < 256 → ((j : ℕ) → j < 256 → (j ≡ i → ⊥) → f j ≡ g j) → set (table_from f 0 256) i (g i) ≡ table_from g 0 256
table_set f g i h same =
    ext_get_or no_slot (set (table_from f 0 256) i (g i)) (table_from g 0 256) (rw (length-set (table_from f 0 256) i (g i), length_table f 0 256, length_table g 0 256))
    (λ j lt. by j (omega (arith, length-set (table_from f 0 256) i (g i), length_table f 0 256)) (ℕ_discrete j i))
  where
    by : (j : ℕ) → j < 256 → Dec (j ≡ i) → get_or (set (table_from f 0 256) i (g i)) j no_slot ≡ get_or (table_from g 0 256) j no_slot
    by j lt (yes e) = rw e (get_or-set_same (table_from f 0 256) i (g i) no_slot (omega (arith, length_table f 0 256)) ∙ sym (table_slot g i h))
    by j lt (no ne) = get_or-set_other (table_from f 0 256) i j (g i) no_slot ne ∙ table_slot f j lt ∙ same j lt ne ∙ sym (table_slot g j lt)

pub table_same : (f g : ℕ → Slot) → ((j : ℕ) → j < 256 → f j ≡ g j) → table_from f 0 256 ≡ table_from g 0 256
table_same f g same =
    ext_get_or no_slot (table_from f 0 256) (table_from g 0 256) (length_table f 0 256 ∙ sym (length_table g 0 256))
    (λ j lt. let b : j < 256 = omega (arith, length_table f 0 256) in table_slot f j b ∙ same j b ∙ sym (table_slot g j b))

-- a slot of an object, and a vacant one
pub slot_seen : (l : List ℕ) (i : ℕ) → i < at l count_place → i < 256 → slot_at (view l) i ≡ slot_of (part l (slot_place i) slot_size)
unfolding view
slot_seen l i h b = table_slot (slot_in l (at l count_place)) i b ∙ ap (λ (t : Bool). cond t (slot_of (part l (slot_place i) slot_size)) vacant_slot) (lt-ltb i (at l count_place) h)

pub slot_vacant : (l : List ℕ) (i : ℕ) → at l count_place ≤ i → i < 256 → slot_at (view l) i ≡ vacant_slot
unfolding view
slot_vacant l i h b = table_slot (slot_in l (at l count_place)) i b ∙ ap (λ (t : Bool). cond t (slot_of (part l (slot_place i) slot_size)) vacant_slot) (le-ltb i (at l count_place) h)
