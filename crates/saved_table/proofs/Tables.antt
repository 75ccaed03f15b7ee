-- Laws of bytes that are a table: they are long enough for their fields, and it does not matter into which device they are loaded.
-- Assumes nothing.
use mathlib.Core.Bool.{Bool, true, cond}
use mathlib.Core.List.{List, ◌++◌}
use mathlib.Core.Path.{◌≡◌, refl, ◌∙◌, ap}
use Prim.Native.Nat.{ℕ, zero, suc, ◌+◌, ◌≤◌, ◌<◌}
use native.Mathlib.Omega.{arith}
use lib.Dec.{ltb}
use lib.ListN.{length}
use borrow.Author.Tests.{ne_eqb, lt-ltb}
use Rattle.arithmetic.proofs.Test.{both}
use Rattle.bits.specs.Bits.{bits_of, field_at, total, equal}
use Rattle.bits.proofs.Bytes.{length_bits}
use Rattle.bits.proofs.Lists.{length_as_bytes, equal_same}
use Rattle.gdi.specs.declared.GdiState.{GdiState}
use Rattle.gdi.specs.declared.Slot.{Slot}
use Rattle.gdi.specs.Record.{vacant_slot}
use Rattle.gdi.specs.Lookup.{slot_at}
use Rattle.numbers.specs.Block.{kind_number, object_of}
use Rattle.numbers.proofs.View.{table_slot}
use Rattle.sound.specs.Sound.{sound_except_sizes}
use Rattle.sound.proofs.Sound.{ExceptSizes, parts_except}
use Rattle.saved_table.specs.Table.{widths_of, slot_bits, slots_bits, table_bits, saved_table}
use Rattle.saved_table.specs.Held.{slot_held, start_held, record_held, held_by, is_table}
use Rattle.saved_table.proofs.Lengths.{length_slots, length_table}

-- What makes bytes a table.
pub record Table (b : GdiState) (bytes : List ℕ) : Type 0 where
  pub sound : ExceptSizes (held_by b bytes)
  pub same : saved_table (held_by b bytes) ≡ bytes

pub table_parts : (b : GdiState) (bytes : List ℕ) → is_table b bytes ≡ true → Table b bytes
unfolding is_table
table_parts b bytes t =
    let (s, e) = both (sound_except_sizes (held_by b bytes)) (equal (saved_table (held_by b bytes)) bytes) t in
    record { sound = parts_except (held_by b bytes) s; same = equal_same (saved_table (held_by b bytes)) bytes e }

-- numbers of no kind are read as a font's, which are as long
held_kind : (kind : ℕ) (l : List ℕ) → total (widths_of (kind_number (object_of kind l))) ≡ total (widths_of kind)
unfolding object_of total
held_kind zero l = refl
held_kind (suc zero) l = refl
held_kind (suc (suc zero)) l = refl
held_kind (suc (suc (suc zero))) l = refl
held_kind (suc (suc (suc (suc k)))) l =
    let kind : ℕ = suc (suc (suc (suc k))) in
    rw (ne_eqb kind 0 (λ e. omega arith), ne_eqb kind 1 (λ e. omega arith), ne_eqb kind 2 (λ e. omega arith), ne_eqb kind 3 (λ e. omega arith)) refl

module _ (b : GdiState) (bs : List ℕ) where
  -- object i of the record that bits hold
  pub slot_held_lem : (i : ℕ) → i < field_at bs 62 9 → i < 256 → slot_at (record_held b bs) i ≡ slot_held bs (start_held bs i)
  unfolding record_held
  slot_held_lem i lt few =
      table_slot (λ j. cond (ltb j (field_at bs 62 9)) (slot_held bs (start_held bs j)) vacant_slot) i few
      ∙ ap (λ (t : Bool). cond t (slot_held bs (start_held bs i)) vacant_slot) (lt-ltb i (field_at bs 62 9) lt)

  -- the objects before it end where it begins
  pub start_held_lem : (i : ℕ) → i ≤ field_at bs 62 9 → i ≤ 256 → 425 + length (slots_bits (record_held b bs) i) ≡ start_held bs i
  unfolding start_held
  start_held_lem zero le few = unfold slots_bits in refl
  start_held_lem (suc i) le few =
      let kind : ℕ = field_at bs (start_held bs i) 3 in
      let k : total (widths_of (kind_number (slot_at (record_held b bs) i).object)) ≡ total (widths_of kind) =
      ap (λ (s : Slot). total (widths_of (kind_number s.object))) (slot_held_lem i (omega arith) (omega arith)) ∙ held_kind kind _ in
      omega (arith, length_slots (record_held b bs) i, k, start_held_lem i (omega arith) (omega arith))

-- a table's bytes are long enough for its fields
pub table_complete : (b : GdiState) (bytes : List ℕ) → is_table b bytes ≡ true
    → (field_at (bits_of bytes) 62 9 ≤ 256) × (start_held (bits_of bytes) (field_at (bits_of bytes) 62 9) ≤ length (bits_of bytes))
unfolding record_held
table_complete b bytes t =
    let p = table_parts b bytes t in
    let few : field_at (bits_of bytes) 62 9 ≤ 256 = p.sound.count in
    (few, omega (arith, length_bits bytes, ap length p.same, length_as_bytes (table_bits (held_by b bytes)), length_table (held_by b bytes), start_held_lem b (bits_of bytes) (field_at (bits_of bytes) 62 9) (omega arith) few))

-- the table depends on the objects and the fields that are saved, not on the device
slots_same : (b c : GdiState) (bs : List ℕ) (n : ℕ) → slots_bits (record_held b bs) n ≡ slots_bits (record_held c bs) n
unfolding slots_bits record_held
slots_same b c bs zero = refl
slots_same b c bs (suc n) = ap (λ (xs : List ℕ). xs ++ slot_bits (slot_at (record_held c bs) n)) (slots_same b c bs n)

pub table_same : (b c : GdiState) (bytes : List ℕ) → saved_table (held_by b bytes) ≡ saved_table (held_by c bytes)
unfolding table_bits record_held
table_same b c bytes = rw (slots_same b c (bits_of bytes) (field_at (bits_of bytes) 62 9))

pub table_any : (b c : GdiState) (bytes : List ℕ) → is_table b bytes ≡ is_table c bytes
unfolding is_table
table_any b c bytes = rw (table_same b c bytes) (unfold record_held in refl)
