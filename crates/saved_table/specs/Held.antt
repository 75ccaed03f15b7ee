-- The record that the bytes of a table hold, and which bytes are a table.
use Rattle.std.specs.Prelude.{Bool, cond, ◌&&◌, List, ◌∷◌, ℕ, zero, suc, ◌+◌, eqb, ltb}
use Rattle.bits.specs.Bits.{bits_of, field_at, numbers_in, total, equal}
use Rattle.gdi.specs.declared.GdiObject.{GdiObject}
use Rattle.gdi.specs.declared.Slot.{Slot}
use Rattle.gdi.specs.declared.GdiState.{GdiState}
use Rattle.gdi.specs.Record.{state_with, vacant_slot}
use Rattle.numbers.specs.Block.{dc_fields, object_of}
use Rattle.numbers.specs.View.{table_from}
use Rattle.sound.specs.Sound.{sound_except_sizes}
use Rattle.saved_table.specs.Table.{dc_widths, widths_of, saved_table}

-- The object of this kind, whose fields begin at bit p. A DC's surface is not saved: a created DC is a memory DC, whose surface has
-- the number 1.
abbrev pub object_held : (kind : ℕ) → (bits : List ℕ) → (p : ℕ) → GdiObject
object_held kind bs p = object_of kind (cond (eqb kind 0) (1 ∷ numbers_in dc_widths bs p) (numbers_in (widths_of kind) bs p))

-- the created object at bit p: kind (3), handle (32), fields
abbrev pub slot_held : (bits : List ℕ) → (p : ℕ) → Slot
slot_held bs p = record { handle = field_at bs (p + 3) 32; object = object_held (field_at bs p 3) bs (p + 35) }

-- where created object i begins: behind the head's 71 bits, the screen DC's 354, and the objects before it
unfoldable pub start_held : (bits : List ℕ) → (i : ℕ) → ℕ
start_held bs zero = 425
start_held bs (suc i) = start_held bs i + (35 + total (widths_of (field_at bs (start_held bs i) 3)))

-- the slots of a table with n objects; those past them are vacant
abbrev pub slots_held : (bits : List ℕ) → (n : ℕ) → List Slot
slots_held bs n = table_from (λ i. cond (ltb i n) (slot_held bs (start_held bs i)) vacant_slot) 0 256

-- The record after a load into the device b, but for the dirty mark: its memory lengths, its frame counter and its stock bitmap's mark;
-- everything else is from the table. The screen DC is the screen's, whose surface has the number 0.
unfoldable pub record_held : GdiState → (bits : List ℕ) → GdiState
record_held b bs =
    state_with b.panel_len b.store_len (field_at bs 4 13) (field_at bs 17 13) b.frame_counter (field_at bs 30 32)
    (dc_fields (0 ∷ numbers_in dc_widths bs 71)) b.stock_dirty (field_at bs 62 9) (slots_held bs (field_at bs 62 9))

abbrev pub held_by : GdiState → (bytes : List ℕ) → GdiState
held_by b bytes = record_held b (bits_of bytes)

-- Bytes are exactly one table if the record that they hold is sound except for the memory sizes, and its table is these bytes. So the
-- form is 1, every kind is 0 to 4, an absent bitmap has the handle 0, the filling bits are 0, and there is no byte more or less.
unfoldable pub is_table : GdiState → (bytes : List ℕ) → Bool
is_table b bytes = sound_except_sizes (held_by b bytes) && equal (saved_table (held_by b bytes)) bytes

-- The record b as a load into the device c gives it back, but for the dirty mark: the same record but for memory lengths, the frame
-- counter and the stock bitmap's mark, which are those of c.
abbrev pub restored : (c b : GdiState) → GdiState
restored c b =
    state_with c.panel_len c.store_len b.width b.height c.frame_counter b.next_handle b.screen c.stock_dirty b.count b.objects
