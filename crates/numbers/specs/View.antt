-- The record that flat numbers encode. Layout.antt says how many there are, and where each part begins.
use Rattle.std.specs.Prelude.{Bool, true, cond, ◌&&◌, List, [], ◌∷◌, ◌≡◌, ℕ, zero, suc, ◌+◌, ◌*◌, eqb, leb, ltb, length, drop}
use Rattle.arithmetic.specs.Test.{all_below}
use Rattle.words.specs.Parts.{part}
use Rattle.gdi.specs.declared.GdiState.{GdiState}
use Rattle.gdi.specs.declared.Slot.{Slot}
use Rattle.gdi.specs.Record.{vacant_slot}
use Rattle.numbers.specs.Layout.{dc_size, slot_size, record_size, panel_len_place, store_len_place, width_place, height_place, frames_low_place, frames_high_place, next_handle_place, stock_dirty_place, count_place, screen_place, slot_place}
use Rattle.numbers.specs.Block.{at, flag_of, is_flag, dc_fields, is_dc, slot_of, is_slot}

-- the m slots f k, f (k + 1), ..
unfoldable pub table_from : (ℕ → Slot) → (k m : ℕ) → List Slot
table_from f k zero = []
table_from f k (suc m) = f k ∷ table_from f (suc k) m

-- slot i of a record with n objects: the first n slots hold them, the others are vacant, whatever their numbers are
abbrev pub slot_in : List ℕ → (n i : ℕ) → Slot
slot_in l n i = cond (ltb i n) (slot_of (part l (slot_place i) slot_size)) vacant_slot

abbrev pub slot_table : List ℕ → (n : ℕ) → List Slot
slot_table l n = table_from (slot_in l n) 0 256

-- The record that the numbers encode: panel memory length, store length, panel width and height, the frame counter's low and high
-- half, next handle, the stock bitmap's dirty mark, count; the screen DC; the slots.
unfoldable pub view : List ℕ → GdiState
view l =
    record {
      panel_len = at l panel_len_place;
      store_len = at l store_len_place;
      width = at l width_place;
      height = at l height_place;
      frame_counter = at l frames_low_place + 4294967296 * at l frames_high_place;
      next_handle = at l next_handle_place;
      screen = dc_fields (part l screen_place dc_size);
      stock_dirty = flag_of (at l stock_dirty_place);
      count = at l count_place;
      objects = slot_table l (at l count_place);
    }

-- Whether numbers encode a record: their count is right, the stock bitmap's dirty mark is 0 or 1, there are at most 256 objects,
-- and the screen DC and every object are well formed.
unfoldable pub is_record : List ℕ → Bool
is_record l =
    eqb (length l) record_size && (is_flag (at l stock_dirty_place) && (leb (at l count_place) 256
    && (is_dc (part l screen_place dc_size) && all_below (at l count_place) (λ i. is_slot (part l (slot_place i) slot_size)))))

-- The numbers l were updated to the record b: the numbers l' encode b, and those past its last object are as they were.
pub record Updated (l : List ℕ) (b : GdiState) (l' : List ℕ) : Type 0 where
  pub is_record_lem : is_record l' ≡ true
  pub same : view l' ≡ b
  pub rest : drop (slot_place b.count) l' ≡ drop (slot_place b.count) l
