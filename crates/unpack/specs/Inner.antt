-- Definitions that only inner functions cite: no exported contract reaches them.
-- Bytes that hold all the fields that they announce, and a record's numbers read from them in two parts: the head, and the slots.
use Rattle.std.specs.Prelude.{Bool, ◌&&◌, List, ◌∷◌, ◌++◌, ◌≡◌, ℕ, ◌+◌, ◌*◌, ◌<◌, leb, length, drop, replicate}
use Rattle.words.specs.Parts.{part}
use Rattle.bits.specs.Bits.{field_at, numbers_in, total}
use Rattle.numbers.specs.Layout.{dc_size, object_size, slot_size, panel_len_place, store_len_place, width_place, height_place, frames_low_place, frames_high_place, next_handle_place, stock_dirty_place, count_place, screen_place, slots_place, slot_place}
use Rattle.numbers.specs.Block.{at, dc_fields}
use Rattle.numbers.proofs.Block.{DcCoded, SlotCoded}
use Rattle.numbers.proofs.Kept.{Kept}
use Rattle.saved_table.specs.Table.{dc_widths, widths_of}
use Rattle.saved_table.specs.Held.{slot_held, start_held}

-- the object at bit p ends, and the next begins
abbrev pub end_held : (bits : List ℕ) → (p : ℕ) → ℕ
end_held bs p = p + (35 + total (widths_of (field_at bs p 3)))

-- There are at most 256 objects, and the last of them ends within the bits. So the head and the screen DC, before them, are there too.
unfoldable pub complete : (bits : List ℕ) → Bool
complete bs = leb (field_at bs 62 9) 256 && leb (start_held bs (field_at bs 62 9)) (length bs)

-- the numbers in fields of these widths, from bit p on, with zeros behind them up to an object's size
abbrev pub block_held : (widths bits : List ℕ) → (p : ℕ) → List ℕ
block_held ws bs p = numbers_in ws bs p ++ drop (length ws) (replicate object_size 0)

-- the numbers l with the table's head and screen DC: memory lengths, frame counter, the stock bitmap's mark and all slots are kept
pub record HeadRead (bs l l' : List ℕ) : Type 0 where
  pub long : length l' ≡ length l
  pub panel_len : at l' panel_len_place ≡ at l panel_len_place
  pub store_len : at l' store_len_place ≡ at l store_len_place
  pub width : at l' width_place ≡ field_at bs 4 13
  pub height : at l' height_place ≡ field_at bs 17 13
  pub frames_low : at l' frames_low_place ≡ at l frames_low_place
  pub frames_high : at l' frames_high_place ≡ at l frames_high_place
  pub next_handle : at l' next_handle_place ≡ field_at bs 30 32
  pub stock_dirty : at l' stock_dirty_place ≡ at l stock_dirty_place
  pub count : at l' count_place ≡ field_at bs 62 9
  pub screen : DcCoded (dc_fields (0 ∷ numbers_in dc_widths bs 71)) (part l' screen_place dc_size)
  pub slots : drop slots_place l' ≡ drop slots_place l

-- the numbers l with the table's first n objects
pub record SlotsRead (bs : List ℕ) (n : ℕ) (l l' : List ℕ) : Type 0 where
  pub kept : Kept l slots_place (slot_size * n) l'
  pub slot : (i : ℕ) → i < n → SlotCoded (slot_held bs (start_held bs i)) (part l' (slot_place i) slot_size)
