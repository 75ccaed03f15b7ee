-- Saved tables of small records: each is what the definitions compute. The bytes are from document 02's sentences, and not from the
-- definitions.
use Rattle.std.specs.Prelude.{Bool, true, false, List, [], ◌∷◌, ◌++◌, ◌≡◌, refl, ℕ, pos, negsuc, length, take, set, replicate, Some}
use Rattle.arithmetic.specs.Sum.{sum_below}
use Rattle.bits.specs.Bits.{field, number_of, bits_of, bytes_in, fields, numbers_in, total, equal}
use Rattle.gdi.specs.declared.Dc.{Dc}
use Rattle.gdi.specs.declared.DcSurface.TheVariants.{Memory}
use Rattle.gdi.specs.declared.GdiObject.TheVariants.{Dc as DcOf, Bitmap, Brush, Pen, Font}
use Rattle.gdi.specs.declared.Slot.{Slot}
use Rattle.gdi.specs.declared.GdiState.{GdiState}
use Rattle.gdi.specs.Record.{state_with, dc_with, screen_dc, vacant_slot, fresh}
use Rattle.gdi.specs.Stock.{is_stock}
use Rattle.numbers.specs.Block.{dc_fields, object_of}
use Rattle.numbers.specs.View.{table_from}
use Rattle.sound.specs.Sound.{is_sound}
use Rattle.saved_table.specs.Table.{slots_bits, table_bits, saved_table}
use Rattle.saved_table.specs.Held.{start_held, record_held, held_by, is_table}
use Rattle.ready.specs.Ready.{common_refusal}
use Rattle.place.specs.declared.Memory.TheVariants.{Panel as PanelMemory, Store}
use Rattle.place.specs.declared.SurfaceId.TheVariants.{Panel, Bitmap as BitmapOn}
use Rattle.dirty.specs.Dirty.{dirtied}
use Rattle.paint.specs.Memories.{memories}
use Rattle.paint.specs.Paint.{blank, only, created, painted_by, after}
use Rattle.paint.specs.Taint.{Taint, tainted_by, tainted}
use Rattle.plan.specs.Answer.{done, saved}
use Rattle.plan.specs.Plan.{record_only, refuse}
use Rattle.plan.specs.Load.{load_table}
use Rattle.plan.specs.Save.{save_table}
use Rattle.plan.specs.Calls.{load, save, plan}
use Rattle.noninterference.specs.Claim.{taint_after}
use Rattle.noninterference.specs.Taint.{taint_for}

-- a fresh device with a panel of 240 by 320
abbrev opened : GdiState
opened = fresh 153600 2 240 320

-- its table: 425 bits, 54 bytes
abbrev opened_table : List ℕ
opened_table =
    0x10 ∷ 0x78 ∷ 0x05 ∷ 0x03 ∷ 0x7A ∷ 0xB4 ∷ 0x40 ∷ 0x00 ∷ 0x00 ∷ 0x00 ∷ 0x00 ∷ 0x00 ∷ 0x00 ∷ 0xDE ∷ 0xAD ∷ 0x57 ∷ 0x01 ∷ 0xDE ∷
    0xAD ∷ 0x57 ∷ 0x07 ∷ 0xDE ∷ 0xAD ∷ 0x57 ∷ 0x10 ∷ 0x00 ∷ 0xFF ∷ 0xFF ∷ 0xFF ∷ 0x00 ∷ 0x00 ∷ 0x00 ∷ 0x00 ∷ 0x00 ∷ 0x00 ∷ 0x00 ∷
    0x00 ∷ 0x00 ∷ 0x00 ∷ 0x00 ∷ 0x00 ∷ 0x00 ∷ 0xFF ∷ 0xFF ∷ 0xFF ∷ 0x00 ∷ 0x00 ∷ 0x00 ∷ 0x00 ∷ 0x00 ∷ 0x00 ∷ 0x00 ∷ 0x00 ∷ 0x00 ∷ []

pub opened_bits : length (table_bits opened) ≡ 425
unfolding table_bits fields field slots_bits
opened_bits = refl

pub opened_saved : saved_table opened ≡ opened_table
unfolding table_bits fields field slots_bits bytes_in number_of
opened_saved = refl

-- a device with a panel of 2 by 1 and an object of each kind
abbrev dc : Dc
dc =
    dc_with Memory (Some 0xDEAD_1001) 0xDEAD_1002 0xDEAD_1003 0xDEAD_1004 (record { 0 = 0x0000FF }) (record { 0 = 0x00FF00 }) (record { 0 = 0x123456 }) 6
    (record { 0 = 0xC0C0C0 }) true (negsuc 0) (pos 7)

abbrev objects : List Slot
objects =
    record { handle = 0xDEAD_1000; object = DcOf dc }
    ∷ record { handle = 0xDEAD_1001; object = Bitmap (record { width = 3; height = 2; host_dirty = true }) }
    ∷ record { handle = 0xDEAD_1002; object = Brush (record { color = record { 0 = 0x0000FF } }) }
    ∷ record { handle = 0xDEAD_1003; object = Pen (record { color = record { 0 = 0x00FF00 }; width = 2 }) }
    ∷ record { handle = 0xDEAD_1004; object = Font (record { height = negsuc 11 }) }
    ∷ replicate 251 vacant_slot

-- the device, with memories of these lengths, this frame counter and this stock mark
abbrev five : (panel_len store_len frames : ℕ) → Bool → GdiState
five n k f d = state_with n k 2 1 f 0xDEAD_1005 screen_dc d 5 objects

-- its table: 1,109 bits, 139 bytes
abbrev five_table : List ℕ
five_table =
    0x10 ∷ 0x01 ∷ 0x00 ∷ 0x07 ∷ 0x7A ∷ 0xB4 ∷ 0x40 ∷ 0x14 ∷ 0x0A ∷ 0x00 ∷ 0x00 ∷ 0x00 ∷ 0x00 ∷ 0xDE ∷ 0xAD ∷ 0x57 ∷ 0x01 ∷ 0xDE ∷
    0xAD ∷ 0x57 ∷ 0x07 ∷ 0xDE ∷ 0xAD ∷ 0x57 ∷ 0x10 ∷ 0x00 ∷ 0xFF ∷ 0xFF ∷ 0xFF ∷ 0x00 ∷ 0x00 ∷ 0x00 ∷ 0x00 ∷ 0x00 ∷ 0x00 ∷ 0x00 ∷
    0x00 ∷ 0x00 ∷ 0x00 ∷ 0x00 ∷ 0x00 ∷ 0x00 ∷ 0xFF ∷ 0xFF ∷ 0xFF ∷ 0x00 ∷ 0x00 ∷ 0x00 ∷ 0x00 ∷ 0x00 ∷ 0x00 ∷ 0x00 ∷ 0x00 ∷ 0x0D ∷
    0xEA ∷ 0xD1 ∷ 0x00 ∷ 0x0E ∷ 0xF5 ∷ 0x68 ∷ 0x80 ∷ 0x0E ∷ 0xF5 ∷ 0x68 ∷ 0x80 ∷ 0x16 ∷ 0xF5 ∷ 0x68 ∷ 0x80 ∷ 0x1E ∷ 0xF5 ∷ 0x68 ∷
    0x80 ∷ 0x20 ∷ 0x00 ∷ 0x00 ∷ 0x07 ∷ 0xF8 ∷ 0x00 ∷ 0x07 ∷ 0xF8 ∷ 0x00 ∷ 0x00 ∷ 0x91 ∷ 0xA2 ∷ 0xB0 ∷ 0x00 ∷ 0x00 ∷ 0x00 ∷ 0x30 ∷
    0x06 ∷ 0x06 ∷ 0x06 ∷ 0x07 ∷ 0xFF ∷ 0xFF ∷ 0xFF ∷ 0xFC ∷ 0x00 ∷ 0x00 ∷ 0x00 ∷ 0x1C ∷ 0xEF ∷ 0x56 ∷ 0x88 ∷ 0x00 ∷ 0x80 ∷ 0x0C ∷
    0x00 ∷ 0x55 ∷ 0xBD ∷ 0x5A ∷ 0x20 ∷ 0x04 ∷ 0x00 ∷ 0x00 ∷ 0x01 ∷ 0xFE ∷ 0xF7 ∷ 0xAB ∷ 0x44 ∷ 0x00 ∷ 0xC0 ∷ 0x00 ∷ 0x3F ∷ 0xC0 ∷
    0x00 ∷ 0x00 ∷ 0x00 ∷ 0x00 ∷ 0xA6 ∷ 0xF5 ∷ 0x68 ∷ 0x80 ∷ 0x27 ∷ 0xFF ∷ 0xFF ∷ 0xFF ∷ 0xA0 ∷ []

pub five_bits : length (table_bits (five 4 14 9 true)) ≡ 1109
unfolding table_bits fields field slots_bits
five_bits = refl

pub five_saved : saved_table (five 4 14 9 true) ≡ five_table
unfolding table_bits fields field slots_bits bytes_in number_of
five_saved = refl

-- a fresh device with a panel of 3 by 1 and a store of 20 bytes
abbrev spare : GdiState
spare = fresh 6 20 3 1

-- the record that the table holds for it: its own memory lengths, frame counter and stock mark, and all else as it was saved
pub five_held : held_by spare five_table ≡ five 6 20 0 false
unfolding record_held start_held table_from dc_fields object_of bits_of field numbers_in number_of total
five_held = refl

-- loading it, and saving what was loaded
pub record Loads : Type 0 where
  -- the record, with one mark of the panel; the panel's 4 bytes turn black, and the store's 18 past the stock bitmap
  pub planned : plan (load five_table) spare 6 20
      ≡ record {
        outcome = record { state = five 6 20 1 false; answer = done };
        paint = blank PanelMemory 0 4 (only Panel) ∷ blank Store 2 18 created ∷ [];
      }
  -- bytes past the loaded panel are kept, and so is the stock bitmap
  pub black : after spare (plan (load five_table) spare 6 20).paint (memories (replicate 6 0xAA) (replicate 20 0xBB))
      ≡ memories (replicate 4 0 ++ replicate 2 0xAA) (replicate 2 0xBB ++ replicate 18 0)
  -- the same bytes
  pub again : (plan (save 139) (plan (load five_table) spare 6 20).outcome.state 6 20).outcome.answer ≡ saved five_table

pub loads : Loads
unfolding plan common_refusal is_sound is_stock sum_below load_table is_table record_held start_held table_from dc_fields object_of bits_of field numbers_in number_of total equal table_bits fields slots_bits bytes_in dirtied after painted_by save_table
loads = record { planned = refl; black = refl; again = refl }

-- the number with which a load of these bytes is refused, 0 if it is accepted
abbrev load_number : GdiState → (bytes : List ℕ) → ℕ
load_number b bytes = (plan (load bytes) b b.panel_len b.store_len).outcome.answer.number

-- bytes that are not exactly one table, each but for one change
pub record Refusals : Type 0 where
  pub form_2 : load_number spare (set five_table 0 0x20) ≡ 12
  pub width_0 : load_number spare (set five_table 1 0x00) ≡ 12
  -- the screen DC's bitmap is absent, and has the handle 1
  pub absent_with_handle : load_number spare (set five_table 12 0x01) ≡ 12
  -- the font's kind is 5; its handle is the pen's
  pub kind_5 : load_number spare (set five_table 130 0xAE) ≡ 12
  pub handle_twice : load_number spare (set five_table 134 0x1F) ≡ 12
  pub filling_bit : load_number spare (set five_table 138 0xA1) ≡ 12
  pub byte_more : load_number spare (five_table ++ (0 ∷ [])) ≡ 12
  pub byte_less : load_number spare (take 138 five_table) ≡ 12
  pub no_byte : load_number spare [] ≡ 12
  -- a store that is a byte too short, and a panel memory; 12 comes before 7, and 8 before 12
  pub store_short : load_number (fresh 6 13 3 1) five_table ≡ 7
  pub panel_short : load_number (fresh 3 20 1 1) five_table ≡ 7
  pub no_table_first : load_number (fresh 6 13 3 1) (set five_table 0 0x20) ≡ 12
  pub lengths_first : plan (load []) spare 6 19 ≡ refuse 8 spare

pub refusals : Refusals
unfolding plan common_refusal is_sound is_stock sum_below load_table is_table record_held start_held table_from dc_fields object_of bits_of field numbers_in number_of total equal table_bits fields slots_bits bytes_in
refusals =
    record {
      form_2 = refl;
      width_0 = refl;
      absent_with_handle = refl;
      kind_5 = refl;
      handle_twice = refl;
      filling_bit = refl;
      byte_more = refl;
      byte_less = refl;
      no_byte = refl;
      store_short = refl;
      panel_short = refl;
      no_table_first = refl;
      lengths_first = refl;
    }

-- saving the fresh device's table, into 54 bytes and into 53; it takes no memory, so lengths do not count
pub record SavesFresh : Type 0 where
  pub fits : plan (save 54) opened 0 0 ≡ record_only opened (saved opened_table)
  pub output_short : plan (save 53) opened 0 0 ≡ refuse 13 opened

pub saves_fresh : SavesFresh
unfolding plan is_sound is_stock sum_below save_table table_bits fields field slots_bits bytes_in number_of
saves_fresh = record { fits = refl; output_short = refl }

abbrev loaded_taint : Taint → Taint
loaded_taint m = taint_for spare 6 20 [] m (load five_table)

-- The taint after loading: none on the panel, none on the table's bitmap or one of another handle; the stock bitmap's stays.
pub record LoadTaint (m : Taint) : Type 1 where
  pub panel : (x y : ℕ) → loaded_taint m Panel x y → ⊥
  pub loaded : (x y : ℕ) → loaded_taint m (BitmapOn 0xDEAD_1001) x y → ⊥
  pub other : (x y : ℕ) → loaded_taint m (BitmapOn 0xDEAD_1009) x y → ⊥
  pub stock : (x y : ℕ) → loaded_taint m (BitmapOn 0xDEAD_5720) x y ≡ m (BitmapOn 0xDEAD_5720) x y

pub load_taint : (m : Taint) → LoadTaint m
unfolding taint_after tainted tainted_by plan common_refusal is_sound is_stock sum_below load_table is_table record_held start_held table_from dc_fields object_of bits_of field numbers_in number_of total equal table_bits fields slots_bits bytes_in
load_taint m = record { panel = λ x y e. e; loaded = λ x y e. e; other = λ x y e. e; stock = λ x y. refl }
