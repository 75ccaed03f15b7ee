-- The table of a record, as it is saved (document 02, request 02): fields packed most significant bit first.
use Rattle.std.specs.Prelude.{List, [], ◌∷◌, ◌++◌, ℕ, zero, suc, cond, eqb}
use Rattle.bits.specs.Bits.{fields, as_bytes}
use Rattle.gdi.specs.declared.Dc.{Dc}
use Rattle.gdi.specs.declared.GdiObject.{GdiObject}
use Rattle.gdi.specs.declared.GdiObject.TheVariants.{Dc as DcOf, Bitmap, Brush, Pen, Font}
use Rattle.gdi.specs.declared.Slot.{Slot}
use Rattle.gdi.specs.declared.GdiState.{GdiState}
use Rattle.gdi.specs.Lookup.{slot_at}
use Rattle.numbers.specs.Block.{flag_number, present_number, bitmap_number, complement32, kind_number}

-- A DC is bitmap present (1), bitmap (32, 0 if absent), brush, pen, font, brush colour, pen colour, text colour, alignment, background
-- colour (32 each), transparent (1), position x and y (32 each, two's complement).
abbrev pub dc_widths : List ℕ
dc_widths = 1 ∷ 32 ∷ 32 ∷ 32 ∷ 32 ∷ 32 ∷ 32 ∷ 32 ∷ 32 ∷ 32 ∷ 1 ∷ 32 ∷ 32 ∷ []

abbrev pub dc_values : Dc → List ℕ
dc_values d =
    present_number d.selected_bitmap ∷ bitmap_number d.selected_bitmap ∷ d.selected_brush ∷ d.selected_pen ∷ d.selected_font
    ∷ d.brush_color.0 ∷ d.pen_color.0 ∷ d.text_color.0 ∷ d.text_align ∷ d.bk_color.0 ∷ flag_number d.bk_transparent
    ∷ complement32 d.pos_x ∷ complement32 d.pos_y ∷ []

-- A bitmap is width and height (13 each) and dirty (1). A brush is colour; a pen colour and width; a font height (32 each, height in
-- two's complement). Kinds are 0 DC, 1 bitmap, 2 brush, 3 pen, 4 font.
abbrev pub widths_of : (kind : ℕ) → List ℕ
widths_of kind =
    cond (eqb kind 0) dc_widths (
    cond (eqb kind 1) (13 ∷ 13 ∷ 1 ∷ []) (
    cond (eqb kind 3) (32 ∷ 32 ∷ [])
    (32 ∷ [])))

abbrev pub values_of : GdiObject → List ℕ
values_of (DcOf d) = dc_values d
values_of (Bitmap m) = m.width ∷ m.height ∷ flag_number m.host_dirty ∷ []
values_of (Brush x) = x.color.0 ∷ []
values_of (Pen x) = x.color.0 ∷ x.width ∷ []
values_of (Font x) = complement32 x.height ∷ []

-- each created object is kind (3), handle (32) and fields
abbrev pub slot_bits : Slot → List ℕ
slot_bits s = fields (3 ∷ 32 ∷ []) (kind_number s.object ∷ s.handle ∷ []) ++ fields (widths_of (kind_number s.object)) (values_of s.object)

-- the first n created objects
unfoldable pub slots_bits : GdiState → (n : ℕ) → List ℕ
slots_bits b zero = []
slots_bits b (suc n) = slots_bits b n ++ slot_bits (slot_at b n)

-- form 1 (4), panel width and height (13 each), next handle (32), count (9)
abbrev pub head_widths : List ℕ
head_widths = 4 ∷ 13 ∷ 13 ∷ 32 ∷ 9 ∷ []

abbrev pub head_values : GdiState → List ℕ
head_values b = 1 ∷ b.width ∷ b.height ∷ b.next_handle ∷ b.count ∷ []

-- these, the screen DC's fields, then each created object
unfoldable pub table_bits : GdiState → List ℕ
table_bits b = (fields head_widths (head_values b) ++ fields dc_widths (dc_values b.screen)) ++ slots_bits b b.count

-- zero bits fill the last byte
abbrev pub saved_table : GdiState → List ℕ
saved_table b = as_bytes (table_bits b)
