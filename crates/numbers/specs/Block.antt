-- A DC and an object as blocks of numbers of 32 bits.
use Rattle.std.specs.Prelude.{Bool, true, cond, ◌&&◌, ◌||◌, List, ◌≡◌, ℕ, suc, ◌+◌, ◌-◌, ℤ, pos, negsuc, eqb, leb, get_or, Option, None, Some}
use Rattle.words.specs.Parts.{part}
use Rattle.arithmetic.specs.Test.{all_below}
use Rattle.bigendian.specs.BigEndian.{signed32}
use Rattle.gdi.specs.declared.DcSurface.{DcSurface}
use Rattle.gdi.specs.declared.DcSurface.TheVariants.{Screen, Memory}
use Rattle.gdi.specs.declared.Dc.{Dc}
use Rattle.gdi.specs.declared.Bitmap.{Bitmap as BitmapRecord}
use Rattle.gdi.specs.declared.GdiObject.{GdiObject}
use Rattle.gdi.specs.declared.GdiObject.TheVariants.{Dc as DcOf, Bitmap, Brush, Pen, Font}
use Rattle.gdi.specs.declared.Slot.{Slot}
use Rattle.numbers.specs.Layout.{object_size, handle_place, kind_place, object_place, surface_in, present_in, bitmap_in, brush_in, pen_in, font_in, brush_color_in, pen_color_in, text_color_in, text_align_in, bk_color_in, bk_transparent_in, pos_x_in, pos_y_in, bitmap_width_in, bitmap_height_in, bitmap_dirty_in, color_in, pen_width_in, font_height_in, bitmap_size, brush_size, pen_size, font_size}

-- number k of a block
abbrev pub at : List ℕ → ℕ → ℕ
at l k = get_or l k 0

-- a flag is 0 or 1
abbrev pub flag_of : ℕ → Bool
flag_of n = eqb n 1

abbrev pub is_flag : ℕ → Bool
is_flag n = leb n 1

abbrev pub flag_number : Bool → ℕ
flag_number f = cond f 1 0

-- 0 the screen, 1 memory
abbrev pub surface_of : ℕ → DcSurface
surface_of n = cond (flag_of n) Memory Screen

-- the selected bitmap, from the number that says whether there is one and the number that is its handle
abbrev pub bitmap_of : (present h : ℕ) → Option ℕ
bitmap_of present h = cond (flag_of present) (Some h) None

-- and the other way round: a bitmap that is absent has the number 0
abbrev pub present_number : Option ℕ → ℕ
present_number None = 0
present_number (Some h) = 1

abbrev pub bitmap_number : Option ℕ → ℕ
bitmap_number None = 0
bitmap_number (Some h) = h

-- the two's complement of an integer of 32 bits
abbrev pub complement32 : ℤ → ℕ
complement32 (pos n) = n
complement32 (negsuc n) = 4294967296 - suc n

-- The numbers of a DC: surface, bitmap present, bitmap, brush, pen, font, brush colour, pen colour, text colour, alignment,
-- background colour, transparent, position x and y in two's complement.
unfoldable pub dc_fields : List ℕ → Dc
dc_fields l =
    record {
      surface = surface_of (at l surface_in);
      selected_bitmap = bitmap_of (at l present_in) (at l bitmap_in);
      selected_brush = at l brush_in;
      selected_pen = at l pen_in;
      selected_font = at l font_in;
      brush_color = record { 0 = at l brush_color_in };
      pen_color = record { 0 = at l pen_color_in };
      text_color = record { 0 = at l text_color_in };
      text_align = at l text_align_in;
      bk_color = record { 0 = at l bk_color_in };
      bk_transparent = flag_of (at l bk_transparent_in);
      pos_x = signed32 (at l pos_x_in);
      pos_y = signed32 (at l pos_y_in);
    }

-- whether numbers are a DC: flags are 0 or 1, and an absent bitmap has handle 0
unfoldable pub is_dc : List ℕ → Bool
is_dc l = is_flag (at l surface_in) && (is_flag (at l bk_transparent_in) && (flag_of (at l present_in) || (eqb (at l present_in) 0 && eqb (at l bitmap_in) 0)))

-- the numbers of a bitmap
abbrev pub bitmap_fields : List ℕ → BitmapRecord
bitmap_fields l = record { width = at l bitmap_width_in; height = at l bitmap_height_in; host_dirty = flag_of (at l bitmap_dirty_in) }

-- the kinds by number
abbrev pub kind_number : GdiObject → ℕ
kind_number (DcOf d) = 0
kind_number (Bitmap m) = 1
kind_number (Brush x) = 2
kind_number (Pen x) = 3
kind_number (Font x) = 4

-- An object is the number of its kind and as many numbers as a DC has. Kinds are 0 DC, 1 bitmap, 2 brush, 3 pen, 4 font. A bitmap
-- has width, height and dirty mark; a brush its colour; a pen colour and width; a font its height in two's complement.
unfoldable pub object_of : (kind : ℕ) → List ℕ → GdiObject
object_of kind l =
    cond (eqb kind 0) (DcOf (dc_fields l)) (
    cond (eqb kind 1) (Bitmap (bitmap_fields l)) (
    cond (eqb kind 2) (Brush (record { color = record { 0 = at l color_in } })) (
    cond (eqb kind 3) (Pen (record { color = record { 0 = at l color_in }; width = at l pen_width_in }))
    (Font (record { height = signed32 (at l font_height_in) })))))

-- an object's numbers from k on are 0
abbrev pub zeros_from : List ℕ → ℕ → Bool
zeros_from l k = all_below (object_size - k) (λ j. eqb (at l (k + j)) 0)

-- whether numbers are an object: the kind is known, flags are 0 or 1, and the numbers past its fields are 0
unfoldable pub is_object : (kind : ℕ) → List ℕ → Bool
is_object kind l =
    cond (eqb kind 0) (is_dc l) (
    cond (eqb kind 1) (is_flag (at l bitmap_dirty_in) && zeros_from l bitmap_size) (
    cond (eqb kind 2) (zeros_from l brush_size) (
    cond (eqb kind 3) (zeros_from l pen_size) (
    eqb kind 4 && zeros_from l font_size))))

-- The numbers of a slot: handle, kind, and those of the object.
abbrev pub slot_of : List ℕ → Slot
slot_of l = record { handle = at l handle_place; object = object_of (at l kind_place) (part l object_place object_size) }

abbrev pub is_slot : List ℕ → Bool
is_slot l = is_object (at l kind_place) (part l object_place object_size)

-- The numbers encode the object o, which is of this kind.
pub record ObjectCoded (o : GdiObject) (kind : ℕ) (l : List ℕ) : Type 0 where
  pub is_object_lem : is_object kind l ≡ true
  pub same : object_of kind l ≡ o
