-- The record of a device: sizes, records by their fields, fresh records, vacant slots.
use Rattle.std.specs.Prelude.{Bool, false, ◌&&◌, List, ℕ, ◌*◌, ℤ, pos, negsuc, replicate, Option, None}
use Rattle.std.specs.Int.Signed.{le_z}
use Rattle.color.specs.declared.Colorref.{Colorref}
use Rattle.gdi.specs.declared.Bitmap.{Bitmap}
use Rattle.gdi.specs.declared.Dc.{Dc}
use Rattle.gdi.specs.declared.DcSurface.{DcSurface}
use Rattle.gdi.specs.declared.DcSurface.TheVariants.{Screen, Memory}
use Rattle.gdi.specs.declared.GdiObject.{GdiObject}
use Rattle.gdi.specs.declared.GdiObject.TheVariants.{Dc as DcOf, Bitmap as BitmapOf, Brush, Pen, Font}
use Rattle.gdi.specs.declared.Slot.{Slot}
use Rattle.gdi.specs.declared.GdiState.{GdiState}

-- the bytes of w by h pixels: 2·w·h
abbrev pub size : ℕ → ℕ → ℕ
size w h = 2 * (w * h)

-- how many bytes an object's pixels have: only bitmaps have pixels
abbrev pub bytes_of : GdiObject → ℕ
bytes_of (DcOf d) = 0
bytes_of (BitmapOf m) = size m.width m.height
bytes_of (Brush x) = 0
bytes_of (Pen x) = 0
bytes_of (Font x) = 0

-- a record by its fields, in their order; updates are written with it
abbrev pub state_with : (panel_len store_len width height frame-counter next_handle : ℕ) → (screen : Dc) (stock_dirty : Bool) (count : ℕ) (objects : List Slot) → GdiState
state_with panel_len store_len width height frame-counter next_handle screen stock_dirty count objects =
    record {
      panel_len = panel_len;
      store_len = store_len;
      width = width;
      height = height;
      frame_counter = frame-counter;
      next_handle = next_handle;
      screen = screen;
      stock_dirty = stock_dirty;
      count = count;
      objects = objects;
    }

-- a DC by its fields, in their order; its updates are written with it
abbrev pub dc_with : (surface : DcSurface) (bitmap : Option ℕ) (brush pen font : ℕ) → (brush-color pen-color text_color : Colorref)
    → (text_align : ℕ) (bk_color : Colorref) (bk-transparent : Bool) → (x y : ℤ) → Dc
dc_with surface bitmap brush pen font brush-color pen-color text_color text_align bk_color bk-transparent x y =
    record {
      surface = surface;
      selected_bitmap = bitmap;
      selected_brush = brush;
      selected_pen = pen;
      selected_font = font;
      brush_color = brush-color;
      pen_color = pen-color;
      text_color = text_color;
      text_align = text_align;
      bk_color = bk_color;
      bk_transparent = bk-transparent;
      pos_x = x;
      pos_y = y;
    }

-- the record of `Dc::default`, with the given surface; its position is at first (0, 0)
abbrev pub dc_on : DcSurface → Dc
dc_on s =
    record {
      surface = s;
      selected_bitmap = None;
      selected_brush = 0xDEAD_5701;
      selected_pen = 0xDEAD_5707;
      selected_font = 0xDEAD_5710;
      brush_color = record { 0 = 0x00ff_ffff };
      pen_color = record { 0 = 0 };
      text_color = record { 0 = 0 };
      text_align = 0;
      bk_color = record { 0 = 0x00ff_ffff };
      bk_transparent = false;
      pos_x = pos 0;
      pos_y = pos 0;
    }

-- a coordinate of a position: -32,768 to 32,767
abbrev pub in_range : ℤ → Bool
in_range z = le_z (negsuc 32767) z && le_z z (pos 32767)

abbrev pub is_position : (x y : ℤ) → Bool
is_position x y = in_range x && in_range y

-- a new bitmap
abbrev pub fresh_bitmap : (width height : ℕ) → Bitmap
fresh_bitmap w h = record { width = w; height = h; host_dirty = false }

-- a new memory DC
abbrev pub default_dc : Dc
default_dc = dc_on Memory

-- the screen DC of a fresh device
abbrev pub screen_dc : Dc
screen_dc = dc_on Screen

-- what the logic reads past the end of a table: an object of the first variant, all zeros
abbrev pub no_slot : Slot
no_slot = record { handle = 0; object = DcOf (dc_with Screen None 0 0 0 (record { 0 = 0 }) (record { 0 = 0 }) (record { 0 = 0 }) 0 (record { 0 = 0 }) false (pos 0) (pos 0)) }

-- what a slot without an object holds
abbrev pub vacant_slot : Slot
vacant_slot = record { handle = 0; object = Brush (record { color = record { 0 = 0 } }) }

-- a fresh device has frame counter 0, next handle 0xDEAD_1000 and no created object
abbrev pub fresh : (panel_len store_len width height : ℕ) → GdiState
fresh panel_len store_len width height = state_with panel_len store_len width height 0 0xDEAD_1000 screen_dc false 0 (replicate 256 vacant_slot)
