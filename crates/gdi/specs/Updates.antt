-- A record, a bitmap and a DC with one part changed. Every change of a record is written with these.
use Rattle.std.specs.Prelude.{Bool, true, List, ℕ, ℤ, set, Some}
use Rattle.color.specs.declared.Colorref.{Colorref}
use Rattle.gdi.specs.declared.Bitmap.{Bitmap}
use Rattle.gdi.specs.declared.Dc.{Dc}
use Rattle.gdi.specs.declared.GdiObject.TheVariants.{Dc as DcOf}
use Rattle.gdi.specs.declared.Slot.{Slot}
use Rattle.gdi.specs.declared.GdiState.{GdiState}
use Rattle.gdi.specs.declared.Spot.{Spot}
use Rattle.gdi.specs.declared.Spot.TheVariants.{Screen, Created}
use Rattle.gdi.specs.Record.{state_with, dc_with}

-- the record with other panel sides
abbrev pub with_sides : GdiState → (width height : ℕ) → GdiState
with_sides b w h = state_with b.panel_len b.store_len w h b.frame_counter b.next_handle b.screen b.stock_dirty b.count b.objects

-- the record with another frame counter
abbrev pub with_frames : GdiState → ℕ → GdiState
with_frames b n = state_with b.panel_len b.store_len b.width b.height n b.next_handle b.screen b.stock_dirty b.count b.objects

-- the record with the stock bitmap's dirty mark set
abbrev pub with_stock_dirty : GdiState → GdiState
with_stock_dirty b = state_with b.panel_len b.store_len b.width b.height b.frame_counter b.next_handle b.screen true b.count b.objects

-- the record with other created objects
abbrev pub with_objects : GdiState → (next count : ℕ) → List Slot → GdiState
with_objects b next count l = state_with b.panel_len b.store_len b.width b.height b.frame_counter next b.screen b.stock_dirty count l

-- the record with another screen DC
abbrev pub with_screen : GdiState → Dc → GdiState
with_screen b d = state_with b.panel_len b.store_len b.width b.height b.frame_counter b.next_handle d b.stock_dirty b.count b.objects

-- the record with the DC h replaced by d; the spot says where the DC's record is
abbrev pub with_dc : GdiState → (h : ℕ) → Spot → Dc → GdiState
with_dc b h Screen d = with_screen b d
with_dc b h (Created i) d = with_objects b b.next_handle b.count (set b.objects i (record { handle = h; object = DcOf d }))

-- a bitmap with its dirty mark set
abbrev pub with_host_dirty : Bitmap → Bitmap
with_host_dirty m = record { width = m.width; height = m.height; host_dirty = true }

-- a DC with another bitmap, brush, pen or font selected; brush and pen with their colour
abbrev pub with_bitmap : Dc → ℕ → Dc
with_bitmap d h =
    dc_with d.surface (Some h) d.selected_brush d.selected_pen d.selected_font
    d.brush_color d.pen_color d.text_color d.text_align d.bk_color d.bk_transparent d.pos_x d.pos_y

abbrev pub with_brush : Dc → ℕ → Colorref → Dc
with_brush d h c =
    dc_with d.surface d.selected_bitmap h d.selected_pen d.selected_font
    c d.pen_color d.text_color d.text_align d.bk_color d.bk_transparent d.pos_x d.pos_y

abbrev pub with_pen : Dc → ℕ → Colorref → Dc
with_pen d h c =
    dc_with d.surface d.selected_bitmap d.selected_brush h d.selected_font
    d.brush_color c d.text_color d.text_align d.bk_color d.bk_transparent d.pos_x d.pos_y

abbrev pub with_font : Dc → ℕ → Dc
with_font d h =
    dc_with d.surface d.selected_bitmap d.selected_brush d.selected_pen h
    d.brush_color d.pen_color d.text_color d.text_align d.bk_color d.bk_transparent d.pos_x d.pos_y

-- a DC with another text colour, alignment, background colour or background mode
abbrev pub with_text_color : Dc → Colorref → Dc
with_text_color d c =
    dc_with d.surface d.selected_bitmap d.selected_brush d.selected_pen d.selected_font
    d.brush_color d.pen_color c d.text_align d.bk_color d.bk_transparent d.pos_x d.pos_y

abbrev pub with_text_align : Dc → ℕ → Dc
with_text_align d v =
    dc_with d.surface d.selected_bitmap d.selected_brush d.selected_pen d.selected_font
    d.brush_color d.pen_color d.text_color v d.bk_color d.bk_transparent d.pos_x d.pos_y

abbrev pub with_bk_color : Dc → Colorref → Dc
with_bk_color d c =
    dc_with d.surface d.selected_bitmap d.selected_brush d.selected_pen d.selected_font
    d.brush_color d.pen_color d.text_color d.text_align c d.bk_transparent d.pos_x d.pos_y

abbrev pub with_bk_mode : Dc → Bool → Dc
with_bk_mode d t =
    dc_with d.surface d.selected_bitmap d.selected_brush d.selected_pen d.selected_font
    d.brush_color d.pen_color d.text_color d.text_align d.bk_color t d.pos_x d.pos_y

-- a DC with another position
abbrev pub with_position : Dc → (x y : ℤ) → Dc
with_position d x y =
    dc_with d.surface d.selected_bitmap d.selected_brush d.selected_pen d.selected_font
    d.brush_color d.pen_color d.text_color d.text_align d.bk_color d.bk_transparent x y
