-- Dirty marks.
use Rattle.std.specs.Prelude.{◌+◌, ◌%◌, Bool, cond, ◌==◌, slice_set, Option, ℕ, Some, None}
use Rattle.gdi.specs.declared.GdiState.{GdiState}
use Rattle.gdi.specs.declared.Slot.{Slot}
use Rattle.gdi.specs.declared.GdiObject.{GdiObject}
use Rattle.gdi.specs.declared.GdiObject.TheVariants.{Dc, Bitmap as BitmapOf, Brush, Pen, Font}
use Rattle.gdi.specs.Stock.{stock_bitmap}
use Rattle.gdi.specs.Updates.{with_frames, with_stock_dirty, with_objects, with_host_dirty}
use Rattle.gdi.specs.Lookup.{slot_at, find_of}
use Rattle.place.specs.declared.SurfaceId.{SurfaceId}
use Rattle.place.specs.declared.SurfaceId.TheVariants.{Panel, Bitmap}

-- a bitmap with its dirty mark; any other object unchanged
abbrev pub object_dirtied : GdiObject → GdiObject
object_dirtied (Dc d) = Dc d
object_dirtied (BitmapOf m) = BitmapOf (with_host_dirty m)
object_dirtied (Brush x) = Brush x
object_dirtied (Pen x) = Pen x
object_dirtied (Font x) = Font x

abbrev pub slot_dirtied : Slot → Slot
slot_dirtied s = record { handle = s.handle; object = object_dirtied s.object }

-- the frame counter plus 1; it wraps around to 0
abbrev pub next_frame : GdiState → GdiState
next_frame b = with_frames b ((b.frame_counter + 1) % 18446744073709551616)

-- the record with the dirty mark of a created object
abbrev pub created_dirtied : GdiState → Option ℕ → GdiState
created_dirtied b (Some i) = with_objects b b.next_handle b.count (slice_set b.objects i (slot_dirtied (slot_at b i)))
created_dirtied b None = b

-- a dirty mark adds 1 to the panel's frame counter (64 bits), or sets a bitmap's host_dirty
unfoldable pub dirtied : GdiState → SurfaceId → GdiState
dirtied b Panel = next_frame b
dirtied b (Bitmap h) = cond (h == stock_bitmap) (with_stock_dirty b) (created_dirtied b (find_of b h))

-- the same if a mark is due
unfoldable pub dirtied_if : Bool → SurfaceId → GdiState → GdiState
dirtied_if due s b = cond due (dirtied b s) b
