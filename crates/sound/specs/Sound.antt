-- When a device record is sound.
use Rattle.std.specs.Prelude.{Bool, true, false, not, ◌&&◌, List, ℕ, ◌+◌, eqb, leb}
use Rattle.arithmetic.specs.Test.{all_below}
use Rattle.arithmetic.specs.Sum.{sum_below}
use Rattle.surface.specs.Refusal.{side}
use Rattle.gdi.specs.declared.Dc.{Dc}
use Rattle.gdi.specs.declared.DcSurface.{DcSurface}
use Rattle.gdi.specs.declared.DcSurface.TheVariants.{Screen, Memory}
use Rattle.gdi.specs.declared.GdiObject.{GdiObject}
use Rattle.gdi.specs.declared.GdiObject.TheVariants.{Dc as DcOf, Bitmap, Brush, Pen, Font}
use Rattle.gdi.specs.declared.Slot.{Slot}
use Rattle.gdi.specs.declared.GdiState.{GdiState}
use Rattle.gdi.specs.Record.{size, bytes_of, is_position}
use Rattle.gdi.specs.Stock.{is_stock}
use Rattle.gdi.specs.Lookup.{slot_at, handle_at, object_at}

-- the most bytes that a memory may have
abbrev pub limit : ℕ
limit = 33554432

abbrev pub is_memory : DcSurface → Bool
is_memory Screen = false
is_memory Memory = true

-- a DC's position is within -32,768 to 32,767
abbrev pub positioned : Dc → Bool
positioned d = is_position d.pos_x d.pos_y

-- every created DC is a memory DC, with a position in its range; bitmap sides are 1 to 4,096
abbrev pub object_fits : GdiObject → Bool
object_fits (DcOf d) = is_memory d.surface && positioned d
object_fits (Bitmap m) = side m.width && side m.height
object_fits (Brush x) = true
object_fits (Pen x) = true
object_fits (Font x) = true

-- the same, and a handle that is neither 0 nor stock
abbrev pub slot_fits : Slot → Bool
slot_fits s = not (eqb s.handle 0) && (not (is_stock s.handle) && object_fits s.object)

abbrev pub slots_fit : GdiState → Bool
slots_fit b = all_below b.count (λ i. slot_fits (slot_at b i))

-- none of the first n slots has the handle h
abbrev pub absent : List Slot → (n h : ℕ) → Bool
absent l n h = all_below n (λ j. not (eqb (handle_at l j) h))

-- the handles of the first n slots differ: none before a slot has its handle
abbrev pub distinct : List Slot → ℕ → Bool
distinct l n = all_below n (λ k. absent l k (handle_at l k))

-- the bytes of the pixels of the first n created objects, with the stock bitmap's 2
abbrev pub start_of : GdiState → ℕ → ℕ
start_of b n = 2 + sum_below n (λ i. bytes_of (object_at b i))

-- the bytes of the store that hold pixels
abbrev pub used : GdiState → ℕ
used b = start_of b b.count

-- Sound except for the memory sizes: the object count is at most 256, every created DC is a memory DC, panel and bitmap sides are 1
-- to 4,096, handles differ and are neither 0 nor stock, and positions, of the screen DC and of created DCs, are in their range.
abbrev pub sound_except_sizes : GdiState → Bool
sound_except_sizes b =
    leb b.count 256 && (side b.width && (side b.height && (positioned b.screen && (slots_fit b && distinct b.objects b.count))))

-- 2·w·h of the panel fits the panel memory, and 2 + the sum of 2·w·h over created bitmaps fits the store
abbrev pub sizes_fit : GdiState → Bool
sizes_fit b = leb (size b.width b.height) b.panel_len && leb (used b) b.store_len

-- A record is sound if the memories' lengths are at most the limit, it is sound except for the sizes, and the sizes fit.
unfoldable pub is_sound : GdiState → Bool
is_sound b = leb b.panel_len limit && (leb b.store_len limit && (sound_except_sizes b && sizes_fit b))
