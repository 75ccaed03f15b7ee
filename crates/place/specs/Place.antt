-- Surfaces: where their pixels lie, and which one a DC paints.
use Rattle.std.specs.Prelude.{Bool, true, false, cond, List, [], ◌∷◌, ℕ, zero, suc, ◌+◌, ◌≤◌, ◌<◌, eqb, get_or, Option, None, Some, Result, Ok, Err}
use Rattle.gdi.specs.declared.Spot.{Spot}
use Rattle.refusals.specs.declared.Refusal.{Refusal}
use Rattle.refusals.specs.declared.Refusal.TheVariants.{NoDc as NoDcRefusal, NoSurface as NoSurfaceRefusal, NoSourceDc, NoSourceSurface}
use Rattle.gdi.specs.declared.GdiState.{GdiState}
use Rattle.gdi.specs.declared.Slot.{Slot}
use Rattle.gdi.specs.declared.Dc.{Dc}
use Rattle.gdi.specs.declared.Spot.TheVariants.{Screen, Created}
use Rattle.gdi.specs.declared.GdiObject.{GdiObject}
use Rattle.gdi.specs.declared.GdiObject.TheVariants.{Dc as DcOf, Bitmap as BitmapOf, Brush, Pen, Font}
use Rattle.gdi.specs.Record.{no_slot, size, bytes_of}
use Rattle.gdi.specs.Stock.{stock_bitmap}
use Rattle.gdi.specs.Lookup.{find_of, dc_of}
use Rattle.place.specs.declared.Memory.{Memory}
use Rattle.place.specs.declared.Memory.TheVariants.{Panel as PanelMemory, Store}
use Rattle.place.specs.declared.Place.{Place}
use Rattle.place.specs.declared.Place.TheVariants.{Nowhere, At}
use Rattle.place.specs.declared.Site.{Site}
use Rattle.place.specs.declared.SurfaceId.{SurfaceId}
use Rattle.place.specs.declared.SurfaceId.TheVariants.{Panel, Bitmap}
use Rattle.place.specs.declared.NoTarget.{NoTarget}
use Rattle.place.specs.declared.Target.{Target}
use Rattle.place.specs.declared.NoTarget.TheVariants.{NoDc, NoSurface}

-- two names name the same surface
abbrev pub same : SurfaceId → SurfaceId → Bool
same Panel Panel = true
same Panel (Bitmap h) = false
same (Bitmap h) Panel = false
same (Bitmap h) (Bitmap k) = eqb h k

-- the m slots from k on
unfoldable pub slots_from : List Slot → (k m : ℕ) → List Slot
slots_from l k zero = []
slots_from l k (suc m) = get_or l k no_slot ∷ slots_from l (suc k) m

-- the created objects, in order of creation
abbrev pub live : GdiState → List Slot
live b = slots_from b.objects 0 b.count

-- the place of an object whose pixels start at byte p of the store: only a bitmap has one
abbrev pub place_from : GdiObject → ℕ → Place
place_from (DcOf d) p = Nowhere
place_from (BitmapOf m) p = At Store p m.width m.height
place_from (Brush x) p = Nowhere
place_from (Pen x) p = Nowhere
place_from (Font x) p = Nowhere

-- where the bitmap h lies: the list's bitmaps follow each other in order without a gap, from byte p on
unfoldable pub locate : List Slot → (p h : ℕ) → Place
locate [] p h = Nowhere
locate (s ∷ l) p h = cond (eqb s.handle h) (place_from s.object p) (locate l (p + bytes_of s.object) h)

-- The panel lies at the start of the panel memory. The stock bitmap has store bytes 0 and 1; created bitmaps follow.
abbrev pub where_is : GdiState → SurfaceId → Place
where_is b Panel = At PanelMemory 0 b.width b.height
where_is b (Bitmap h) = cond (eqb h stock_bitmap) (At Store 0 1 1) (locate (live b) 2 h)

-- the slot of a bitmap's record; the panel and the stock bitmap have none
abbrev pub slot_for : GdiState → SurfaceId → Option ℕ
slot_for b Panel = None
slot_for b (Bitmap h) = cond (eqb h stock_bitmap) None (find_of b h)

-- where a surface lies, and the slot of its record
abbrev pub site_of : GdiState → SurfaceId → Site
site_of b s = record { at = where_is b s; slot = slot_for b s }

-- the place lies inside its memory of len bytes, and its sides are within their limits
pub record Inside (len p w h : ℕ) : Type 0 where
  pub fits : p + size w h ≤ len
  pub some : 0 < w
  pub wide : w ≤ 4096
  pub some_rows : 0 < h
  pub high : h ≤ 4096

-- the length of a memory
abbrev pub length_of : (panel_len store_len : ℕ) → Memory → ℕ
length_of n k PanelMemory = n
length_of n k Store = k

abbrev pub Within : (panel_len store_len : ℕ) → Place → Type 0
Within n k Nowhere = Unit
Within n k (At m p w h) = Inside (length_of n k m) p w h

-- the surface s at the site i, which a DC with the record d paints
abbrev pub on : SurfaceId → Site → Dc → Result Target NoTarget
on s i d = Ok (record { id = s; site = i; dc = d })

-- the refusal of a drawing on what has no surface, and of a blit from it
abbrev pub refusal_of : NoTarget → Refusal
refusal_of NoDc = NoDcRefusal
refusal_of NoSurface = NoSurfaceRefusal

abbrev pub source_refusal_of : NoTarget → Refusal
source_refusal_of NoDc = NoSourceDc
source_refusal_of NoSurface = NoSourceSurface

-- the target, or no surface if the place is nowhere
abbrev pub unless_nowhere : Place → Result Target NoTarget → Result Target NoTarget
unless_nowhere Nowhere t = (Err NoSurface)
unless_nowhere (At m p w h) t = t

abbrev pub on_selected : GdiState → Dc → Option ℕ → Result Target NoTarget
on_selected b d None = (Err NoSurface)
on_selected b d (Some h) = unless_nowhere (where_is b (Bitmap h)) (on (Bitmap h) (site_of b (Bitmap h)) d)

abbrev pub target_found : GdiState → Option (Spot × Dc) → Result Target NoTarget
target_found b (Some (Screen, d)) = on Panel (site_of b Panel) d
target_found b (Some (Created i, d)) = on_selected b d d.selected_bitmap
target_found b None = (Err NoDc)

-- the screen DC paints the panel, a memory DC its selected live bitmap, stock or created; before a first selection it has no
-- surface
unfoldable pub target_of : GdiState → ℕ → Result Target NoTarget
target_of b dc = target_found b (dc_of b dc)
