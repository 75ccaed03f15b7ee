-- Any two surfaces of a record are the same or have no byte in common, and both begin at words. Assumes nothing.
use mathlib.Core.Bool.{Bool, true, false, cond}
use mathlib.Core.List.{List, [], ◌∷◌}
use mathlib.Core.Logic.{inl, inr}
use mathlib.Core.Path.{◌≡◌, refl, ap, subst}
use Prim.Native.Nat.{ℕ, ◌+◌, ◌*◌, ◌/◌}
use native.Mathlib.Omega.{arith}
use lib.Dec.{eqb}
use borrow.Author.Tests.{eqb-true}
use Rattle.gdi.specs.declared.GdiObject.{GdiObject}
use Rattle.gdi.specs.declared.GdiObject.TheVariants.{Dc as DcOf, Bitmap as BitmapOf, Brush, Pen, Font}
use Rattle.gdi.specs.declared.GdiState.{GdiState}
use Rattle.gdi.specs.declared.Slot.{Slot}
use Rattle.gdi.specs.Record.{bytes_of}
use Rattle.gdi.specs.Stock.{stock_bitmap}
use Rattle.place.specs.declared.Memory.TheVariants.{Panel as PanelMemory, Store}
use Rattle.place.specs.declared.Place.{Place}
use Rattle.place.specs.declared.Place.TheVariants.{Nowhere, At}
use Rattle.place.specs.declared.SurfaceId.{SurfaceId}
use Rattle.place.specs.declared.SurfaceId.TheVariants.{Panel, Bitmap}
use Rattle.place.specs.Place.{same, live, place_from, locate, where_is}
use Rattle.place.proofs.Apart.{clash, Apart, no_first, no_second, panel_store, store_panel, before, behind, apart}
use Rattle.transfer.specs.Inner.{PlacesApart}

-- a place, if there is one, begins at a word
abbrev Whole : Place → Type 0
Whole Nowhere = Unit
Whole (At m p w h) = 2 * (p / 2) ≡ p

frame_whole : (o : GdiObject) (p : ℕ) → 2 * (p / 2) ≡ p → Whole (place_from o p)
frame_whole (DcOf d) p e = tt
frame_whole (BitmapOf m) p e = e
frame_whole (Brush x) p e = tt
frame_whole (Pen x) p e = tt
frame_whole (Font x) p e = tt

behind_whole : (o : GdiObject) (p : ℕ) → 2 * (p / 2) ≡ p → 2 * ((p + bytes_of o) / 2) ≡ p + bytes_of o
behind_whole (DcOf d) p e = omega arith
behind_whole (BitmapOf m) p e = omega arith
behind_whole (Brush x) p e = omega arith
behind_whole (Pen x) p e = omega arith
behind_whole (Font x) p e = omega arith

locate_whole : (l : List Slot) (p h : ℕ) → 2 * (p / 2) ≡ p → Whole (locate l p h)
unfolding locate
locate_whole [] p h e = tt
locate_whole (s ∷ l) p h e = by (eqb s.handle h) (locate_whole l (p + bytes_of s.object) h (behind_whole s.object p e))
  where
    rest : Place
    rest = locate l (p + bytes_of s.object) h

    by : (t : Bool) → Whole rest → Whole (cond t (place_from s.object p) rest)
    by true later = frame_whole s.object p e
    by false later = later

whole : (b : GdiState) (u : SurfaceId) → Whole (where_is b u)
whole b Panel = omega arith
whole b (Bitmap h) = by (eqb h stock_bitmap)
  where
    by : (t : Bool) → Whole (cond t (At Store 0 1 1) (locate (live b) 2 h))
    by true = omega arith
    by false = locate_whole (live b) 2 h (omega arith)

apart_nowhere : (u : Place) → PlacesApart u Nowhere
apart_nowhere Nowhere = tt
apart_nowhere (At PanelMemory p w h) = tt
apart_nowhere (At Store p w h) = tt

apart_places : {u v : Place} → Whole u → Whole v → Apart u v → PlacesApart u v
apart_places i j no_first = tt
apart_places {u} i j no_second = apart_nowhere u
apart_places i j panel_store = tt
apart_places i j store_panel = tt
apart_places i j (before e) = record { whole = i; whole_source = j; apart = inr (inl e) }
apart_places i j (behind e) = record { whole = i; whole_source = j; apart = inr (inr e) }

same_place : (u : Place) → Whole u → PlacesApart u u
same_place Nowhere i = tt
same_place (At PanelMemory p w h) i = record { whole = i; whole_source = i; apart = inl (refl, (refl, refl)) }
same_place (At Store p w h) i = record { whole = i; whole_source = i; apart = inl (refl, (refl, refl)) }

-- two names of the same surface are equal
one_name : (u v : SurfaceId) → same u v ≡ true → u ≡ v
one_name Panel Panel e = refl
one_name Panel (Bitmap h) e = clash e
one_name (Bitmap h) Panel e = clash e
one_name (Bitmap h) (Bitmap k) e = ap Bitmap (eqb-true h k e)

pub places_apart : (b : GdiState) (u v : SurfaceId) → PlacesApart (where_is b u) (where_is b v)
places_apart b u v = by (same u v) refl
  where
    by : (t : Bool) → same u v ≡ t → PlacesApart (where_is b u) (where_is b v)
    by true e = subst (λ (z : SurfaceId). PlacesApart (where_is b u) (where_is b z)) (one_name u v e) (same_place (where_is b u) (whole b u))
    by false e = apart_places (whole b u) (whole b v) (apart b u v e)
