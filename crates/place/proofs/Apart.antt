-- The parts of a sound record lie inside the lent memories (`places`) and never overlap (`apart`). Assumes nothing.
use mathlib.Core.Bool.{Bool, true, false, cond, false≢true}
use mathlib.Core.List.{List, [], ◌∷◌}
use mathlib.Core.Path.{◌≡◌, refl, sym, ◌∙◌}
use Prim.Native.Nat.{ℕ, zero, suc, ◌+◌, ◌≤◌}
use native.Mathlib.Omega.{arith}
use lib.Dec.{eqb}
use borrow.Author.Tests.{eqb-true, eq-eqb}
use Rattle.arithmetic.proofs.Sum.{sum_suc}
use Rattle.gdi.specs.declared.GdiState.{GdiState}
use Rattle.gdi.specs.declared.Slot.{Slot}
use Rattle.gdi.specs.declared.GdiObject.{GdiObject}
use Rattle.gdi.specs.declared.GdiObject.TheVariants.{Dc as DcOf, Bitmap as BitmapOf, Brush, Pen, Font}
use Rattle.gdi.specs.Record.{size, bytes_of}
use Rattle.gdi.specs.Stock.{stock_bitmap}
use Rattle.gdi.specs.Lookup.{handle_at, object_at}
use Rattle.sound.specs.Sound.{start_of, is_sound}
use Rattle.sound.proofs.Bytes.{start_none}
use Rattle.place.specs.declared.Memory.TheVariants.{Panel as PanelMemory, Store}
use Rattle.place.specs.declared.Place.{Place}
use Rattle.place.specs.declared.Place.TheVariants.{Nowhere, At}
use Rattle.place.specs.declared.SurfaceId.{SurfaceId}
use Rattle.place.specs.declared.SurfaceId.TheVariants.{Panel, Bitmap}
use Rattle.place.specs.Place.{same, slots_from, live, place_from, locate, where_is, Within}
use Rattle.place.proofs.Places.{object_within, placed_panel, placed_stock}

pub clash {ℓ} : {A : Type ℓ} → false ≡ true → A
clash e = absurd (false≢true e)

-- two places with no byte in common
pub data Apart : Place → Place → Type 0 where
  no_first : {v : Place} → Apart Nowhere v
  no_second : {u : Place} → Apart u Nowhere
  panel_store : {p w h q x y : ℕ} → Apart (At PanelMemory p w h) (At Store q x y)
  store_panel : {p w h q x y : ℕ} → Apart (At Store p w h) (At PanelMemory q x y)
  before : {p w h q x y : ℕ} → p + size w h ≤ q → Apart (At Store p w h) (At Store q x y)
  behind : {p w h q x y : ℕ} → q + size x y ≤ p → Apart (At Store p w h) (At Store q x y)

pub turn : {u v : Place} → Apart u v → Apart v u
turn no_first = no_second
turn no_second = no_first
turn panel_store = store_panel
turn store_panel = panel_store
turn (before e) = behind e
turn (behind e) = before e

-- nowhere, or in the store from byte p on
pub data From (p : ℕ) : Place → Type 0 where
  nothing : From p Nowhere
  some : {q w h : ℕ} → p ≤ q → From p (At Store q w h)

frame_from : (o : GdiObject) (p q : ℕ) → q ≤ p → From q (place_from o p)
frame_from (DcOf d) p q le = nothing
frame_from (BitmapOf m) p q le = some le
frame_from (Brush x) p q le = nothing
frame_from (Pen x) p q le = nothing
frame_from (Font x) p q le = nothing

pub locate_from : (l : List Slot) (p q h : ℕ) → q ≤ p → From q (locate l p h)
unfolding locate
locate_from [] p q h le = nothing
locate_from (s ∷ l) p q h le = by (eqb s.handle h) (locate_from l (p + bytes_of s.object) q h (omega arith))
  where
    rest : Place
    rest = locate l (p + bytes_of s.object) h

    by : (t : Bool) → From q rest → From q (cond t (place_from s.object p) rest)
    by true later = frame_from s.object p q le
    by false later = later

frame_before : (o : GdiObject) (p : ℕ) (v : Place) → From (p + bytes_of o) v → Apart (place_from o p) v
frame_before (DcOf d) p v f = no_first
frame_before (BitmapOf m) p _ nothing = no_second
frame_before (BitmapOf m) p _ (some le) = before le
frame_before (Brush x) p v f = no_first
frame_before (Pen x) p v f = no_first
frame_before (Font x) p v f = no_first

-- bitmaps with different handles in one list
located_apart : (l : List Slot) (p h k : ℕ) → eqb h k ≡ false → Apart (locate l p h) (locate l p k)
unfolding locate
located_apart [] p h k ne = no_first
located_apart (s ∷ l) p h k ne =
    by (eqb s.handle h) (eqb s.handle k) refl refl (located_apart l (p + bytes_of s.object) h k ne)
  where
    rest : ℕ → Place
    rest g = locate l (p + bytes_of s.object) g

    by : (t u : Bool) → eqb s.handle h ≡ t → eqb s.handle k ≡ u → Apart (rest h) (rest k)
        → Apart (cond t (place_from s.object p) (rest h)) (cond u (place_from s.object p) (rest k))
    by true true e f later = clash (sym ne ∙ eq-eqb h k (sym (eqb-true _ _ e) ∙ eqb-true _ _ f))
    by true false e f later = frame_before s.object p _ (locate_from l _ _ k (omega arith))
    by false true e f later = turn (frame_before s.object p _ (locate_from l _ _ h (omega arith)))
    by false false e f later = later

pub bitmap_from : (b : GdiState) (h : ℕ) → From 0 (where_is b (Bitmap h))
bitmap_from b h = by (eqb h stock_bitmap)
  where
    by : (t : Bool) → From 0 (cond t (At Store 0 1 1) (locate (live b) 2 h))
    by true = some {q = 0} (omega arith)
    by false = locate_from (live b) 2 0 h (omega arith)

panel_apart : {p w h : ℕ} (v : Place) → From 0 v → Apart (At PanelMemory p w h) v
panel_apart _ nothing = no_second
panel_apart _ (some le) = panel_store

stock_apart : (v : Place) → From 2 v → Apart (At Store 0 1 1) v
stock_apart _ nothing = no_second
stock_apart _ (some le) = before le

-- two surfaces have no byte in common
pub apart : (b : GdiState) (u v : SurfaceId) → same u v ≡ false → Apart (where_is b u) (where_is b v)
apart b Panel Panel e = clash (sym e)
apart b Panel (Bitmap h) e = panel_apart _ (bitmap_from b h)
apart b (Bitmap h) Panel e = turn (panel_apart _ (bitmap_from b h))
apart b (Bitmap h) (Bitmap k) e = by (eqb h stock_bitmap) (eqb k stock_bitmap) refl refl
  where
    by : (t u : Bool) → eqb h stock_bitmap ≡ t → eqb k stock_bitmap ≡ u
        → Apart (cond t (At Store 0 1 1) (locate (live b) 2 h)) (cond u (At Store 0 1 1) (locate (live b) 2 k))
    by true true f g = clash (sym e ∙ eq-eqb h k (eqb-true _ _ f ∙ sym (eqb-true _ _ g)))
    by true false f g = stock_apart _ (locate_from (live b) 2 2 k (omega arith))
    by false true f g = turn (stock_apart _ (locate_from (live b) 2 2 h (omega arith)))
    by false false f g = located_apart (live b) 2 h k e

-- the m slots from i on, whose pixels start at p
locate_within : (b : GdiState) → is_sound b ≡ true → (h m i p : ℕ) → i + m ≡ b.count → p ≡ start_of b i
    → Within b.panel_len b.store_len (locate (slots_from b.objects i m) p h)
unfolding locate slots_from
locate_within b s h zero i p e q = tt
locate_within b s h (suc m) i p e q =
    by (eqb (handle_at b.objects i) h)
    (locate_within b s h m (suc i) (p + bytes_of (object_at b i)) (omega arith) (omega (arith, sum_suc i (λ k. bytes_of (object_at b k)))))
  where
    rest : Place
    rest = locate (slots_from b.objects (suc i) m) (p + bytes_of (object_at b i)) h

    by : (t : Bool) → Within b.panel_len b.store_len rest
        → Within b.panel_len b.store_len (cond t (place_from (object_at b i) p) rest)
    by true later = object_within b s i p (omega arith) q
    by false later = later

-- every surface of a sound record lies inside its memory
pub places : (b : GdiState) → is_sound b ≡ true → (u : SurfaceId) → Within b.panel_len b.store_len (where_is b u)
places b s Panel = (placed_panel b s {u = Panel} refl).within
places b s (Bitmap h) = by (eqb h stock_bitmap)
  where
    by : (t : Bool) → Within b.panel_len b.store_len (cond t (At Store 0 1 1) (locate (live b) 2 h))
    by true = (placed_stock b s {u = Bitmap stock_bitmap} {h = stock_bitmap} refl refl).within
    by false = locate_within b s h b.count 0 2 (omega arith) (start_none b)
