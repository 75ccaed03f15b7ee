-- The steps of locating a bitmap, and the cases of a surface's place, each inside its memory. Assumes nothing.
use Rattle.std.specs.Prelude.{Option, Some, None}
use mathlib.Core.Bool.{true}
use mathlib.Core.Path.{◌≡◌, sym, ◌∙◌, ap₂, subst, subst⁻¹}
use Prim.Native.Nat.{ℕ, suc, ◌+◌, ◌-◌, ◌*◌, ◌≤◌, ◌<◌}
use native.Mathlib.Nat.{mul-le-mul}
use native.Mathlib.Numerals.{add-one}
use native.Mathlib.Omega.{arith}
use borrow.Author.Tests.{eq-eqb, ne_eqb}
use Rattle.arithmetic.proofs.Test.{both}
use Rattle.surface.specs.Refusal.{side}
use Rattle.surface.proofs.Accepted.{side_range}
use Rattle.gdi.specs.declared.GdiState.{GdiState}
use Rattle.gdi.specs.declared.GdiObject.{GdiObject}
use Rattle.gdi.specs.declared.GdiObject.TheVariants.{Dc as DcOf, Bitmap as BitmapOf, Brush, Pen, Font}
use Rattle.gdi.specs.Record.{size, bytes_of}
use Rattle.gdi.specs.Stock.{stock_bitmap}
use Rattle.gdi.specs.Lookup.{handle_at, object_at, find_of}
use Rattle.sound.specs.Sound.{object_fits, start_of, is_sound}
use Rattle.sound.proofs.Sound.{parts, fits_at, room}
use Rattle.place.specs.declared.Memory.{Memory}
use Rattle.place.specs.declared.Memory.TheVariants.{Panel as PanelMemory, Store}
use Rattle.place.specs.declared.Place.{Place}
use Rattle.place.specs.declared.Place.TheVariants.{Nowhere, At}
use Rattle.place.specs.declared.Site.{Site}
use Rattle.place.specs.declared.SurfaceId.{SurfaceId}
use Rattle.place.specs.declared.SurfaceId.TheVariants.{Panel, Bitmap}
use Rattle.place.specs.Place.{slots_from, live, place_from, locate, length_of, Inside, Within}
use Rattle.place.specs.Inner.{Located, SiteFound}

-- the search among the slots from i on, whose pixels start at byte p
abbrev pub located_from : GdiState → (h i p : ℕ) → Place
located_from b h i p = locate (slots_from b.objects i (b.count - i)) p h

-- the steps of the search for a handle
module _ (b : GdiState) (h i p : ℕ) where
  module _ (lt : i < b.count) where
    less : b.count - i ≡ suc (b.count - (i + 1))
    less = omega arith

    pub hit : handle_at b.objects i ≡ h → located_from b h i p ≡ place_from (object_at b i) p
    unfolding slots_from locate
    hit e = rw (less, eq-eqb _ _ e)

    pub miss : (handle_at b.objects i ≡ h → ⊥) → {x : ℕ} → x ≡ bytes_of (object_at b i)
        → located_from b h (i + 1) (p + x) ≡ located_from b h i p
    unfolding slots_from locate
    miss ne e = rw (less, ne_eqb _ _ ne, e, add-one)

  pub end : b.count ≤ i → Nowhere ≡ located_from b h i p
  unfolding slots_from locate
  end le = let m : b.count - i ≡ 0 = omega arith in rw m

pub start : (b : GdiState) (h : ℕ) → located_from b h 0 2 ≡ locate (live b) 2 h
start b h = let m : b.count - 0 ≡ b.count = omega arith in rw m

-- a place inside its memory, by its sides
fits_inside : {len p w h : ℕ} → side w ≡ true → side h ≡ true → p + size w h ≤ len → Inside len p w h
fits_inside {len} {p} {w} {h} a b le =
    let x = side_range w a in
    let y = side_range h b in
    record { fits = le; some = x.0; wide = x.1; some_rows = y.0; high = y.1 }

-- the place of an object that is sound and has room
pub frame_within : (o : GdiObject) (n k p : ℕ) → object_fits o ≡ true → p + bytes_of o ≤ k → Within n k (place_from o p)
frame_within (DcOf d) n k p e le = tt
frame_within (BitmapOf m) n k p e le = let s = both (side m.width) (side m.height) e in fits_inside s.0 s.1 le
frame_within (Brush x) n k p e le = tt
frame_within (Pen x) n k p e le = tt
frame_within (Font x) n k p e le = tt

-- object i of a sound record lies inside the store
pub object_within : (b : GdiState) → is_sound b ≡ true → (i p : ℕ) → i < b.count → p ≡ start_of b i
    → Within b.panel_len b.store_len (place_from (object_at b i) p)
object_within b s i p lt e =
    let q = parts b s in
    frame_within (object_at b i) _ _ p (fits_at q i lt) (omega (arith, e, q.store, room q i lt))

abbrev pub site : Place → Option ℕ → Site
site at slot = record { at = at; slot = slot }

-- the object with the handle was found in slot i, whose pixels start at p
pub located : (b : GdiState) → is_sound b ≡ true → (h i p : ℕ) {r : Place} → i < b.count → handle_at b.objects i ≡ h
    → p ≡ start_of b i → located_from b h i p ≡ locate (live b) 2 h → Some i ≡ find_of b h → r ≡ place_from (object_at b i) p → Located b h (record { at = r; slot = Some i })
located b s h i p lt e q inv g f =
    record {
      same = ap₂ site (f ∙ sym (hit b h i p lt e) ∙ inv) g;
      within = subst⁻¹ (Within b.panel_len b.store_len) f (object_within b s i p lt q);
    }

-- the cases of a surface's place
module _ (b : GdiState) (sound : is_sound b ≡ true) {u : SurfaceId} where
  pub placed_panel : u ≡ Panel → SiteFound b u (site (At PanelMemory 0 b.width b.height) None)
  placed_panel e = let q = parts b sound in record { same = rw e; within = fits_inside q.width q.height (omega (arith, q.panel)) }

  pub placed_stock : {h : ℕ} → u ≡ Bitmap h → h ≡ stock_bitmap → SiteFound b u (site (At Store 0 1 1) None)
  placed_stock e f = record { same = rw (e, eq-eqb _ _ f); within = omega (arith, (parts b sound).store) }

  pub placed_created : {h : ℕ} {r : Site} → u ≡ Bitmap h → (h ≡ stock_bitmap → ⊥) → Located b h r → SiteFound b u r
  placed_created e ne l = record { same = rw (e, ne_eqb _ _ ne) l.same; within = l.within }

-- the number of a surface's pixels fits a machine word
pub few_pixels : {len p w h : ℕ} → Inside len p w h → w * h ≤ 16777216
few_pixels i = mul-le-mul i.wide i.high

-- what is known of the parts of a place
pub taken_apart : (n k : ℕ) {at : Place} {m : Memory} (v : Memory) {p w h : ℕ} → Within n k at → at ≡ At m p w h → m ≡ v → Inside (length_of n k v) p w h
taken_apart n k v {p} {w} {h} i e f = subst (λ (u : Memory). Inside (length_of n k u) p w h) f (subst (Within n k) e i)
