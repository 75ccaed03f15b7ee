-- A record whose slots keep handle, place and size has its surfaces in the same places; a changed DC is an example. Assumes nothing.
use Rattle.std.specs.Prelude.{None, Some}
use mathlib.Core.Bool.{true, not, cond}
use mathlib.Core.List.{List, [], ◌∷◌}
use mathlib.Core.Path.{◌≡◌, refl, sym, ◌∙◌, ap}
use Prim.Native.Nat.{ℕ, zero, suc, ◌+◌}
use lib.Dec.{eqb}
use lib.ListN.{get_or, set}
use Rattle.arithmetic.proofs.Test.{all_same}
use Rattle.arithmetic.proofs.Sum.{sum_same}
use Rattle.gdi.specs.declared.Dc.{Dc}
use Rattle.gdi.specs.declared.GdiObject.TheVariants.{Dc as DcOf}
use Rattle.gdi.specs.declared.GdiState.{GdiState}
use Rattle.gdi.specs.declared.Slot.{Slot}
use Rattle.gdi.specs.declared.Spot.{Spot}
use Rattle.gdi.specs.declared.Spot.TheVariants.{Screen, Created}
use Rattle.gdi.specs.Record.{no_slot, bytes_of}
use Rattle.gdi.specs.Updates.{with_objects, with_dc}
use Rattle.gdi.specs.Stock.{stock_bitmap}
use Rattle.gdi.specs.Lookup.{slot_at, handle_at, object_at, dc_of}
use Rattle.gdi.proofs.Scan.{scan_same, scan_handle, dc_found_lem, screen_found}
use Rattle.sound.specs.Sound.{positioned, object_fits, slot_fits, absent, distinct, is_sound}
use Rattle.place.specs.declared.Memory.TheVariants.{Store}
use Rattle.place.specs.declared.Place.{Place}
use Rattle.place.specs.declared.Place.TheVariants.{At}
use Rattle.place.specs.declared.SurfaceId.{SurfaceId}
use Rattle.place.specs.declared.SurfaceId.TheVariants.{Panel, Bitmap}
use Rattle.place.specs.Place.{slots_from, place_from, locate, where_is, slot_for}

-- every surface of the second record lies where it lies in the first
abbrev pub SamePlaces : GdiState → GdiState → Type 0
SamePlaces b b' = (u : SurfaceId) → where_is b' u ≡ where_is b u

-- The second record has every surface in the same place as the first, is sound if the first is, and has the same lengths.
pub record Still (b b' : GdiState) : Type 0 where
  pub places : SamePlaces b b'
  pub sound : is_sound b ≡ true → is_sound b' ≡ true
  pub panel_len : b'.panel_len ≡ b.panel_len
  pub store_len : b'.store_len ≡ b.store_len

pub still_same : (b : GdiState) → Still b b
still_same b = record { places = λ u. refl; sound = λ s. s; panel_len = refl; store_len = refl }

pub still_then : {a b c : GdiState} → Still a b → Still b c → Still a c
still_then s t =
    record {
      places = λ u. t.places u ∙ s.places u;
      sound = λ z. t.sound (s.sound z);
      panel_len = t.panel_len ∙ s.panel_len;
      store_len = t.store_len ∙ s.store_len;
    }

-- a slot that keeps what places depend on
pub record Kept (s t : Slot) : Type 0 where
  pub handle : s.handle ≡ t.handle
  pub frame : (p : ℕ) → place_from s.object p ≡ place_from t.object p
  pub bytes : bytes_of s.object ≡ bytes_of t.object

-- a list with one slot changed that keeps f
pub set_same : {A : Type 0} (f : Slot → A) (l : List Slot) (i : ℕ) (s : Slot) → f s ≡ f (get_or l i no_slot) → (j : ℕ)
    → f (get_or (set l i s) j no_slot) ≡ f (get_or l j no_slot)
set_same f [] i s e j = refl
set_same f (x ∷ l) zero s e zero = e
set_same f (x ∷ l) zero s e (suc j) = refl
set_same f (x ∷ l) (suc i) s e zero = refl
set_same f (x ∷ l) (suc i) s e (suc j) = set_same f l i s e j

pub set_kept : (l : List Slot) (i : ℕ) (s : Slot) → Kept s (get_or l i no_slot) → (j : ℕ) → Kept (get_or (set l i s) j no_slot) (get_or l j no_slot)
set_kept l i s k j =
    record {
      handle = set_same (λ t. t.handle) l i s k.handle j;
      frame = λ p. set_same (λ t. place_from t.object p) l i s (k.frame p) j;
      bytes = set_same (λ t. bytes_of t.object) l i s k.bytes j;
    }

module _ (l n : List Slot) (kept : (j : ℕ) → Kept (get_or l j no_slot) (get_or n j no_slot)) where
  pub same_locate : (k m p h : ℕ) → locate (slots_from l k m) p h ≡ locate (slots_from n k m) p h
  unfolding locate slots_from
  same_locate k zero p h = refl
  same_locate k (suc m) p h =
      rw ((kept k).handle, (kept k).frame p, (kept k).bytes, same_locate (suc k) m (p + bytes_of (get_or n k no_slot).object) h)

  same_absent : (m h : ℕ) → absent l m h ≡ absent n m h
  same_absent m h = all_same m _ _ (λ j lt. ap (λ (g : ℕ). not (eqb g h)) (kept j).handle)

  same_distinct : (m : ℕ) → distinct l m ≡ distinct n m
  same_distinct m = all_same m _ _ (λ j lt. same_absent j (handle_at l j) ∙ ap (absent n j) (kept j).handle)

-- a record with other slots, each of which keeps what places depend on
module _ (b : GdiState) (next : ℕ) (l : List Slot) (kept : (j : ℕ) → Kept (get_or l j no_slot) (slot_at b j)) where
  pub kept_places : SamePlaces b (with_objects b next b.count l)
  kept_places Panel = refl
  kept_places (Bitmap h) =
      ap (λ (z : Place). cond (eqb h stock_bitmap) (At Store 0 1 1) z) (same_locate l b.objects kept 0 b.count 2 h)

  pub kept_sound : ((j : ℕ) → object_fits (get_or l j no_slot).object ≡ object_fits (object_at b j))
      → is_sound (with_objects b next b.count l) ≡ is_sound b
  unfolding is_sound
  kept_sound fits =
      rw (
        all_same b.count (λ i. slot_fits (get_or l i no_slot)) (λ i. slot_fits (slot_at b i)) (λ i lt. rw ((kept i).handle, fits i)),
        same_distinct l b.objects kept b.count,
        sum_same b.count (λ i. bytes_of (get_or l i no_slot).object) (λ i. bytes_of (object_at b i)) (λ i lt. (kept i).bytes),
      )

-- The second DC keeps what soundness depends on.
pub record SameSoundness (d₀ d : Dc) : Type 0 where
  pub surface : d.surface ≡ d₀.surface
  pub position : positioned d ≡ positioned d₀

-- another DC record in its slot, under its handle
abbrev dc_slot : ℕ → Dc → Slot
dc_slot h d = record { handle = h; object = DcOf d }

module _ (b : GdiState) (dc : ℕ) {i : ℕ} {d₀ : Dc} (d : Dc) (e : dc_of b dc ≡ Some (Created i, d₀)) where
  dc_kept : (j : ℕ) → Kept (get_or (set b.objects i (dc_slot dc d)) j no_slot) (slot_at b j)
  dc_kept =
      set_kept b.objects i (dc_slot dc d) (record {
        handle = sym (scan_handle b.objects dc 0 b.count (dc_found_lem b dc e).0);
        frame = λ p. rw (dc_found_lem b dc e).1;
        bytes = rw (dc_found_lem b dc e).1;
      })

  dc_fits : SameSoundness d₀ d → (j : ℕ)
      → object_fits (get_or (set b.objects i (dc_slot dc d)) j no_slot).object ≡ object_fits (object_at b j)
  dc_fits f = set_same (λ s. object_fits s.object) b.objects i (dc_slot dc d) (rw ((dc_found_lem b dc e).1, f.surface, f.position))

module _ (b : GdiState) (dc : ℕ) {p : Spot} {d₀ : Dc} (d : Dc) where
  -- selection, settings and moves leave every surface where it was
  pub updated_places : dc_of b dc ≡ Some (p, d₀) → SamePlaces b (with_dc b dc p d)
  updated_places = by p
    where
      by : (q : Spot) → dc_of b dc ≡ Some (q, d₀) → SamePlaces b (with_dc b dc q d)
      by Screen e Panel = refl
      by Screen e (Bitmap h) = refl
      by (Created i) e u = kept_places b b.next_handle (set b.objects i (dc_slot dc d)) (dc_kept b dc d e) u

  -- and keep the record sound
  pub updated_sound : is_sound b ≡ true → dc_of b dc ≡ Some (p, d₀) → SameSoundness d₀ d → is_sound (with_dc b dc p d) ≡ true
  unfolding is_sound
  updated_sound s e f = by p e ∙ s
    where
      by : (q : Spot) → dc_of b dc ≡ Some (q, d₀) → is_sound (with_dc b dc q d) ≡ is_sound b
      by Screen e = rw (f.position, ← screen_found b dc e)
      by (Created i) e = kept_sound b b.next_handle (set b.objects i (dc_slot dc d)) (dc_kept b dc d e) (dc_fits b dc d e f)

  -- and every bitmap's record in its slot
  pub updated_slot : dc_of b dc ≡ Some (p, d₀) → (u : SurfaceId) → slot_for (with_dc b dc p d) u ≡ slot_for b u
  updated_slot = by p
    where
      by : (q : Spot) → dc_of b dc ≡ Some (q, d₀) → (u : SurfaceId) → slot_for (with_dc b dc q d) u ≡ slot_for b u
      by q e Panel = refl
      by Screen e (Bitmap h) = refl
      by (Created i) e (Bitmap h) = ap (cond (eqb h stock_bitmap) None) (scan_same b.objects (set b.objects i (dc_slot dc d)) h 0 b.count (λ j. (dc_kept b dc d e j).handle))
