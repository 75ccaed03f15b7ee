-- The removal of an object: every other pixel keeps its colour, wherever it lies afterwards. Assumes nothing.
use Rattle.std.specs.Prelude.{Some}
use mathlib.Core.Bool.{Bool, true, false, cond}
use mathlib.Core.Path.{◌≡◌, refl, sym, ◌∙◌, ap, subst}
use Prim.Native.Nat.{ℕ, ◌+◌, ◌≤◌}
use native.Mathlib.Omega.{arith}
use lib.Dec.{eqb}
use lib.ListN.{length, take, drop}
use borrow.Author.Tests.{eqb-true, eqb-false, ne_eqb}
use Rattle.gdi.specs.declared.GdiState.{GdiState}
use Rattle.gdi.specs.Record.{size, bytes_of}
use Rattle.gdi.specs.Stock.{is_stock, stock_bitmap}
use Rattle.gdi.specs.Lookup.{object_at, find_of}
use Rattle.gdi.proofs.Scan.{scan_handle, found_count}
use Rattle.sound.specs.Sound.{start_of, used}
use Rattle.sound.proofs.Sound.{Sound, parts, room}
use Rattle.memory.specs.Gap.{closed_up}
use Rattle.memory.proofs.Gap.{closed_length, part_below, part_above}
use Rattle.place.specs.declared.Place.{Place}
use Rattle.place.specs.declared.Place.TheVariants.{Nowhere}
use Rattle.place.specs.declared.SurfaceId.TheVariants.{Panel, Bitmap}
use Rattle.place.specs.Place.{live, locate, where_is}
use Rattle.place.proofs.Apart.{clash}
use Rattle.removal.specs.Removal.{without_at}
use Rattle.removal.proofs.Shifts.{Shift, gone, below, above, moved, nowhere_after}
use Rattle.paint.specs.Memories.{Memories, memories, width_of, pixels_at, colour_at}
use Rattle.paint.specs.Paint.{painted_by, after}
use Rattle.paint.specs.Paint.{closing}
use Rattle.paint.specs.Taint.{Taint, tainted_by, tainted}
use Rattle.paint.specs.Memories.{has_pixel}
use Rattle.paint.proofs.Alike.{Alike, ReadyWith}

-- the memories with the n bytes from a on removed from the store, of which the first e are in use
abbrev closed : Memories → (a n e : ℕ) → Memories
closed ms a n e = memories ms.panel (closed_up 0 ms.store a n e)

-- a bitmap that stays: its sides and its bytes at its new place are those that it had at its old place
module _ {a n e : ℕ} where
  shift_inside : {now then : Place} → Shift a n e now then → (x y : ℕ) → has_pixel now x y ≡ true → has_pixel then x y ≡ true
  shift_inside gone x y i = i
  shift_inside (below p w h c) x y i = i
  shift_inside (above p q w h c d r) x y i = i

  shift_width : {now then : Place} → Shift a n e now then → width_of now ≡ width_of then
  shift_width gone = refl
  shift_width (below p w h c) = refl
  shift_width (above p q w h c d r) = refl

  shift_pixels : {now then : Place} → Shift a n e now then → (ms : Memories) → a + n ≤ e → e ≤ length ms.store → pixels_at (closed ms a n e) now ≡ pixels_at ms then
  shift_pixels gone ms u v = refl
  shift_pixels (below p w h c) ms u v = part_below 0 ms.store a n e u v 0 p (size w h) c
  shift_pixels (above p q w h c d r) ms u v =
      part_above 0 ms.store a n e u v 0 p (size w h) d (omega arith) ∙ ap (λ (j : ℕ). take (size w h) (drop j ms.store)) (sym c)

  shift_colour : {now then : Place} → Shift a n e now then → (ms : Memories) → a + n ≤ e → e ≤ length ms.store → (x y : ℕ)
      → colour_at (closed ms a n e) now x y ≡ colour_at ms then x y
  shift_colour s ms u v x y = rw (shift_pixels s ms u v, shift_width s)

module _ (b : GdiState) (h i : ℕ) (found : find_of b h ≡ Some i) where
  -- its bytes are among those in use, and these lie in the store
  gap : Sound b → start_of b i + bytes_of (object_at b i) ≤ used b
  gap s = room s i (found_count b h found)

  stored : (ms : Memories) → ReadyWith b ms → used b ≤ length ms.store
  stored ms l = omega (arith, (parts b l.sound).store, l.store)

  module _ (created : is_stock h ≡ false) where
    not_stock : eqb h stock_bitmap ≡ false
    not_stock = ne_eqb h stock_bitmap (λ q. clash (sym created ∙ ap is_stock q ∙ is))
      where
        is : is_stock stock_bitmap ≡ true
        is = unfold is_stock in refl

    -- the removed bitmap has no place, and every other bitmap is shifted
    itself : Sound b → where_is (without_at b i) (Bitmap h) ≡ Nowhere
    itself s = rw not_stock (subst (λ (k : ℕ). locate (live (without_at b i)) 2 k ≡ Nowhere) (scan_handle b.objects h 0 b.count found) (nowhere_after b s i (found_count b h found) 2))

    others : Sound b → (k : ℕ) → eqb k h ≡ false → Shift (start_of b i) (bytes_of (object_at b i)) (used b) (where_is (without_at b i) (Bitmap k)) (where_is b (Bitmap k))
    others s k f = moved b s i (found_count b h found) k (ne_eqb _ _ (λ q. eqb-false k h f (sym q ∙ scan_handle b.objects h 0 b.count found)))

    -- the law: untainted pixels of the other surfaces stay equal
    pub close_alike : (m : Taint) (ms ns : Memories) → ReadyWith b ms → ReadyWith b ns → Alike b m ms ns
        → Alike (without_at b i) (tainted (closing b h i) m) (after b (closing b h i) ms) (after b (closing b h i) ns)
    unfolding after painted_by tainted tainted_by
    close_alike m ms ns lm ln like Panel x y j n = unfold without_at in like Panel x y (unfold without_at in j) n
    close_alike m ms ns lm ln like (Bitmap k) x y j n = by (eqb k h) refl n
      where
        s : Sound b
        s = parts b lm.sound

        colour : Memories → ℕ
        colour l = colour_at (closed l (start_of b i) (bytes_of (object_at b i)) (used b)) (where_is (without_at b i) (Bitmap k)) x y

        by : (t : Bool) → eqb k h ≡ t → (cond t ⊥ (m (Bitmap k) x y) → ⊥) → colour ms ≡ colour ns
        by true f n = clash (sym (ap (λ (at : Place). has_pixel at x y) (ap (λ (u : ℕ). where_is (without_at b i) (Bitmap u)) (eqb-true k h f) ∙ itself s)) ∙ j)
        by false f n =
            shift_colour (others s k f) ms (gap s) (stored ms lm) x y
            ∙ like (Bitmap k) x y (shift_inside (others s k f) x y j) n
            ∙ sym (shift_colour (others s k f) ns (gap s) (stored ns ln) x y)

  pub closed_panel : (ms : Memories) → length (after b (closing b h i) ms).panel ≡ length ms.panel
  unfolding after painted_by
  closed_panel ms = refl

  pub closed_store : (ms : Memories) → ReadyWith b ms → length (after b (closing b h i) ms).store ≡ length ms.store
  unfolding after painted_by
  closed_store ms l = closed_length 0 ms.store (start_of b i) (bytes_of (object_at b i)) (used b) (gap (parts b l.sound)) (stored ms l)
