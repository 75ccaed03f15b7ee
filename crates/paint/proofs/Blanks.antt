-- Blanked bytes: cleared surfaces are black, and every other pixel keeps its colour; with new objects, the resized
-- panel and all created bitmaps as its cases. Assumes nothing.
use mathlib.Core.Bool.{Bool, true, false, cond, not}
use mathlib.Core.List.{List, [], ◌∷◌, ◌++◌}
use mathlib.Core.Path.{◌≡◌, refl, sym, ◌∙◌, ap, subst}
use Prim.Native.Nat.{ℕ, zero, suc, ◌+◌, ◌-◌, ◌*◌, ◌≤◌, ◌<◌}
use native.Mathlib.Omega.{arith}
use lib.Dec.{eqb}
use lib.ListN.{length, drop, replicate, length-replicate, get_or-replicate}
use lib.Seq.{get_or-take, get_or-drop, ext_get_or}
use borrow.Author.Tests.{eqb-true, eqb-false, eq-eqb, ne_eqb, not-true}
use Rattle.arithmetic.proofs.Test.{each}
use Rattle.arithmetic.proofs.Sum.{sum_suc}
use Rattle.words.specs.Words.{word}
use Rattle.words.specs.Parts.{part}
use Rattle.words.proofs.Parts.{length_part, length_with, with_within, part_other}
use Rattle.gdi.specs.declared.GdiState.{GdiState}
use Rattle.gdi.specs.declared.Slot.{Slot}
use Rattle.gdi.specs.declared.GdiObject.{GdiObject}
use Rattle.gdi.specs.declared.GdiObject.TheVariants.{Dc as DcOf, Bitmap as BitmapOf, Brush, Pen, Font}
use Rattle.gdi.specs.Record.{state_with, size, bytes_of}
use Rattle.gdi.specs.Stock.{is_stock, stock_bitmap}
use Rattle.gdi.specs.Lookup.{handle_at, object_at}
use Rattle.sound.specs.Sound.{start_of, used, is_sound}
use Rattle.sound.proofs.Sound.{parts, whole}
use Rattle.sound.proofs.Bytes.{start_none}
use Rattle.memory.specs.Gap.{blanked}
use Rattle.place.specs.declared.Memory.{Memory}
use Rattle.place.specs.declared.Memory.TheVariants.{Panel as PanelMemory, Store}
use Rattle.place.specs.declared.Place.{Place}
use Rattle.place.specs.declared.Place.TheVariants.{Nowhere, At}
use Rattle.place.specs.declared.SurfaceId.{SurfaceId}
use Rattle.place.specs.declared.SurfaceId.TheVariants.{Panel, Bitmap}
use Rattle.place.specs.Place.{slots_from, live, place_from, locate, where_is, Within}
use Rattle.place.proofs.Apart.{clash, From, nothing, some, locate_from, bitmap_from, places}
use Rattle.handles.specs.Handles.{new_handle, added}
use Rattle.handles.proofs.Added.{new_slot, live_added, new_absent, new_no_stock}
use Rattle.paint.specs.Memories.{Memories, memory_of, with_memory, width_of, has_pixel, pixels_at, colour_at}
use Rattle.paint.specs.Paint.{blank, only, created, painted_by}
use Rattle.paint.specs.Taint.{Taint, tainted_by}
use Rattle.paint.proofs.Alike.{Alike}

-- a surface that has no place, or whose bytes are all among the n of the memory from p on
pub data Among (p n : ℕ) : Memory → Place → Type 0 where
  no_place : {k : Memory} → Among p n k Nowhere
  within : {k : Memory} {q w h : ℕ} → p ≤ q → q + size w h ≤ p + n → Among p n k (At k q w h)

-- a surface that has no place, or none of whose bytes is among them
pub data Off (p n : ℕ) : Memory → Place → Type 0 where
  no_bytes : {k : Memory} → Off p n k Nowhere
  on_panel : {q w h : ℕ} → Off p n Store (At PanelMemory q w h)
  in_store : {q w h : ℕ} → Off p n PanelMemory (At Store q w h)
  apart : {k : Memory} {q w h : ℕ} → ((j : ℕ) → q ≤ j → j < q + size w h → p ≤ j → j < p + n → ⊥) → Off p n k (At k q w h)

-- the condition on each surface: it is cleared and lies among the blanked bytes afterwards, or it is not cleared and stays in its
-- place apart from them
pub data Blanked (k : Memory) (p n : ℕ) : (cleared : Bool) → (then now : Place) → Type 0 where
  new : {then now : Place} → Among p n k now → Blanked k p n true then now
  old : {then now : Place} → now ≡ then → Off p n k then → Blanked k p n false then now

-- the memories with the n bytes of one of them from p on at 0
abbrev blacked : Memories → Memory → (p n : ℕ) → Memories
blacked ms k p n = with_memory ms k (blanked (memory_of ms k) p n)

memory_put : (ms : Memories) (k : Memory) (l : List ℕ) → memory_of (with_memory ms k l) k ≡ l
memory_put ms PanelMemory l = refl
memory_put ms Store l = refl

module _ (ms : Memories) (p n : ℕ) where
  off_pixels : {k : Memory} {at : Place} → Off p n k at → p + n ≤ length (memory_of ms k) → pixels_at (blacked ms k p n) at ≡ pixels_at ms at
  off_pixels no_bytes fits = refl
  off_pixels on_panel fits = refl
  off_pixels in_store fits = refl
  off_pixels (apart {k = k} {q = q} {w = w} {h = h} off) fits =
      rw (memory_put ms k (blanked (memory_of ms k) p n)) (part_other (memory_of ms k) (replicate n 0) p n (length-replicate n 0) fits q (size w h) off)

-- a part of blanked bytes
part_black : (m : List ℕ) (p n q c : ℕ) → p + n ≤ length m → p ≤ q → q + c ≤ p + n → part (blanked m p n) q c ≡ replicate c 0
part_black m p n q c fits le lt =
    ext_get_or 0 (part (blanked m p n) q c) (replicate c 0) (length_part (blanked m p n) q c (omega (arith, long)) ∙ sym (length-replicate c 0))
    (λ i few. let r : i < c = omega (arith, length_part (blanked m p n) q c (omega (arith, long))) in
    get_or-take c (drop q (blanked m p n)) i 0 r
    ∙ get_or-drop q (blanked m p n) i 0
    ∙ with_within m (replicate n 0) p n (length-replicate n 0) fits (q + i) (omega arith) (omega arith)
    ∙ get_or-replicate n (q + i - p) 0 0 (omega arith)
    ∙ sym (get_or-replicate c i 0 0 r))
  where
    long : length (blanked m p n) ≡ length m
    long = length_with m (replicate n 0) p n (length-replicate n 0) fits

among_alike : (p n : ℕ) {k : Memory} {at : Place} → Among p n k at → (ms ns : Memories) → p + n ≤ length (memory_of ms k) → p + n ≤ length (memory_of ns k)
    → pixels_at (blacked ms k p n) at ≡ pixels_at (blacked ns k p n) at
among_alike p n no_place ms ns f g = refl
among_alike p n (within {k = k} {q = q} {w = w} {h = h} a b) ms ns f g =
    rw (memory_put ms k (blanked (memory_of ms k) p n), memory_put ns k (blanked (memory_of ns k) p n))
    (part_black (memory_of ms k) p n q (size w h) f a b ∙ sym (part_black (memory_of ns k) p n q (size w h) g a b))

module _ (k : Memory) (p n : ℕ) (clears : SurfaceId → Bool) (b b' : GdiState) (asked : (u : SurfaceId) → Blanked k p n (clears u) (where_is b u) (where_is b' u)) where
  -- untainted pixels stay alike, and cleared surfaces are alike whatever was tainted
  pub blank_alike : (a : GdiState) (m : Taint) (ms ns : Memories) → p + n ≤ length (memory_of ms k) → p + n ≤ length (memory_of ns k) → Alike b m ms ns
      → Alike b' (tainted_by (blank k p n clears) m) (painted_by a (blank k p n clears) ms) (painted_by a (blank k p n clears) ns)
  unfolding tainted_by painted_by
  blank_alike a m ms ns f g like u x y i none = by (asked u) (like u x y) i none
    where
      by : {t : Bool} {then now : Place} → Blanked k p n t then now → (has_pixel then x y ≡ true → (m u x y → ⊥) → colour_at ms then x y ≡ colour_at ns then x y)
          → has_pixel now x y ≡ true → (cond t ⊥ (m u x y) → ⊥) → colour_at (blacked ms k p n) now x y ≡ colour_at (blacked ns k p n) now x y
      by (new {now = now} c) like i none = ap (λ (l : List ℕ). word l (x + y * width_of now)) (among_alike p n c ms ns f g)
      by (old {then = then} e c) like i none =
          subst (λ (at : Place). has_pixel at x y ≡ true → colour_at (blacked ms k p n) at x y ≡ colour_at (blacked ns k p n) at x y) (sym e)
          (λ j. ap (λ (l : List ℕ). word l (x + y * width_of then)) (off_pixels ms p n c f) ∙ like j none ∙ sym (ap (λ (l : List ℕ). word l (x + y * width_of then)) (off_pixels ns p n c g))) i

module _ (a : GdiState) (p n : ℕ) (clears : SurfaceId → Bool) (ms : Memories) where
  pub blank_panel : (k : Memory) → p + n ≤ length (memory_of ms k) → length (painted_by a (blank k p n clears) ms).panel ≡ length ms.panel
  unfolding painted_by
  blank_panel PanelMemory fits = length_with ms.panel (replicate n 0) p n (length-replicate n 0) fits
  blank_panel Store fits = refl

  pub blank_store : (k : Memory) → p + n ≤ length (memory_of ms k) → length (painted_by a (blank k p n clears) ms).store ≡ length ms.store
  unfolding painted_by
  blank_store PanelMemory fits = refl
  blank_store Store fits = length_with ms.store (replicate n 0) p n (length-replicate n 0) fits

-- with one more slot at the end: where the other objects lie, and where the new one does
locate_old : (s : Slot) (l : List Slot) (p k : ℕ) → eqb s.handle k ≡ false → locate (l ++ (s ∷ [])) p k ≡ locate l p k
unfolding locate
locate_old s [] p k e = rw e
locate_old s (r ∷ l) p k e = rw (locate_old s l (p + bytes_of r.object) k e)

module _ (b : GdiState) (s : Slot) (h : ℕ) (is : eqb s.handle h ≡ true) (none : (j : ℕ) → j < b.count → eqb (handle_at b.objects j) h ≡ false) where
  locate_new : (i m p : ℕ) → i + m ≡ b.count → p ≡ start_of b i → locate (slots_from b.objects i m ++ (s ∷ [])) p h ≡ place_from s.object (used b)
  unfolding locate slots_from
  locate_new i zero p e q = let z : i ≡ b.count = omega arith in rw is (ap (place_from s.object) (rw z at q))
  locate_new i (suc m) p e q =
      rw (none i (omega arith)) (locate_new (suc i) m (p + bytes_of (object_at b i)) (omega arith) (omega (arith, sum_suc i (λ k. bytes_of (object_at b k)))))

module _ (b : GdiState) (o : GdiObject) (sound : is_sound b ≡ true) (h : ℕ) where
  -- the new object lies where the others end; the others stay in their places
  where_new : where_is (added b o) (Bitmap h) ≡ cond (eqb h (new_handle b)) (place_from o (used b)) (where_is b (Bitmap h))
  where_new = by (eqb h stock_bitmap) refl (eqb h (new_handle b)) refl
    where
      none : (j : ℕ) → j < b.count → eqb (handle_at b.objects j) (new_handle b) ≡ false
      none j lt = not-true _ (each b.count (λ j. not (eqb (handle_at b.objects j) (new_handle b))) (new_absent b sound) j lt)

      by : (t : Bool) → eqb h stock_bitmap ≡ t → (u : Bool) → eqb h (new_handle b) ≡ u
          → cond t (At Store 0 1 1) (locate (live (added b o)) 2 h) ≡ cond u (place_from o (used b)) (cond t (At Store 0 1 1) (locate (live b) 2 h))
      by true e true f =
          let q : new_handle b ≡ stock_bitmap = sym (eqb-true h (new_handle b) f) ∙ eqb-true h stock_bitmap e in
          let r : is_stock stock_bitmap ≡ true = unfold is_stock in refl in
          let n : is_stock stock_bitmap ≡ false = rw q at (new_no_stock b sound) in
          clash (sym n ∙ r)
      by true e false f = refl
      by false e true f =
          ap (λ (l : List Slot). locate l 2 h) (live_added b o sound)
          ∙ locate_new b (new_slot b o) h (eq-eqb (new_handle b) h (sym (eqb-true h (new_handle b) f))) (λ j lt. rw (eqb-true h (new_handle b) f) (none j lt)) 0 b.count 2 (omega arith) (start_none b)
      by false e false f = ap (λ (l : List Slot). locate l 2 h) (live_added b o sound) ∙ locate_old (new_slot b o) (live b) 2 h (ne_eqb (new_handle b) h (λ q. eqb-false h (new_handle b) f (sym q)))

-- the record with another store length
abbrev with_store_len : GdiState → ℕ → GdiState
with_store_len b n = state_with b.panel_len n b.width b.height b.frame_counter b.next_handle b.screen b.stock_dirty b.count b.objects

-- every surface ends before the free part of the store, so it lies in the store without that part
abbrev cut : GdiState → GdiState
cut b = with_store_len b (used b)

cut_sound : (b : GdiState) → is_sound b ≡ true → is_sound (cut b) ≡ true
cut_sound b sound =
    let s = parts b sound in
    whole (cut b) (record {
      panel_len = s.panel_len;
      store_len = omega (arith, s.store, s.store_len);
      count = s.count;
      width = s.width;
      height = s.height;
      panel = s.panel;
      screen = s.screen;
      slots = s.slots;
      apart = s.apart;
      store = omega arith;
    })

ends : (b : GdiState) → is_sound b ≡ true → (u : SurfaceId) → Within b.panel_len (used b) (where_is b u)
ends b sound Panel = places (cut b) (cut_sound b sound) Panel
ends b sound (Bitmap h) = places (cut b) (cut_sound b sound) (Bitmap h)

-- a place that ends before the blanked bytes
ends_off : (a p n : ℕ) (at : Place) → Within a p at → Off p n Store at
ends_off a p n Nowhere i = no_bytes
ends_off a p n (At PanelMemory q w h) i = on_panel
ends_off a p n (At Store q w h) i = let end : q + size w h ≤ p = i.fits in apart {q = q} {w = w} {h = h} (λ j from to there within. omega (arith, end))

-- a new object's bytes
frame_among : (o : GdiObject) (p : ℕ) → Among p (bytes_of o) Store (place_from o p)
frame_among (DcOf d) p = no_place
frame_among (BitmapOf m) p = within {q = p} {w = m.width} {h = m.height} (omega arith) (omega arith)
frame_among (Brush x) p = no_place
frame_among (Pen x) p = no_place
frame_among (Font x) p = no_place

-- a new object after the others
pub new_blanked : (b : GdiState) (o : GdiObject) → is_sound b ≡ true → (u : SurfaceId) → Blanked Store (used b) (bytes_of o) (only (Bitmap (new_handle b)) u) (where_is b u) (where_is (added b o) u)
new_blanked b o sound Panel = unfold added in old refl on_panel
new_blanked b o sound (Bitmap h) =
    subst (λ (now : Place). Blanked Store (used b) (bytes_of o) (eqb h (new_handle b)) (where_is b (Bitmap h)) now) (sym (where_new b o sound h)) (by (eqb h (new_handle b)))
  where
    by : (t : Bool) → Blanked Store (used b) (bytes_of o) t (where_is b (Bitmap h)) (cond t (place_from o (used b)) (where_is b (Bitmap h)))
    by true = new (frame_among o (used b))
    by false = old refl (ends_off b.panel_len (used b) (bytes_of o) (where_is b (Bitmap h)) (ends b sound (Bitmap h)))

-- the panel at a new size
pub sized_blanked : (b b' : GdiState) (w h : ℕ) → where_is b' Panel ≡ At PanelMemory 0 w h → ((k : ℕ) → where_is b' (Bitmap k) ≡ where_is b (Bitmap k))
    → (u : SurfaceId) → Blanked PanelMemory 0 (size w h) (only Panel u) (where_is b u) (where_is b' u)
sized_blanked b b' w h panel bitmaps Panel =
    subst (λ (now : Place). Blanked PanelMemory 0 (size w h) true (where_is b Panel) now) (sym panel) (new (within {q = 0} {w = w} {h = h} (omega arith) (omega arith)))
sized_blanked b b' w h panel bitmaps (Bitmap k) = old (bitmaps k) (by (bitmap_from b k))
  where
    by : {at : Place} → From 0 at → Off 0 (size w h) PanelMemory at
    by nothing = no_bytes
    by (some le) = in_store

-- all store past the stock bitmap: every created bitmap lies there, whatever the record was before
pub store_blanked : (b b' : GdiState) → is_sound b' ≡ true → where_is b' Panel ≡ where_is b Panel
    → (u : SurfaceId) → Blanked Store 2 (b'.store_len - 2) (created u) (where_is b u) (where_is b' u)
store_blanked b b' sound panel Panel = old panel on_panel
store_blanked b b' sound panel (Bitmap h) = by (eqb h stock_bitmap) refl
  where
    among : (at : Place) → From 2 at → Within b'.panel_len b'.store_len at → Among 2 (b'.store_len - 2) Store at
    among Nowhere nothing i = no_place
    among (At PanelMemory q x y) none i = elim none [ ]
    among (At Store q x y) (some le) i = within {q = q} {w = x} {h = y} le (omega (arith, i.fits, le))

    by : (t : Bool) → eqb h stock_bitmap ≡ t
        → Blanked Store 2 (b'.store_len - 2) (not t) (cond t (At Store 0 1 1) (locate (live b) 2 h)) (cond t (At Store 0 1 1) (locate (live b') 2 h))
    by true e = old refl (apart {q = 0} {w = 1} {h = 1} (λ j from to there end. omega arith))
    by false e = new (among (locate (live b') 2 h) (locate_from (live b') 2 2 h (omega arith)) (rw e at (places b' sound (Bitmap h))))
