-- The record without one of its objects: the slot and the handle are gone, and every other bitmap keeps its place or moves down.
-- Assumes nothing.
use mathlib.Core.Bool.{Bool, true, false, cond}
use mathlib.Core.List.{List}
use mathlib.Core.Path.{◌≡◌, refl, sym, ◌∙◌, ap, subst}
use Prim.Native.Nat.{ℕ, zero, suc, ◌+◌, ◌-◌, ◌≤◌, ◌<◌}
use native.Mathlib.Decide.{dec_lt}
use native.Mathlib.Omega.{arith}
use lib.Dec.{eqb}
use borrow.Author.Tests.{ne_eqb}
use Rattle.arithmetic.proofs.Sum.{sum_none, sum_suc, sum_le}
use Rattle.gdi.specs.declared.GdiState.{GdiState}
use Rattle.gdi.specs.declared.Slot.{Slot}
use Rattle.gdi.specs.declared.GdiObject.{GdiObject}
use Rattle.gdi.specs.declared.GdiObject.TheVariants.{Dc as DcOf, Bitmap as BitmapOf, Brush, Pen, Font}
use Rattle.gdi.specs.Record.{no_slot, size, bytes_of}
use Rattle.gdi.specs.Stock.{stock_bitmap}
use Rattle.gdi.specs.Lookup.{slot_at, handle_at, object_at}
use Rattle.sound.specs.Sound.{start_of, used}
use Rattle.sound.proofs.Sound.{Sound, table_long, handles_apart, room}
use Rattle.memory.proofs.Gap.{closed_below, closed_above}
use Rattle.place.specs.declared.Memory.TheVariants.{Store}
use Rattle.place.specs.declared.Place.{Place}
use Rattle.place.specs.declared.Place.TheVariants.{Nowhere, At}
use Rattle.place.specs.declared.SurfaceId.TheVariants.{Bitmap}
use Rattle.place.specs.Place.{slots_from, live, place_from, locate, where_is}
use Rattle.removal.specs.Removal.{without_at}

-- an object's bytes are among those in use, and these lie in the store
pub record RoomAt (b : GdiState) (i : ℕ) : Type 0 where
  pub among : start_of b i + bytes_of (object_at b i) ≤ used b
  pub stored : used b ≤ b.store_len

pub room_of : {b : GdiState} → Sound b → (i : ℕ) → i < b.count → RoomAt b i
room_of s i lt = record { among = room s i lt; stored = s.store }

-- the place of a bitmap after the n bytes from a on are removed, where the first e bytes are in use; and its place before
pub data Shift (a n e : ℕ) : Place → Place → Type 0 where
  gone : Shift a n e Nowhere Nowhere
  below : (p w h : ℕ) → p + size w h ≤ a → Shift a n e (At Store p w h) (At Store p w h)
  above : (p q w h : ℕ) → q ≡ p + n → a ≤ p → q + size w h ≤ e → Shift a n e (At Store p w h) (At Store q w h)

frame_below : (o : GdiObject) (p a n e : ℕ) → p + bytes_of o ≤ a → Shift a n e (place_from o p) (place_from o p)
frame_below (DcOf d) p a n e c = gone
frame_below (BitmapOf m) p a n e c = below p m.width m.height c
frame_below (Brush x) p a n e c = gone
frame_below (Pen x) p a n e c = gone
frame_below (Font x) p a n e c = gone

frame_above : (o : GdiObject) (p q a n e : ℕ) → q ≡ p + n → a ≤ p → q + bytes_of o ≤ e → Shift a n e (place_from o p) (place_from o q)
frame_above (DcOf d) p q a n e s i c = gone
frame_above (BitmapOf m) p q a n e s i c = above p q m.width m.height s i c
frame_above (Brush x) p q a n e s i c = gone
frame_above (Pen x) p q a n e s i c = gone
frame_above (Font x) p q a n e s i c = gone

-- a handle that no slot has is located nowhere
nowhere : (l : List Slot) (h k m p : ℕ) → ((j : ℕ) → k ≤ j → j < k + m → handle_at l j ≡ h → ⊥) → locate (slots_from l k m) p h ≡ Nowhere
unfolding locate slots_from
nowhere l h k zero p out = refl
nowhere l h k (suc m) p out = rw (ne_eqb _ _ (out k (omega arith) (omega arith))) (nowhere l h (suc k) m _ (λ j a c. out j (omega arith) (omega arith)))

module _ (b : GdiState) (s : Sound b) (i : ℕ) (lt : i < b.count) where
  pub count_after : (without_at b i).count ≡ b.count - 1
  unfolding without_at
  count_after = refl

  -- the slots
  pub slot_below : (j : ℕ) → j < i → slot_at (without_at b i) j ≡ slot_at b j
  unfolding without_at
  slot_below j c = closed_below _ b.objects i 1 b.count (omega arith) (table_long s) no_slot j c

  pub slot_above : (j : ℕ) → i ≤ j → j + 1 < b.count → slot_at (without_at b i) j ≡ slot_at b (suc j)
  unfolding without_at
  slot_above j c d = closed_above _ b.objects i 1 b.count (omega arith) (table_long s) no_slot j c d ∙ ap (slot_at b) (omega arith)

  -- the places: of the slots after the object, from the object on, and from before it on
  abbrev Moved : Place → Place → Type 0
  Moved = Shift (start_of b i) (bytes_of (object_at b i)) (used b)

  abbrev bytes : ℕ → ℕ
  bytes k = bytes_of (object_at b k)

  behind : (m c p q k : ℕ) → c + 1 + m ≡ b.count → i ≤ c → q ≡ p + bytes i → start_of b i ≤ p → q ≡ start_of b (suc c)
      → Moved (locate (slots_from (without_at b i).objects c m) p k) (locate (slots_from b.objects (suc c) m) q k)
  unfolding locate slots_from
  behind zero c p q k em le eq pl es = gone
  behind (suc m) c p q k em le eq pl es =
      rw (slot_above c le (omega arith))
      (by (eqb (handle_at b.objects (suc c)) k)
      (behind m (suc c) (p + bytes (suc c)) (q + bytes (suc c)) k (omega arith) (omega arith) (omega arith) (omega arith) (omega (arith, sum_suc (suc c) bytes))))
    where
      by : (t : Bool)
          → Moved (locate (slots_from (without_at b i).objects (suc c) m) (p + bytes (suc c)) k) (locate (slots_from b.objects (suc (suc c)) m) (q + bytes (suc c)) k)
          → Moved
          (cond t (place_from (object_at b (suc c)) p) (locate (slots_from (without_at b i).objects (suc c) m) (p + bytes (suc c)) k))
          (cond t (place_from (object_at b (suc c)) q) (locate (slots_from b.objects (suc (suc c)) m) (q + bytes (suc c)) k))
      by true rest = frame_above (object_at b (suc c)) p q _ _ _ eq pl (omega (arith, sum_le bytes (suc c) b.count (omega arith)))
      by false rest = rest

  onward : (m p k : ℕ) → i + suc m ≡ b.count → p ≡ start_of b i → eqb (handle_at b.objects i) k ≡ false
      → Moved (locate (slots_from (without_at b i).objects i m) p k) (locate (slots_from b.objects i (suc m)) p k)
  unfolding locate slots_from
  onward m p k em ep ne = rw ne (behind m i p (p + bytes i) k (omega arith) (omega arith) refl (omega arith) (omega (arith, sum_suc i bytes)))

  all : (m c p k : ℕ) → c + suc m ≡ b.count → c ≤ i → p ≡ start_of b c → eqb (handle_at b.objects i) k ≡ false
      → Moved (locate (slots_from (without_at b i).objects c m) p k) (locate (slots_from b.objects c (suc m)) p k)
  unfolding locate slots_from
  all zero c p k em le ep ne = let z : c ≡ i = omega arith in rw z (onward zero p k (omega arith) (ep ∙ ap (start_of b) z) ne)
  all (suc m) c p k em le ep ne = by (dec_lt c i) (λ d. all m (suc c) (p + bytes c) k (omega arith) (omega arith) (omega (arith, sum_suc c bytes)) ne)
    where
      by : Dec (c < i)
          → (c < i → Moved (locate (slots_from (without_at b i).objects (suc c) m) (p + bytes c) k) (locate (slots_from b.objects (suc c) (suc m)) (p + bytes c) k))
          → Moved (locate (slots_from (without_at b i).objects c (suc m)) p k) (locate (slots_from b.objects c (suc (suc m))) p k)
      by (no d) rest = let z : c ≡ i = omega arith in rw z (onward (suc m) p k (omega arith) (ep ∙ ap (start_of b) z) ne)
      by (yes d) rest = rw (slot_below c d) (here (eqb (handle_at b.objects c) k) (rest d))
        where
          here : (t : Bool)
              → Moved (locate (slots_from (without_at b i).objects (suc c) m) (p + bytes c) k) (locate (slots_from b.objects (suc c) (suc m)) (p + bytes c) k)
              → Moved
              (cond t (place_from (object_at b c) p) (locate (slots_from (without_at b i).objects (suc c) m) (p + bytes c) k))
              (cond t (place_from (object_at b c) p) (locate (slots_from b.objects (suc c) (suc m)) (p + bytes c) k))
          here true r = frame_below (object_at b c) p _ _ _ (omega (arith, sum_le bytes c i d))
          here false r = r

  -- every other bitmap keeps its place, or moves down by the bytes removed
  pub moved : (k : ℕ) → eqb (handle_at b.objects i) k ≡ false
      → Shift (start_of b i) (bytes_of (object_at b i)) (used b) (where_is (without_at b i) (Bitmap k)) (where_is b (Bitmap k))
  moved k ne = by (eqb k stock_bitmap)
    where
      start : ◌≡◌ {A = ℕ} 2 (start_of b 0)
      start = rw (sum_none bytes)

      created : Moved (locate (live (without_at b i)) 2 k) (locate (live b) 2 k)
      created =
          let e : suc (b.count - 1) ≡ b.count = omega arith in
          rw count_after (subst (λ (n : ℕ). Moved (locate (slots_from (without_at b i).objects 0 (b.count - 1)) 2 k) (locate (slots_from b.objects 0 n) 2 k)) e
          (all (b.count - 1) 0 2 k (omega arith) (omega arith) start ne))

      by : (t : Bool) → Moved (cond t (At Store 0 1 1) (locate (live (without_at b i)) 2 k)) (cond t (At Store 0 1 1) (locate (live b) 2 k))
      by true = below 0 1 1 (omega arith)
      by false = created

  -- no slot has the handle afterwards
  pub handle_gone : (j : ℕ) → j < b.count - 1 → handle_at (without_at b i).objects j ≡ handle_at b.objects i → ⊥
  handle_gone j c e = by (dec_lt j i)
    where
      by : Dec (j < i) → ⊥
      by (yes d) = handles_apart b.objects j i b.count s.apart d lt (ap (λ (t : Slot). t.handle) (sym (slot_below j d)) ∙ e)
      by (no d) =
          handles_apart b.objects i (suc j) b.count s.apart (omega arith) (omega arith)
          (sym (ap (λ (t : Slot). t.handle) (sym (slot_above j (omega arith) (omega arith))) ∙ e))

  pub nowhere_after : (p : ℕ) → locate (live (without_at b i)) p (handle_at b.objects i) ≡ Nowhere
  nowhere_after p = rw count_after (nowhere (without_at b i).objects (handle_at b.objects i) 0 (b.count - 1) p (λ j a c e. handle_gone j (omega arith) e))
