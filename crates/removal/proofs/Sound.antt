-- A sound record without one of its objects is sound. Assumes nothing.
use mathlib.Core.Bool.{true, not}
use mathlib.Core.Path.{◌≡◌, refl, sym, ◌∙◌, ap}
use Prim.Native.Nat.{ℕ, zero, suc, ◌+◌, ◌-◌, ◌≤◌, ◌<◌}
use native.Mathlib.Decide.{dec_lt}
use native.Mathlib.Omega.{arith}
use lib.Dec.{eqb}
use borrow.Author.Tests.{ne_eqb}
use Rattle.arithmetic.specs.Sum.{sum_below}
use Rattle.arithmetic.proofs.Test.{each, all_of}
use Rattle.arithmetic.proofs.Sum.{sum_suc, sum_same}
use Rattle.gdi.specs.declared.GdiState.{GdiState}
use Rattle.gdi.specs.declared.Slot.{Slot}
use Rattle.gdi.specs.Record.{bytes_of}
use Rattle.gdi.specs.Lookup.{slot_at, handle_at}
use Rattle.sound.specs.Sound.{slot_fits, is_sound}
use Rattle.sound.proofs.Sound.{Sound, parts, whole, handles_apart}
use Rattle.removal.specs.Removal.{without_at}
use Rattle.removal.proofs.Shifts.{slot_below, slot_above}

abbrev bytes_in : Slot → ℕ
bytes_in t = bytes_of t.object

module _ (b : GdiState) (s : Sound b) (i : ℕ) (lt : i < b.count) where
  -- slot j afterwards is slot k before: k is j before the object, and j + 1 from the object on
  data From (j : ℕ) : Type 0 where
    from : (k : ℕ) → k < b.count → (j < i → k ≡ j) → (i ≤ j → k ≡ suc j) → slot_at (without_at b i) j ≡ slot_at b k → From j

  origin : (j : ℕ) → j < b.count - 1 → From j
  origin j c = by (dec_lt j i)
    where
      by : Dec (j < i) → From j
      by (yes d) = from j (omega arith) (λ x. refl) (λ x. absurd (omega arith)) (slot_below b s i lt j d)
      by (no d) = from (suc j) (omega arith) (λ x. absurd (omega arith)) (λ x. refl) (slot_above b s i lt j (omega arith) (omega arith))

  fits : (j : ℕ) → From j → slot_fits (slot_at (without_at b i) j) ≡ true
  fits j (from k c lo hi e) = ap slot_fits e ∙ each b.count (λ n. slot_fits (slot_at b n)) s.slots k c

  differ : (j k : ℕ) → j < k → From j → From k → not (eqb (handle_at (without_at b i).objects j) (handle_at (without_at b i).objects k)) ≡ true
  differ j k c (from x xc xlo xhi xe) (from y yc ylo yhi ye) = rw (ne_eqb _ _ same)
    where
      order : Dec (j < i) → Dec (k < i) → x < y
      order (yes p) (yes q) = let u : x ≡ j = xlo p in let v : y ≡ k = ylo q in omega arith
      order (yes p) (no q) = let u : x ≡ j = xlo p in let v : y ≡ suc k = yhi (omega arith) in omega arith
      order (no p) (yes q) = absurd (omega arith)
      order (no p) (no q) = let u : x ≡ suc j = xhi (omega arith) in let v : y ≡ suc k = yhi (omega arith) in omega arith

      same : handle_at (without_at b i).objects j ≡ handle_at (without_at b i).objects k → ⊥
      same e = handles_apart b.objects x y b.count s.apart (order (dec_lt j i) (dec_lt k i)) yc
          (ap (λ (t : Slot). t.handle) (sym xe) ∙ e ∙ ap (λ (t : Slot). t.handle) ye)

  -- the sum with the bytes of the removed object is the sum before
  abbrev before : ℕ → ℕ
  before k = bytes_in (slot_at b k)

  abbrev after : ℕ → ℕ
  after k = bytes_in (slot_at (without_at b i) k)

  sum_less : (d m : ℕ) → m ≡ d + i → m < b.count → sum_below m after + before i ≡ sum_below (suc m) before
  sum_less zero m e c =
      let z : m ≡ i = omega arith in
      rw z (rw (sum_suc i before, sum_same i after before (λ k d. ap bytes_in (slot_below b s i lt k d))))
  sum_less (suc d) zero e c = absurd (omega arith)
  sum_less (suc d) (suc m) e c =
      let f : after m ≡ before (suc m) = ap bytes_in (slot_above b s i lt m (omega arith) (omega arith)) in
      omega (arith, sum_suc m after, sum_suc (suc m) before, sum_less d m (omega arith) (omega arith))

  without_sound : Sound (without_at b i)
  unfolding without_at
  without_sound =
      record {
        panel_len = s.panel_len;
        store_len = s.store_len;
        count = omega (arith, s.count);
        width = s.width;
        height = s.height;
        panel = s.panel;
        screen = s.screen;
        slots = all_of (b.count - 1) _ (λ j c. fits j (origin j c));
        apart = all_of (b.count - 1) _ (λ k c. all_of k _ (λ j d. differ j k d (origin j (omega arith)) (origin k c)));
        store =
            let z : suc (b.count - 1) ≡ b.count = omega arith in
            omega (arith, s.store, rw z at (sum_less (b.count - 1 - i) (b.count - 1) (omega arith) (omega arith)));
      }

pub removed_sound : (b : GdiState) (i : ℕ) → is_sound b ≡ true → i < b.count → is_sound (without_at b i) ≡ true
removed_sound b i e lt = whole (without_at b i) (without_sound b (parts b e) i lt)
