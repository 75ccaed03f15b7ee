-- Laws of handles that differ. Assumes nothing.
use mathlib.Core.Bool.{true, not}
use mathlib.Core.List.{List}
use mathlib.Core.Path.{◌≡◌, refl, ap}
use Prim.Native.Nat.{ℕ, ◌+◌, ◌<◌, ◌≤◌}
use native.Mathlib.Decide.{dec_lt}
use native.Mathlib.Omega.{arith}
use lib.Dec.{eqb}
use borrow.Author.Tests.{ne_eqb}
use Rattle.arithmetic.proofs.Test.{all_more, all_of}
use Rattle.gdi.specs.declared.Slot.{Slot}
use Rattle.gdi.specs.Lookup.{handle_at}
use Rattle.sound.specs.Sound.{absent, distinct}

module _ (l : List Slot) where
  pub distinct_more : (k : ℕ) → distinct l k ≡ true → absent l k (handle_at l k) ≡ true → distinct l (k + 1) ≡ true
  distinct_more k = all_more k (λ i. absent l i (handle_at l i))

  -- the first n handles differ and none is above h, as with handles that ascend to h
  pub record AscendTo (n h : ℕ) : Type 0 where
    pub apart : distinct l n ≡ true
    pub below : (j : ℕ) → j < n → handle_at l j ≤ h

  pub none_ascend : (h : ℕ) → AscendTo 0 h
  none_ascend h = record { apart = refl; below = λ j lt. absurd (omega (arith, lt)) }

  pub ascend_more : (n h h' : ℕ) → AscendTo n h → handle_at l n ≡ h' → h < h' → AscendTo (n + 1) h'
  ascend_more n h h' a e lt =
      record {
        apart = distinct_more n a.apart (all_of n (λ j. not (eqb (handle_at l j) (handle_at l n))) (λ j b. ap not (ne_eqb (handle_at l j) (handle_at l n) (λ f. omega (arith, a.below j b, e, lt, f)))));
        below = λ j b. by j b (dec_lt j n);
      }
    where
      by : (j : ℕ) → j < n + 1 → Dec (j < n) → handle_at l j ≤ h'
      by j b (yes p) = omega (arith, a.below j p)
      by j b (no p) = let f : j ≡ n = omega arith in rw f (omega (arith, e))
