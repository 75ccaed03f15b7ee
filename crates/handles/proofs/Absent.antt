-- A handle is absent exactly where the scan finds nothing. Assumes nothing.
use Rattle.std.proofs.Common.{◌≡◌, ℕ, zero, suc, ◌+◌, ◌<◌, ◌≤◌, Bool, true, false, cond, not, eqb, List, sym, refl, ap, arith, eq-eqb, ◌∙◌, Option, Some, None, is_none}
use native.Mathlib.Decide.{dec_lt}
use Rattle.arithmetic.proofs.Test.{all_fails, all_of}
use Rattle.gdi.specs.declared.Slot.{Slot}
use Rattle.gdi.specs.Lookup.{handle_at, scan}
use Rattle.gdi.proofs.Scan.{scan_below, scan_handle}
use Rattle.sound.specs.Sound.{absent}

found_live : (l : List Slot) (h n : ℕ) {i : ℕ} → scan l h 0 n ≡ Some i → false ≡ absent l n h
found_live l h n {i} e =
    sym (all_fails i n (λ j. not (eqb (handle_at l j) h)) (omega (arith, scan_below l h 0 n e)) (ap not (eq-eqb _ _ (scan_handle l h 0 n e))))

-- none of the m slots from k on has the handle
none : (l : List Slot) (h k m : ℕ) → scan l h k m ≡ None → (j : ℕ) → k ≤ j → j < k + m → eqb (handle_at l j) h ≡ false
unfolding scan
none l h k zero e j a c = absurd (omega arith)
none l h k (suc m) e j a c = by (eqb (handle_at l k) h) refl e (λ f. none l h (suc k) m f j)
  where
    by : (t : Bool) → eqb (handle_at l k) h ≡ t → cond t (Some k) (scan l h (suc k) m) ≡ None
        → (scan l h (suc k) m ≡ None → suc k ≤ j → j < suc k + m → eqb (handle_at l j) h ≡ false) → eqb (handle_at l j) h ≡ false
    by true q f rest = let z : ◌≡◌ {A = ℕ} 0 1 = cc in absurd (omega arith)
    by false q f rest = at (dec_lt k j)
      where
        at : Dec (k < j) → eqb (handle_at l j) h ≡ false
        at (yes lt) = rest f lt (omega arith)
        at (no ge) = let z : j ≡ k = omega arith in rw z q

not_found_absent : (l : List Slot) (h n : ℕ) → scan l h 0 n ≡ None → true ≡ absent l n h
not_found_absent l h n e = sym (all_of n (λ j. not (eqb (handle_at l j) h)) (λ j lt. ap not (none l h 0 n e j (omega arith) (omega arith))))

-- the scan of all slots finds nothing exactly where the handle is absent
pub nothing_found : (l : List Slot) (h n : ℕ) → is_none (scan l h 0 n) ≡ absent l n h
nothing_found l h n = by (scan l h 0 n) refl
  where
    by : (q : Option ℕ) → scan l h 0 n ≡ q → is_none (scan l h 0 n) ≡ absent l n h
    by (Some i) e = ap is_none e ∙ found_live l h n e
    by None e = ap is_none e ∙ not_found_absent l h n e
