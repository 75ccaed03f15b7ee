-- The first and the last number below a bound at which a test holds. Assumes nothing.
use mathlib.Core.Bool.{Bool, true, false, true≢false}
use mathlib.Core.Path.{◌≡◌, refl, sym, ◌∙◌}
use Prim.Native.Nat.{ℕ, zero, suc, ◌-◌, ◌≤◌, ◌<◌}
use native.Mathlib.Decide.{dec_lt}
use native.Mathlib.Nat.{le_of_suc-le-suc}
use native.Mathlib.Omega.{arith}
use Rattle.hull.specs.Hull.{first_where, end}

-- a number below n at which f holds
abbrev pub At : (n : ℕ) → (f : ℕ → Bool) → (i : ℕ) → Type 0
At n f i = (i < n) × (f i ≡ true)

-- the first one is one of them, and none comes before it
pub first_at : (n : ℕ) (f : ℕ → Bool) (i : ℕ) → At n f i → (first_where n f ≤ i) × At n f (first_where n f)
first_at zero f i a = absurd (omega arith)
first_at (suc n) f zero a = rw a.1 (omega arith, (omega arith, a.1))
first_at (suc n) f (suc i) a = by (f 0) refl (first_at n (λ j. f (suc j)) i (le_of_suc-le-suc a.0, a.1))
  where
    by : (t : Bool) → f 0 ≡ t → (first_where n (λ j. f (suc j)) ≤ i) × At n (λ j. f (suc j)) (first_where n (λ j. f (suc j))) → (first_where (suc n) f ≤ suc i) × At (suc n) f (first_where (suc n) f)
    by true e p = rw e (omega arith, (omega arith, e))
    by false e p = rw e (omega arith, (omega arith, p.1.1))

-- the last one is one of them, and none comes behind it
pub last_at : (n : ℕ) (f : ℕ → Bool) (i : ℕ) → At n f i → (i < end n f) × At n f (end n f - 1)
last_at zero f i a = absurd (omega arith)
last_at (suc n) f i a = by (f n) refl (dec_lt i n) (λ lt. last_at n f i (lt, a.1))
  where
    by : (t : Bool) → f n ≡ t → Dec (i < n) → (i < n → (i < end n f) × At n f (end n f - 1)) → (i < end (suc n) f) × At (suc n) f (end (suc n) f - 1)
    by true e d p = let is : suc n - 1 ≡ n = omega arith in rw (e, is) (a.0, (omega arith, e))
    by false e (yes lt) p = let l = p lt in rw e (l.0, (omega (arith, l.1.0), l.1.1))
    by false e (no ge) p = let is : i ≡ n = omega arith in absurd (true≢false (sym a.1 ∙ rw is e))
