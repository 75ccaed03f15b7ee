-- Laws of a sum over all numbers below a bound: its last term can be split off, and equal terms have equal sums. Assumes nothing.
use mathlib.Core.Path.{◌≡◌, refl}
use Prim.Native.Nat.{ℕ, zero, suc, ◌+◌, ◌≤◌, ◌<◌}
use native.Mathlib.Decide.{dec_lt}
use native.Mathlib.Numerals.{add-one}
use native.Mathlib.Omega.{arith}
use Rattle.arithmetic.specs.Sum.{sum_below}

pub sum_none : (f : ℕ → ℕ) → sum_below 0 f ≡ 0
unfolding sum_below
sum_none f = refl

pub sum_suc : (k : ℕ) (f : ℕ → ℕ) → sum_below (suc k) f ≡ sum_below k f + f k
unfolding sum_below
sum_suc k f = refl

pub sum_more : (k : ℕ) (f : ℕ → ℕ) {x : ℕ} → x ≡ f k → sum_below k f + x ≡ sum_below (k + 1) f
sum_more k f e = rw (add-one k, sum_suc k f, e)

-- a sum up to i, with its next term, is at most the whole sum
pub sum_le : (f : ℕ → ℕ) (i n : ℕ) → i < n → sum_below i f + f i ≤ sum_below n f
sum_le f i zero lt = absurd (omega arith)
sum_le f i (suc n) lt = rw (sum_suc n f) (by (dec_lt i n) (λ l. sum_le f i n l))
  where
    by : Dec (i < n) → (i < n → sum_below i f + f i ≤ sum_below n f) → sum_below i f + f i ≤ sum_below n f + f n
    by (yes l) less = omega (arith, less l)
    by (no l) less = let e : n ≡ i = omega arith in rw e (omega arith)

pub sum_same : (n : ℕ) (f g : ℕ → ℕ) → ((i : ℕ) → i < n → f i ≡ g i) → sum_below n f ≡ sum_below n g
sum_same zero f g h = rw (sum_none f, sum_none g)
sum_same (suc n) f g h = rw (sum_suc n f, sum_suc n g, h n (omega arith), sum_same n f g (λ i lt. h i (omega arith)))
