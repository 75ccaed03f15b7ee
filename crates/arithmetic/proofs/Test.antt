-- Laws of tests: a test over all numbers below a bound holds at each of them. Assumes nothing.
use mathlib.Core.Bool.{Bool, true, false, ◌&&◌, ◌||◌, true≢false}
use mathlib.Core.Path.{◌≡◌, refl, sym, ◌∙◌, ap}
use Prim.Native.Nat.{ℕ, zero, suc, ◌+◌, ◌≤◌, ◌<◌}
use native.Mathlib.Decide.{dec_lt}
use native.Mathlib.Nat.{le_of_suc-le-suc, not-suc-le-zero}
use native.Mathlib.Numerals.{add-one}
use native.Mathlib.Omega.{arith}
use lib.Dec.{leb}
use borrow.Author.Tests.{leb-true, le-leb}
use Rattle.arithmetic.specs.Test.{all_below, any_below}

pub both : (a b : Bool) → (a && b) ≡ true → (a ≡ true) × (b ≡ true)
both true b e = (refl, e)
both false b e = absurd (true≢false (sym e))

pub together : {a b : Bool} → a ≡ true → b ≡ true → (a && b) ≡ true
together e f = rw (e, f)

pub and-true : (b : Bool) → (b && true) ≡ b
and-true true = refl
and-true false = refl

-- a conjunction fails with either of its parts
pub and-false : (b : Bool) → (b && false) ≡ false
and-false true = refl
and-false false = refl

pub not_left : {a : Bool} (b : Bool) → a ≡ false → (a && b) ≡ false
not_left b e = rw e

pub not_right : (a : Bool) {b : Bool} → b ≡ false → (a && b) ≡ false
not_right a e = rw e (and-false a)

pub neither : (a b : Bool) → (a || b) ≡ false → (a ≡ false) × (b ≡ false)
neither true b e = absurd (true≢false e)
neither false b e = (refl, e)

-- a rule at every number below k, by one test that antt computes
pub each : (k : ℕ) (f : ℕ → Bool) → all_below k f ≡ true → (n : ℕ) → n < k → f n ≡ true
each zero f t n h = absurd (not-suc-le-zero h)
each (suc k) f t zero h = (both (f 0) (all_below k (λ n. f (suc n))) t).0
each (suc k) f t (suc n) h = each k (λ m. f (suc m)) (both (f 0) (all_below k (λ m. f (suc m))) t).1 n (le_of_suc-le-suc h)

-- if the test finds none below k, it fails at each
pub none : (k : ℕ) (f : ℕ → Bool) → any_below k f ≡ false → (n : ℕ) → n < k → f n ≡ false
none zero f t n h = absurd (not-suc-le-zero h)
none (suc k) f t zero h = (neither (f 0) (any_below k (λ m. f (suc m))) t).0
none (suc k) f t (suc n) h = none k (λ m. f (suc m)) (neither (f 0) (any_below k (λ m. f (suc m))) t).1 n (le_of_suc-le-suc h)

-- a number below k passes
pub any_at : (k : ℕ) (f : ℕ → Bool) (n : ℕ) → n < k → f n ≡ true → any_below k f ≡ true
any_at k f n lt e = by (any_below k f) refl
  where
    by : (t : Bool) → any_below k f ≡ t → t ≡ true
    by true g = refl
    by false g = absurd (true≢false (sym e ∙ none k f g n lt))

-- a number that passes
abbrev pub Some : (k : ℕ) (f : ℕ → Bool) → Type 0
Some k f = (n : ℕ) × ((n < k) × (f n ≡ true))

pub any_some : (k : ℕ) (f : ℕ → Bool) → any_below k f ≡ true → Some k f
any_some zero f e = absurd (true≢false (sym e))
any_some (suc k) f e = by (f 0) refl e (any_some k (λ m. f (suc m)))
  where
    by : (t : Bool) → f 0 ≡ t → (t || any_below k (λ m. f (suc m))) ≡ true → (any_below k (λ m. f (suc m)) ≡ true → Some k (λ m. f (suc m))) → Some (suc k) f
    by true g h less = (0, (omega arith, g))
    by false g h less = let r = less h in (suc r.0, (omega (arith, r.1.0), r.1.1))

-- the last number of a test can be split off
or_swap : (a b c : Bool) → (a || (b || c)) ≡ (b || (a || c))
or_swap true true c = refl
or_swap true false c = refl
or_swap false b c = refl

any_suc : (k : ℕ) (f : ℕ → Bool) → any_below (suc k) f ≡ (f k || any_below k f)
any_suc zero f = refl
any_suc (suc k) f = ap (λ (t : Bool). f 0 || t) (any_suc k (λ n. f (suc n))) ∙ or_swap (f 0) (f (suc k)) (any_below k (λ n. f (suc n)))

pub any_more : (k : ℕ) (f : ℕ → Bool) → any_below (k + 1) f ≡ (f k || any_below k f)
any_more k f = rw (add-one k) (any_suc k f)

-- none below k
pub any_none : (k : ℕ) (f : ℕ → Bool) → ((j : ℕ) → j < k → f j ≡ false) → any_below k f ≡ false
any_none zero f h = refl
any_none (suc k) f h = rw (any_suc k f, h k (omega arith)) (any_none k f (λ j lt. h j (omega arith)))

-- none from k to n
pub any_end : (k n : ℕ) (f : ℕ → Bool) → k ≤ n → ((j : ℕ) → k ≤ j → j < n → f j ≡ false) → any_below k f ≡ any_below n f
any_end k zero f le h = let e : k ≡ 0 = omega arith in rw e
any_end k (suc n) f le h = by (dec_lt n k) (λ few. any_end k n f few (λ j p q. h j p (omega arith)))
  where
    by : Dec (n < k) → (k ≤ n → any_below k f ≡ any_below n f) → any_below k f ≡ any_below (suc n) f
    by (yes l) less = let e : k ≡ suc n = omega arith in rw e
    by (no l) less = rw (any_suc n f, h n (omega arith) (omega arith)) (less (omega arith))

and_swap : (a b c : Bool) → (a && (b && c)) ≡ (b && (a && c))
and_swap true b c = refl
and_swap false true c = refl
and_swap false false c = refl

pub all_suc : (k : ℕ) (f : ℕ → Bool) → all_below (suc k) f ≡ (f k && all_below k f)
all_suc zero f = refl
all_suc (suc k) f = ap (λ (t : Bool). f 0 && t) (all_suc k (λ n. f (suc n))) ∙ and_swap (f 0) (f (suc k)) (all_below k (λ n. f (suc n)))

pub all_more : (k : ℕ) (f : ℕ → Bool) → all_below k f ≡ true → f k ≡ true → all_below (k + 1) f ≡ true
all_more k f a e = rw (add-one k, all_suc k f) (together e a)

-- one that fails, below n
pub all_fails : (k n : ℕ) (f : ℕ → Bool) → k < n → f k ≡ false → all_below n f ≡ false
all_fails k zero f lt e = absurd (not-suc-le-zero lt)
all_fails zero (suc n) f lt e = not_left (all_below n (λ m. f (suc m))) e
all_fails (suc k) (suc n) f lt e = not_right (f 0) (all_fails k n (λ m. f (suc m)) (le_of_suc-le-suc lt) e)

-- each below n
pub all_of : (n : ℕ) (f : ℕ → Bool) → ((k : ℕ) → k < n → f k ≡ true) → all_below n f ≡ true
all_of zero f h = refl
all_of (suc n) f h = rw (all_suc n f, h n (omega arith)) (all_of n f (λ k lt. h k (omega arith)))

pub all_same : (n : ℕ) (f g : ℕ → Bool) → ((i : ℕ) → i < n → f i ≡ g i) → all_below n f ≡ all_below n g
all_same zero f g h = refl
all_same (suc n) f g h = rw (all_suc n f, all_suc n g, h n (omega arith), all_same n f g (λ i lt. h i (omega arith)))

-- two tests that imply each other are equal
pub same_test : (t u : Bool) → (t ≡ true → u ≡ true) → (u ≡ true → t ≡ true) → t ≡ u
same_test true u f g = sym (f refl)
same_test false true f g = g refl
same_test false false f g = refl

-- two tests of order that imply each other are equal
pub same_order : (a b c d : ℕ) → (a ≤ b → c ≤ d) → (c ≤ d → a ≤ b) → leb a b ≡ leb c d
same_order a b c d f g = same_test (leb a b) (leb c d) (λ e. le-leb c d (f (leb-true a b e))) (λ e. le-leb a b (g (leb-true c d e)))

-- two tests agree
abbrev pub agree : Bool → Bool → Bool
agree true b = b
agree false true = false
agree false false = true

agreed : (a b : Bool) → agree a b ≡ true → a ≡ b
agreed true b e = sym e
agreed false true e = absurd (true≢false (sym e))
agreed false false e = refl

-- two tests of a number below k are equal, by one test that antt computes
pub agreed_below : (k : ℕ) (f g : ℕ → Bool) → all_below k (λ n. agree (f n) (g n)) ≡ true → (n : ℕ) → n < k → f n ≡ g n
agreed_below k f g t n h = agreed (f n) (g n) (each k (λ m. agree (f m) (g m)) t n h)
