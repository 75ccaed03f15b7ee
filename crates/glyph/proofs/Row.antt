-- Laws of one row of a glyph on a run of words. Assumes nothing.
use mathlib.Core.Bool.{Bool, true, false, ◌||◌, cond}
use mathlib.Core.List.{List}
use mathlib.Core.Logic.{◌≢◌}
use mathlib.Core.Path.{◌≡◌, refl, ◌∙◌, ap}
use Prim.Native.Nat.{ℕ, ◌+◌, ◌*◌, ◌-◌, ◌/◌, ◌%◌, ◌^◌, ◌<◌}
use native.Mathlib.Decide.{ℕ_discrete}
use native.Mathlib.Nat.{zero-div}
use native.Mathlib.Omega.{arith}
use lib.Dec.{ltb}
use lib.ListN.{length, set, get_or}
use borrow.Author.Tests.{ne_eqb}
use Rattle.arithmetic.specs.Interval.{between}
use Rattle.arithmetic.proofs.Interval.{between_yes, between_no, between_cong}
use Rattle.arithmetic.proofs.Test.{not_left, not_right}
use Rattle.words.specs.Words.{painted, word}
use Rattle.words.proofs.Painted.{painted_none, painted_again, painted_set, word_again}
use Rattle.font.specs.Font.{ink_at}
use Rattle.glyph.specs.Inner.{row_ink}

-- the code's test of a bit
pub ink_no : (row k : ℕ) → (row / 2 ^ (7 - k) % 2 ≡ 1 → ⊥) → ink_at row k ≡ false
unfolding ink_at
ink_no row k n = not_right (ltb k 8) (ne_eqb (row / 2 ^ (7 - k) % 2) 1 n)

-- a row without ink
pub blank_row : (row skip d n v : ℕ) (m : List ℕ) → row ≡ 0 → m ≡ painted (row_ink row skip d n) (λ _. v) m
blank_row row skip d n v m e =
    painted_none (row_ink row skip d n) (λ _. v) m (λ j lt. not_right (between d (d + n) j) (rw e (ink_no 0 (skip + (j - d)) (λ q. none (skip + (j - d)) q))))
  where
    none : (k : ℕ) → 0 / 2 ^ (7 - k) % 2 ≡ 1 → ⊥
    none k q = let z : 0 / 2 ^ (7 - k) ≡ 0 = zero-div (2 ^ (7 - k)) in omega arith

-- one word, after the test
module _ (row k i v : ℕ) (m : List ℕ) where
  apart : (j : ℕ) → j ≢ i → row_ink row k i 1 j ≡ false
  apart j n = not_left (ink_at row (k + (j - i))) (between_no i (i + 1) j (λ p q. n (omega arith)))

  at_word : k + (i - i) ≡ k
  at_word = omega arith

  word_inked : k < 8 → 2 * i + 1 < length m → ink_at row k ≡ true → set (set m (2 * i) (v % 256)) (2 * i + 1) (v / 256) ≡ painted (row_ink row k i 1) (λ _. v) m
  word_inked h room e =
      ap (λ (l : List ℕ). set (set l (2 * i) (v % 256)) (2 * i + 1) (v / 256)) (painted_none (λ _. false) (λ _. v) m (λ j lt. refl))
      ∙ painted_set (λ _. false) (row_ink row k i 1) (λ _. v) m i room (rw (between_yes i (i + 1) i (omega arith) (omega arith), at_word) e) apart

  word_blank : ink_at row k ≡ false → m ≡ painted (row_ink row k i 1) (λ _. v) m
  word_blank n = painted_none (row_ink row k i 1) (λ _. v) m (λ j lt. by j (ℕ_discrete j i))
    where
      by : (j : ℕ) → Dec (j ≡ i) → row_ink row k i 1 j ≡ false
      by j (yes e) = not_right (between i (i + 1) j) (rw (e, at_word) n)
      by j (no d) = apart j d

  -- the new word, or the old one stored again
  pub word_chosen : k < 8 → 2 * i + 1 < length m → ((j : ℕ) → get_or m j 0 < 256) → {x : ℕ} → x ≡ cond (ink_at row k) v (word m i) → set (set m (2 * i) (x % 256)) (2 * i + 1) (x / 256) ≡ painted (row_ink row k i 1) (λ _. v) m
  word_chosen h room bytes {x} e = by (ink_at row k) refl
    where
      stored : (y : ℕ) → x ≡ y → set (set m (2 * i) (x % 256)) (2 * i + 1) (x / 256) ≡ set (set m (2 * i) (y % 256)) (2 * i + 1) (y / 256)
      stored y f = ap (λ (z : ℕ). set (set m (2 * i) (z % 256)) (2 * i + 1) (z / 256)) f

      by : (t : Bool) → ink_at row k ≡ t → set (set m (2 * i) (x % 256)) (2 * i + 1) (x / 256) ≡ painted (row_ink row k i 1) (λ _. v) m
      by true f = stored v (e ∙ rw f) ∙ word_inked h room f
      by false f = stored (word m i) (e ∙ rw f) ∙ word_again m i room bytes ∙ word_blank f

-- the empty run, and a run with one more word
pub row_none : (row skip d v : ℕ) (m : List ℕ) → m ≡ painted (row_ink row skip d 0) (λ _. v) m
row_none row skip d v m =
    painted_none (row_ink row skip d 0) (λ _. v) m (λ j lt. not_left (ink_at row (skip + (j - d))) (between_no d (d + 0) j (λ p q. omega arith)))

module _ (row skip d k : ℕ) where
  or_false : (t : Bool) → t ≡ (t || false)
  or_false true = refl
  or_false false = refl

  row_more : (j : ℕ) → row_ink row skip d (k + 1) j ≡ (row_ink row (skip + k) (d + k) 1 j || row_ink row skip d k j)
  row_more j = by (ℕ_discrete j (d + k))
    where
      by : Dec (j ≡ d + k) → row_ink row skip d (k + 1) j ≡ (row_ink row (skip + k) (d + k) 1 j || row_ink row skip d k j)
      by (yes e) =
          let column : skip + k + (j - (d + k)) ≡ skip + (j - d) = omega arith in
          rw (
            between_yes d (d + (k + 1)) j (omega arith) (omega arith),
            between_yes (d + k) (d + k + 1) j (omega arith) (omega arith),
            between_no d (d + k) j (λ p q. omega arith),
            column,
          )
          (or_false (ink_at row (skip + (j - d))))
      by (no n) = rw (between_no (d + k) (d + k + 1) j (λ p q. n (omega arith)), between_cong d (d + (k + 1)) j d (d + k) j (omega arith) (omega arith))

  pub row_next : (v : ℕ) (m₀ : List ℕ) {m next : List ℕ} → m ≡ painted (row_ink row skip d k) (λ _. v) m₀ → next ≡ painted (row_ink row (skip + k) (d + k) 1) (λ _. v) m → next ≡ painted (row_ink row skip d (k + 1)) (λ _. v) m₀
  row_next v m₀ e f =
      f
      ∙ ap (painted (row_ink row (skip + k) (d + k) 1) (λ _. v)) e
      ∙ painted_again (row_ink row skip d k) (row_ink row (skip + k) (d + k) 1) (row_ink row skip d (k + 1)) (λ _. v) (λ _. v) m₀ (λ j lt. row_more j) (λ j lt t. refl)
