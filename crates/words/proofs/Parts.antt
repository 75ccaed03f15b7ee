-- Laws of a part of a memory that is lent. Assumes nothing.
use mathlib.Core.Bool.{Bool, ◌&&◌, cond}
use mathlib.Core.List.{List, ◌++◌}
use mathlib.Core.Path.{◌≡◌, sym, ◌∙◌, ap}
use Prim.Native.Nat.{ℕ, ◌+◌, ◌-◌, ◌*◌, ◌/◌, ◌%◌, ◌≤◌, ◌<◌}
use native.Mathlib.Decide.{dec_lt}
use native.Mathlib.Omega.{arith}
use lib.ListN.{length, take, drop, get_or, length-take, length-drop, length-append, get_or-append}
use lib.Seq.{take_at, drop_at, get_or-take, get_or-drop, get_or-append-add, ext_get_or, length-take-le}
use Rattle.arithmetic.specs.Interval.{between}
use Rattle.arithmetic.proofs.Interval.{between_yes, between_no}
use Rattle.words.specs.Parts.{part, with_part}
use Rattle.words.specs.Words.{painted, word, byte_of}
use Rattle.words.proofs.Painted.{length_painted, painted_at, is_painted}

pub length_part : (m : List ℕ) (p n : ℕ) → p + n ≤ length m → length (part m p n) ≡ n
length_part m p n h = simp (length-take, length-drop) (omega arith)

-- a word of a part
pub word_part : (m : List ℕ) (a n j : ℕ) → j < n → word (part m (2 * a) (2 * n)) j ≡ word m (a + j)
unfolding word
word_part m a n j lt =
    let low : 2 * a + 2 * j ≡ 2 * (a + j) = omega arith in
    let high : 2 * a + (2 * j + 1) ≡ 2 * (a + j) + 1 = omega arith in
    rw (
      get_or-take (2 * n) (drop (2 * a) m) (2 * j) 0 (omega arith),
      get_or-take (2 * n) (drop (2 * a) m) (2 * j + 1) 0 (omega arith),
      get_or-drop (2 * a) m (2 * j) 0,
      get_or-drop (2 * a) m (2 * j + 1) 0,
      low,
      high,
    )

-- the bytes of the memory before the part, in it and after it
module _ (m xs : List ℕ) (p n : ℕ) (len : length xs ≡ n) (fits : p + n ≤ length m) where
  pub length_with : length (with_part m p n xs) ≡ length m
  length_with = simp (length-append, length-take, length-drop) (omega arith)

  front : length (take p m) ≡ p
  front = length-take-le p m (omega arith)

  pub with_before : (k : ℕ) → k < p → get_or (with_part m p n xs) k 0 ≡ get_or m k 0
  with_before k lt = get_or-append (take p m) (xs ++ drop (p + n) m) 0 k (omega (arith, front)) ∙ get_or-take p m k 0 lt

  pub with_within : (k : ℕ) → p ≤ k → k < p + n → get_or (with_part m p n xs) k 0 ≡ get_or xs (k - p) 0
  with_within k le lt =
      let e : k ≡ length (take p m) + (k - p) = omega (arith, front) in
      ap (λ (j : ℕ). get_or (with_part m p n xs) j 0) e
      ∙ get_or-append-add (take p m) (xs ++ drop (p + n) m) (k - p) 0
      ∙ get_or-append xs (drop (p + n) m) 0 (k - p) (omega arith)

  pub with_behind : (k : ℕ) → p + n ≤ k → get_or (with_part m p n xs) k 0 ≡ get_or m k 0
  with_behind k le =
      let e1 : k ≡ length (take p m) + (k - p) = omega (arith, front) in
      let e2 : k - p ≡ length xs + (k - p - n) = omega arith in
      let e3 : p + n + (k - p - n) ≡ k = omega arith in
      ap (λ (j : ℕ). get_or (with_part m p n xs) j 0) e1
      ∙ get_or-append-add (take p m) (xs ++ drop (p + n) m) (k - p) 0
      ∙ ap (λ (j : ℕ). get_or (xs ++ drop (p + n) m) j 0) e2
      ∙ get_or-append-add xs (drop (p + n) m) (k - p - n) 0
      ∙ get_or-drop (p + n) m (k - p - n) 0
      ∙ ap (λ (j : ℕ). get_or m j 0) e3

  -- the part is what was put there, and a part apart from it is kept
  pub part_same : part (with_part m p n xs) p n ≡ xs
  part_same = rw (drop_at (take p m) (xs ++ drop (p + n) m) p front) (take_at xs (drop (p + n) m) n len)

  pub part_other : (q k : ℕ) → ((j : ℕ) → q ≤ j → j < q + k → p ≤ j → j < p + n → ⊥) → part (with_part m p n xs) q k ≡ part m q k
  part_other q k apart =
      ext_get_or 0 (part (with_part m p n xs) q k) (part m q k) (simp (length-take, length-drop, length_with))
      (λ i lt. let b : i < k = omega (arith, length-take k (drop q (with_part m p n xs))) in
      get_or-take k (drop q (with_part m p n xs)) i 0 b ∙ get_or-drop q (with_part m p n xs) i 0
      ∙ by (q + i) (apart (q + i) (omega arith) (omega arith)) (dec_lt (q + i) p) (dec_lt (q + i) (p + n))
      ∙ sym (get_or-take k (drop q m) i 0 b ∙ get_or-drop q m i 0))
    where
      by : (j : ℕ) → (p ≤ j → j < p + n → ⊥) → Dec (j < p) → Dec (j < p + n) → get_or (with_part m p n xs) j 0 ≡ get_or m j 0
      by j out (yes a) b = with_before j a
      by j out (no a) (yes b) = absurd (out (omega arith) b)
      by j out (no a) (no b) = with_behind j (omega arith)

-- painting a part is painting the whole memory, at words moved by a
pub part_painted : (P : ℕ → Bool) (v : ℕ → ℕ) (m : List ℕ) (a n : ℕ) → 2 * a + 2 * n ≤ length m → with_part m (2 * a) (2 * n) (painted P v (part m (2 * a) (2 * n))) ≡ painted (λ i. between a (a + n) i && P (i - a)) (λ i. v (i - a)) m
part_painted P v m a n fits = is_painted (λ i. between a (a + n) i && P (i - a)) (λ i. v (i - a)) m (with_part m (2 * a) (2 * n) xs) (length_with m xs (2 * a) (2 * n) len fits) (λ k lt. by k lt (dec_lt k (2 * a)) (dec_lt k (2 * a + 2 * n)))
  where
    xs : List ℕ
    xs = painted P v (part m (2 * a) (2 * n))

    len : length xs ≡ 2 * n
    len = length_painted P v (part m (2 * a) (2 * n)) ∙ length_part m (2 * a) (2 * n) fits

    by : (k : ℕ) → k < length m → Dec (k < 2 * a) → Dec (k < 2 * a + 2 * n) → get_or (with_part m (2 * a) (2 * n) xs) k 0 ≡ cond (between a (a + n) (k / 2) && P (k / 2 - a)) (byte_of (v (k / 2 - a)) (k % 2)) (get_or m k 0)
    by k lt (yes b) c = with_before m xs (2 * a) (2 * n) len fits k b ∙ rw (between_no a (a + n) (k / 2) (λ p q. omega arith))
    by k lt (no b) (no c) = with_behind m xs (2 * a) (2 * n) len fits k (omega arith) ∙ rw (between_no a (a + n) (k / 2) (λ p q. omega arith))
    by k lt (no b) (yes c) =
        let e : (k - 2 * a) / 2 ≡ k / 2 - a = omega arith in
        let f : (k - 2 * a) % 2 ≡ k % 2 = omega arith in
        let g : 2 * a + (k - 2 * a) ≡ k = omega arith in
        with_within m xs (2 * a) (2 * n) len fits k (omega arith) c
        ∙ painted_at P v (part m (2 * a) (2 * n)) (k - 2 * a) (omega (arith, length_part m (2 * a) (2 * n) fits))
        ∙ rw (between_yes a (a + n) (k / 2) (omega arith) (omega arith), e, f, get_or-take (2 * n) (drop (2 * a) m) (k - 2 * a) 0 (omega arith), get_or-drop (2 * a) m (k - 2 * a) 0, g)
