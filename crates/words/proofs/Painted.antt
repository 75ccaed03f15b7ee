-- Laws of painted memory, word by word. Assumes nothing.
use mathlib.Core.Bool.{Bool, true, false, ◌||◌, cond}
use mathlib.Core.List.{List}
use mathlib.Core.Logic.{◌≢◌}
use mathlib.Core.Path.{◌≡◌, refl, sym, ◌∙◌, ap}
use Prim.Native.Nat.{ℕ, ◌+◌, ◌*◌, ◌/◌, ◌%◌, ◌<◌}
use native.Mathlib.Decide.{ℕ_discrete}
use native.Mathlib.Omega.{arith}
use lib.Dec.{eqb}
use lib.ListN.{get_or, length, set}
use borrow.Author.Tests.{eq-eqb, ne_eqb}
use Rattle.arithmetic.specs.Interval.{between}
use Rattle.arithmetic.proofs.Interval.{between_yes, between_no}
use Rattle.words.specs.Words.{word, byte_of, painted}
use Rattle.words.proofs.Written.{length_written, written_at_lem, is_written, written_none, written_same, written_again, written_set}

module _ (p : ℕ → Bool) (v : ℕ → ℕ) (m : List ℕ) where
  pub length_painted : length (painted p v m) ≡ length m
  unfolding painted
  length_painted = length_written (λ k. p (k / 2)) (λ k. byte_of (v (k / 2)) (k % 2)) m

  pub painted_at : (k : ℕ) → k < length m → get_or (painted p v m) k 0 ≡ cond (p (k / 2)) (byte_of (v (k / 2)) (k % 2)) (get_or m k 0)
  unfolding painted
  painted_at = written_at_lem (λ k. p (k / 2)) (λ k. byte_of (v (k / 2)) (k % 2)) m

  -- a list equals the painted memory if it has the same length and the same bytes
  pub is_painted : (l : List ℕ) → length l ≡ length m → ((k : ℕ) → k < length m → get_or l k 0 ≡ cond (p (k / 2)) (byte_of (v (k / 2)) (k % 2)) (get_or m k 0)) → l ≡ painted p v m
  unfolding painted
  is_painted = is_written (λ k. p (k / 2)) (λ k. byte_of (v (k / 2)) (k % 2)) m

-- nothing is painted
pub painted_none : (p : ℕ → Bool) (v : ℕ → ℕ) (m : List ℕ) → ((i : ℕ) → 2 * i < length m → p i ≡ false) → m ≡ painted p v m
unfolding painted
painted_none p v m h = written_none (λ k. p (k / 2)) (λ k. byte_of (v (k / 2)) (k % 2)) m (λ k lt. h (k / 2) (omega arith))

-- two descriptions of the same words
pub painted_same : (p q : ℕ → Bool) (v u : ℕ → ℕ) (m : List ℕ) → ((i : ℕ) → 2 * i < length m → p i ≡ q i) → ((i : ℕ) → 2 * i < length m → q i ≡ true → v i ≡ u i) → painted p v m ≡ painted q u m
unfolding painted
painted_same p q v u m e h =
    written_same (λ k. p (k / 2)) (λ k. q (k / 2)) (λ k. byte_of (v (k / 2)) (k % 2)) (λ k. byte_of (u (k / 2)) (k % 2)) m (λ k lt. e (k / 2) (omega arith))
    (λ k lt t. ap (λ (x : ℕ). byte_of x (k % 2)) (h (k / 2) (omega arith) t))

-- two descriptions of the same region
pub painted_cong : (p q : ℕ → Bool) (v : ℕ → ℕ) (m : List ℕ) → ((i : ℕ) → 2 * i < length m → p i ≡ q i) → painted p v m ≡ painted q v m
painted_cong p q v m e = painted_same p q v v m e (λ i lt t. refl)

-- painting again at r, where the new words are those of v
pub painted_again : (p r q : ℕ → Bool) (v u : ℕ → ℕ) (m : List ℕ) → ((i : ℕ) → 2 * i < length m → q i ≡ (r i || p i)) → ((i : ℕ) → 2 * i < length m → r i ≡ true → u i ≡ v i) → painted r u (painted p v m) ≡ painted q v m
unfolding painted
painted_again p r q v u m e h =
    written_again (λ k. p (k / 2)) (λ k. r (k / 2)) (λ k. q (k / 2)) (λ k. byte_of (v (k / 2)) (k % 2)) (λ k. byte_of (u (k / 2)) (k % 2)) m (λ k lt. e (k / 2) (omega arith))
    (λ k lt t. ap (λ (x : ℕ). byte_of x (k % 2)) (h (k / 2) (omega arith) t))

-- the two bytes of word i
even_half : (i : ℕ) → 2 * i / 2 ≡ i
even_half i = omega arith

even_rest : (i : ℕ) → 2 * i % 2 ≡ 0
even_rest i = omega arith

odd_half : (i : ℕ) → (2 * i + 1) / 2 ≡ i
odd_half i = omega arith

odd_rest : (i : ℕ) → (2 * i + 1) % 2 ≡ 1
odd_rest i = omega arith

-- one word is stored as two bytes
module _ (p q : ℕ → Bool) (v : ℕ → ℕ) (m : List ℕ) (i : ℕ) (room : 2 * i + 1 < length m) (here : q i ≡ true) (other : (j : ℕ) → j ≢ i → q j ≡ p j) where
  -- the memory between the two stores
  low : ℕ → Bool
  low k = eqb k (2 * i) || p (k / 2)

  low_others : (j : ℕ) → j ≢ 2 * i → low j ≡ p (j / 2)
  unfolding low
  low_others j n = rw (ne_eqb j (2 * i) n)

  low_itself : low (2 * i) ≡ true
  unfolding low
  low_itself = rw (eq-eqb (2 * i) (2 * i) refl)

  both : (j : ℕ) → j ≢ 2 * i + 1 → q (j / 2) ≡ low j
  unfolding low
  both j n = by (ℕ_discrete j (2 * i))
    where
      by : Dec (j ≡ 2 * i) → q (j / 2) ≡ (eqb j (2 * i) || p (j / 2))
      by (yes e) = rw (e, even_half i, here, eq-eqb (2 * i) (2 * i) refl)
      by (no u) = rw (ne_eqb j (2 * i) u) (other (j / 2) (λ e. n (omega arith)))

  pub painted_set : set (set (painted p v m) (2 * i) (v i % 256)) (2 * i + 1) (v i / 256) ≡ painted q v m
  unfolding painted
  painted_set =
      let F : ℕ → ℕ = (λ k. byte_of (v (k / 2)) (k % 2)) in
      let lo : v i % 256 ≡ F (2 * i) = rw (even_half i, even_rest i) in
      let hi : v i / 256 ≡ F (2 * i + 1) = rw (odd_half i, odd_rest i) in
      rw (lo, hi, written_set (λ k. p (k / 2)) low F m (2 * i) (omega arith) low_itself low_others)
      (written_set low (λ k. q (k / 2)) F m (2 * i + 1) room (rw (odd_half i) here) both)

-- a word after painting
pub word_painted : (p : ℕ → Bool) (v : ℕ → ℕ) (m : List ℕ) (i : ℕ) → 2 * i + 1 < length m → v i < 65536 → word (painted p v m) i ≡ cond (p i) (v i) (word m i)
unfolding word
word_painted p v m i room small =
    simp (painted_at p v m (2 * i) (omega arith), painted_at p v m (2 * i + 1) room, even_half i, odd_half i, even_rest i, odd_rest i) (by (p i))
  where
    by : (t : Bool) → cond t (byte_of (v i) 0) (get_or m (2 * i) 0) + 256 * cond t (byte_of (v i) 1) (get_or m (2 * i + 1) 0) ≡ cond t (v i) (word m i)
    by true = omega arith
    by false = refl

-- a word that is not painted
pub word_kept : (p : ℕ → Bool) (v : ℕ → ℕ) (m : List ℕ) (i : ℕ) → 2 * i + 1 < length m → p i ≡ false → word (painted p v m) i ≡ word m i
unfolding word
word_kept p v m i room e = simp (painted_at p v m (2 * i) (omega arith), painted_at p v m (2 * i + 1) room, even_half i, odd_half i, e)

-- the word of two bytes fits 16 bits, and the two are its low and its high byte
pub word_lt : (m : List ℕ) (i : ℕ) → get_or m (2 * i) 0 < 256 → get_or m (2 * i + 1) 0 < 256 → word m i < 65536
unfolding word
word_lt m i h k = omega arith

pub low_byte : (m : List ℕ) (i : ℕ) → get_or m (2 * i) 0 < 256 → get_or m (2 * i) 0 ≡ word m i % 256
unfolding word
low_byte m i h = omega arith

pub high_byte : (m : List ℕ) (i : ℕ) → get_or m (2 * i) 0 < 256 → get_or m (2 * i + 1) 0 ≡ word m i / 256
unfolding word
high_byte m i h = omega arith

-- a word painted on two memories: equal if the new words are equal where it is painted, and the old ones where it is not
pub agree_painted : (p q : ℕ → Bool) (v u : ℕ → ℕ) (a b : List ℕ) (i : ℕ) → 2 * i + 1 < length a → 2 * i + 1 < length b → p i ≡ q i → (p i ≡ true → v i ≡ u i) → (p i ≡ false → word a i ≡ word b i) → word (painted p v a) i ≡ word (painted q u b) i
unfolding word
agree_painted p q v u a b i la lb pq new old = by (p i) refl
  where
    by : (t : Bool) → p i ≡ t → word (painted p v a) i ≡ word (painted q u b) i
    by true e =
        let f : q i ≡ true = sym pq ∙ e in
        let g : v i ≡ u i = new e in
        simp (painted_at p v a (2 * i) (omega arith), painted_at p v a (2 * i + 1) la, painted_at q u b (2 * i) (omega arith), painted_at q u b (2 * i + 1) lb, even_half i, odd_half i, e, f, g)
    by false e = word_kept p v a i la e ∙ old e ∙ sym (word_kept q u b i lb (sym pq ∙ e))

-- painting with the memory's own words changes nothing
pub painted_own : (p : ℕ → Bool) (m : List ℕ) → ((k : ℕ) → get_or m k 0 < 256) → m ≡ painted p (word m) m
painted_own p m bytes = is_painted p (word m) m m refl (λ k lt. by k (p (k / 2)) (ℕ_discrete (k % 2) 0))
  where
    own : (k : ℕ) → Dec (k % 2 ≡ 0) → get_or m k 0 ≡ byte_of (word m (k / 2)) (k % 2)
    own k (yes e) =
        let at : k ≡ 2 * (k / 2) = omega arith in
        rw e (ap (λ (j : ℕ). get_or m j 0) at ∙ low_byte m (k / 2) (bytes (2 * (k / 2))))
    own k (no u) =
        let e : k % 2 ≡ 1 = omega arith in
        let at : k ≡ 2 * (k / 2) + 1 = omega arith in
        rw e (ap (λ (j : ℕ). get_or m j 0) at ∙ high_byte m (k / 2) (bytes (2 * (k / 2))))

    by : (k : ℕ) (t : Bool) → Dec (k % 2 ≡ 0) → get_or m k 0 ≡ cond t (byte_of (word m (k / 2)) (k % 2)) (get_or m k 0)
    by k true d = own k d
    by k false d = refl

-- storing a word that is already there changes nothing
pub word_again : (m : List ℕ) (i : ℕ) → 2 * i + 1 < length m → ((k : ℕ) → get_or m k 0 < 256) → set (set m (2 * i) (word m i % 256)) (2 * i + 1) (word m i / 256) ≡ m
word_again m i room bytes =
    ap (λ (l : List ℕ). set (set l (2 * i) (word m i % 256)) (2 * i + 1) (word m i / 256)) (painted_own (λ _. false) m bytes)
    ∙ painted_set (λ _. false) (between i (i + 1)) (word m) m i room (between_yes i (i + 1) i (omega arith) (omega arith)) (λ j n. between_no i (i + 1) j (λ p q. n (omega arith)))
    ∙ sym (painted_own (between i (i + 1)) m bytes)
