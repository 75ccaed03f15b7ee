-- Laws of runs of words, for the loops over a row. Assumes nothing.
use mathlib.Core.Bool.{Bool, cond}
use mathlib.Core.List.{List}
use mathlib.Core.Path.{◌≡◌, refl, ◌∙◌, ap}
use Prim.Native.Nat.{ℕ, ◌+◌, ◌*◌, ◌-◌, ◌/◌, ◌%◌, ◌≤◌, ◌<◌}
use native.Mathlib.Decide.{ℕ_discrete, dec_lt}
use native.Mathlib.Omega.{arith}
use lib.ListN.{length, set, get_or, drop}
use lib.Seq.{get_or-take, get_or-drop}
use Rattle.arithmetic.specs.Interval.{between}
use Rattle.arithmetic.proofs.Interval.{between_yes, between_no, between_cong, bounds}
use Rattle.words.specs.Words.{painted, word, byte_of}
use Rattle.words.specs.Parts.{part, with_part}
use Rattle.words.proofs.Parts.{length_part, length_with, with_before, with_within, with_behind}
use Rattle.words.proofs.Painted.{is_painted, painted_none, painted_same, painted_set, word_painted, word_kept, word_lt, low_byte, high_byte}

-- a run of words: the empty run, and a run with one more word
pub paint_first : (v : ℕ → ℕ) (m : List ℕ) (d e : ℕ) → e ≤ d → m ≡ painted (between d e) v m
paint_first v m d e le = painted_none (between d e) v m (λ i lt. between_no d e i (omega arith))

pub paint_next : (v : ℕ → ℕ) (m₀ : List ℕ) {m : List ℕ} (d i x : ℕ) → d ≤ i → 2 * i + 1 < length m₀ → m ≡ painted (between d i) v m₀ → x ≡ v i → set (set m (2 * i) (x % 256)) (2 * i + 1) (x / 256) ≡ painted (between d (i + 1)) v m₀
paint_next v m₀ d i x le room e g =
    rw (e, g)
    (painted_set (between d i) (between d (i + 1)) v m₀ i room (between_yes d (i + 1) i le (omega arith))
    (λ j n. between_cong d (i + 1) j d i j (omega arith) (omega arith)))

-- the word after the run is still the old one
pub next_kept : (v : ℕ → ℕ) (m₀ : List ℕ) {m : List ℕ} (d i : ℕ) → 2 * i + 1 < length m₀ → m ≡ painted (between d i) v m₀ → word m i ≡ word m₀ i
next_kept v m₀ d i room e = rw e (word_kept (between d i) v m₀ i room (between_no d i i (omega arith)))

-- copied bytes are copied words
pub copy_painted : (d s n : ℕ) (src m ys : List ℕ) → ys ≡ part src (2 * s) (2 * n) → 2 * (d + n) ≤ length m → 2 * (s + n) ≤ length src → ((j : ℕ) → get_or src j 0 < 256)
    → with_part m (2 * d) (2 * n) ys ≡ painted (between d (d + n)) (λ i. word src (s + (i - d))) m
copy_painted d s n src m ys e fits room bytes =
    is_painted (between d (d + n)) (λ i. word src (s + (i - d))) m (with_part m (2 * d) (2 * n) ys) (length_with m ys (2 * d) (2 * n) len (omega arith))
    (λ k lt. by k lt (dec_lt k (2 * d)) (dec_lt k (2 * d + 2 * n)))
  where
    len : length ys ≡ 2 * n
    len = ap length e ∙ length_part src (2 * s) (2 * n) (omega arith)

    -- byte k of the run is a byte of the source
    read : (k : ℕ) → 2 * d ≤ k → k < 2 * d + 2 * n → get_or ys (k - 2 * d) 0 ≡ get_or src (2 * s + (k - 2 * d)) 0
    read k le lt =
        ap (λ (l : List ℕ). get_or l (k - 2 * d) 0) e
        ∙ get_or-take (2 * n) (drop (2 * s) src) (k - 2 * d) 0 (omega arith)
        ∙ get_or-drop (2 * s) src (k - 2 * d) 0

    -- it is the low or the high byte of its word
    half : (k : ℕ) → 2 * d ≤ k → Dec (k % 2 ≡ 0) → get_or src (2 * s + (k - 2 * d)) 0 ≡ byte_of (word src (s + (k / 2 - d))) (k % 2)
    half k le (yes z) =
        let at : 2 * s + (k - 2 * d) ≡ 2 * (s + (k / 2 - d)) = omega arith in
        rw (z, at) (low_byte src (s + (k / 2 - d)) (bytes (2 * (s + (k / 2 - d)))))
    half k le (no u) =
        let z : k % 2 ≡ 1 = omega arith in
        let at : 2 * s + (k - 2 * d) ≡ 2 * (s + (k / 2 - d)) + 1 = omega arith in
        rw (z, at) (high_byte src (s + (k / 2 - d)) (bytes (2 * (s + (k / 2 - d)))))

    by : (k : ℕ) → k < length m → Dec (k < 2 * d) → Dec (k < 2 * d + 2 * n) → get_or (with_part m (2 * d) (2 * n) ys) k 0 ≡ cond (between d (d + n) (k / 2)) (byte_of (word src (s + (k / 2 - d))) (k % 2)) (get_or m k 0)
    by k lt (yes a) b = with_before m ys (2 * d) (2 * n) len (omega arith) k a ∙ rw (between_no d (d + n) (k / 2) (λ p q. omega arith))
    by k lt (no a) (no b) = with_behind m ys (2 * d) (2 * n) len (omega arith) k (omega arith) ∙ rw (between_no d (d + n) (k / 2) (λ p q. omega arith))
    by k lt (no a) (yes b) =
        with_within m ys (2 * d) (2 * n) len (omega arith) k (omega arith) b
        ∙ read k (omega arith) b
        ∙ rw (between_yes d (d + n) (k / 2) (omega arith) (omega arith)) (half k (omega arith) (ℕ_discrete (k % 2) 0))

-- a row read into a buffer has the words that it was read from
pub buffered : (n s : ℕ) (m row₀ : List ℕ) {row : List ℕ} → ((k : ℕ) → get_or m k 0 < 256) → 2 * n ≤ length row₀
    → row ≡ painted (between 0 (0 + n)) (λ i. word m (s + (i - 0))) row₀ → (k : ℕ) → k < n → word row (0 + k) ≡ word m (s + k)
buffered n s m row₀ small room e k h =
    rw e
    (word_painted (between 0 (0 + n)) (λ i. word m (s + (i - 0))) row₀ (0 + k) (omega arith) (word_lt m (s + (0 + k - 0)) (small (2 * (s + (0 + k - 0)))) (small (2 * (s + (0 + k - 0)) + 1)))
    ∙ ap (λ (t : Bool). cond t (word m (s + (0 + k - 0))) (word row₀ (0 + k))) (between_yes 0 (0 + n) (0 + k) (omega arith) (omega arith))
    ∙ ap (word m) (omega arith))

-- A function of a row that was read into a buffer, and of the word at its place, is that function of the row itself.
pub through_buffer : (f : ℕ → ℕ → ℕ) (d s n : ℕ) (src m row₀ : List ℕ) {row : List ℕ} → ((k : ℕ) → get_or src k 0 < 256) → 2 * n ≤ length row₀
    → row ≡ painted (between 0 (0 + n)) (λ i. word src (s + (i - 0))) row₀
    → painted (between d (d + n)) (λ i. f (word row (0 + (i - d))) (word m i)) m ≡ painted (between d (d + n)) (λ i. f (word src (s + (i - d))) (word m i)) m
through_buffer f d s n src m row₀ {row} small room e =
    painted_same (between d (d + n)) (between d (d + n)) (λ i. f (word row (0 + (i - d))) (word m i)) (λ i. f (word src (s + (i - d))) (word m i)) m (λ i lt. refl)
    (λ i lt t. let h = bounds d (d + n) i t in ap (λ (x : ℕ). f x (word m i)) (buffered n s src row₀ small room e (i - d) (omega arith)))
