-- A rectangle of a surface, row by row: a row is a run of words. Assumes nothing.
use mathlib.Core.Path.{◌≡◌, refl}
use mathlib.Core.Bool.{Bool, true, false, ◌&&◌, ◌||◌}
use Prim.Native.Nat.{ℕ, ◌+◌, ◌*◌, ◌/◌, ◌%◌, ◌-◌, ◌≤◌, ◌<◌}
use native.Mathlib.Nat.{div-add-mod', mod-lt, mul-le-mul_right, div-lt_iff_lt-mul}
use native.Mathlib.Decide.{dec_lt}
use native.Mathlib.Omega.{arith}
use Rattle.arithmetic.specs.Interval.{between}
use Rattle.arithmetic.proofs.Interval.{between_yes, between_no, between_cong, bounds}
use Rattle.arithmetic.proofs.Test.{and-false}
use Rattle.surface.specs.Region.{words_of}

-- columns x0 .. x1 and rows y0 .. y1
abbrev pub rect : (x0 x1 y0 y1 : ℕ) → (c r : ℕ) → Bool
rect x0 x1 y0 y1 c r = between x0 x1 c && between y0 y1 r

-- the column and the row of a word of the surface
module _ (W H i : ℕ) (some : 0 < W) where
  pub column_lt : i % W < W
  column_lt = mod-lt i some

  pub row_lt : i < W * H → i / W < H
  row_lt h = (div-lt_iff_lt-mul some).1 (omega arith)

-- n columns from x0 on of row r
module _ (W x0 n r i : ℕ) (some : 0 < W) (fits : x0 + n ≤ W) where
  abbrev run : Bool
  run = between (r * W + x0) (r * W + x0 + n) i

  -- the row and the column of a word of the run
  pub run_row : run ≡ true → i / W ≡ r
  run_row e = by (dec_lt (i / W) r) (dec_lt r (i / W))
    where
      is : i / W * W + i % W ≡ i
      is = div-add-mod' i W

      h : (r * W + x0 ≤ i) × (i < r * W + x0 + n)
      h = bounds (r * W + x0) (r * W + x0 + n) i e

      by : Dec (i / W < r) → Dec (r < i / W) → i / W ≡ r
      by (yes k) o = absurd (omega (arith, is, mod-lt i some, h, mul-le-mul_right W k))
      by (no k) (yes l) = absurd (omega (arith, is, mod-lt i some, h, mul-le-mul_right W l))
      by (no k) (no l) = omega arith

  pub run_column : run ≡ true → i % W ≡ x0 + (i - (r * W + x0))
  run_column e =
      let is : r * W + i % W ≡ i = rw (run_row e) at (div-add-mod' i W) in
      omega (arith, is, bounds (r * W + x0) (r * W + x0 + n) i e)

  -- in row r the run holds its columns
  run_in_row : i / W ≡ r → run ≡ between x0 (x0 + n) (i % W)
  run_in_row e =
      let is : r * W + i % W ≡ i = rw e at (div-add-mod' i W) in
      between_cong (r * W + x0) (r * W + x0 + n) i x0 (x0 + n) (i % W) (λ p q. omega arith) (λ p q. omega arith)

  run_off_row : (i / W ≡ r → ⊥) → run ≡ false
  run_off_row k = by run refl
    where
      by : (t : Bool) → run ≡ t → t ≡ false
      by true e = absurd (k (run_row e))
      by false e = refl

  row_law : (one more : Bool) → (i / W ≡ r → (one ≡ false) × (more ≡ true)) → ((i / W ≡ r → ⊥) → more ≡ one) → (between x0 (x0 + n) (i % W) && more) ≡ (run || (between x0 (x0 + n) (i % W) && one))
  row_law one more on off = by (dec_lt (i / W) r) (dec_lt r (i / W))
    where
      apart : (i / W ≡ r → ⊥) → (between x0 (x0 + n) (i % W) && more) ≡ (run || (between x0 (x0 + n) (i % W) && one))
      apart k = rw (run_off_row k, off k)

      or_and : (b : Bool) → (b && true) ≡ (b || (b && false))
      or_and true = refl
      or_and false = refl

      by : Dec (i / W < r) → Dec (r < i / W) → (between x0 (x0 + n) (i % W) && more) ≡ (run || (between x0 (x0 + n) (i % W) && one))
      by (yes k) o = apart (λ e. omega arith)
      by (no k) (yes l) = apart (λ e. omega arith)
      by (no k) (no l) =
          let e : i / W ≡ r = omega arith in
          rw (run_in_row e, (on e).0, (on e).1) (or_and (between x0 (x0 + n) (i % W)))

  -- one more row at the end of a rectangle, and at its start
  pub row_below : (y0 : ℕ) → y0 ≤ r → words_of W (rect x0 (x0 + n) y0 (r + 1)) i ≡ (run || words_of W (rect x0 (x0 + n) y0 r) i)
  row_below y0 h =
      row_law (between y0 r (i / W)) (between y0 (r + 1) (i / W))
      (λ e. (between_no y0 r (i / W) (λ p q. omega arith), between_yes y0 (r + 1) (i / W) (omega arith) (omega arith)))
      (λ k. between_cong y0 (r + 1) (i / W) y0 r (i / W) (λ p q. (p, less k q)) (λ p q. (p, omega arith)))
    where
      less : (i / W ≡ r → ⊥) → i / W < r + 1 → i / W < r
      less k q = by (dec_lt (i / W) r)
        where
          by : Dec (i / W < r) → i / W < r
          by (yes l) = l
          by (no l) = absurd (k (omega arith))

  pub row_above : (y1 : ℕ) → r < y1 → words_of W (rect x0 (x0 + n) r y1) i ≡ (run || words_of W (rect x0 (x0 + n) (r + 1) y1) i)
  row_above y1 h =
      row_law (between (r + 1) y1 (i / W)) (between r y1 (i / W))
      (λ e. (between_no (r + 1) y1 (i / W) (λ p q. omega arith), between_yes r y1 (i / W) (omega arith) (omega arith)))
      (λ k. between_cong r y1 (i / W) (r + 1) y1 (i / W) (λ p q. (more k p, q)) (λ p q. (omega arith, q)))
    where
      more : (i / W ≡ r → ⊥) → r ≤ i / W → r + 1 ≤ i / W
      more k q = by (dec_lt r (i / W))
        where
          by : Dec (r < i / W) → r + 1 ≤ i / W
          by (yes l) = omega arith
          by (no l) = absurd (k (omega arith))

-- rectangles without rows or without columns
pub off_rows : (W x0 x1 y0 y1 i : ℕ) → (y0 ≤ i / W → i / W < y1 → ⊥) → words_of W (rect x0 x1 y0 y1) i ≡ false
off_rows W x0 x1 y0 y1 i h = rw (between_no y0 y1 (i / W) h) (and-false (between x0 x1 (i % W)))

pub no_rows : (W x0 x1 y0 y1 i : ℕ) → y1 ≤ y0 → words_of W (rect x0 x1 y0 y1) i ≡ false
no_rows W x0 x1 y0 y1 i h = off_rows W x0 x1 y0 y1 i (λ p q. omega arith)

pub no_columns : (W x0 x1 y0 y1 i : ℕ) → x1 ≤ x0 → words_of W (rect x0 x1 y0 y1) i ≡ false
no_columns W x0 x1 y0 y1 i h = rw (between_no x0 x1 (i % W) (λ p q. omega arith))

-- a row of a rectangle lies on the surface
pub row_fits : (W H x n r y1 : ℕ) → x + n ≤ W → r < y1 → y1 ≤ H → r * W + x + n ≤ W * H
row_fits W H x n r y1 fits h k = let l : r + 1 ≤ H = omega arith in omega (arith, mul-le-mul_right W l)
