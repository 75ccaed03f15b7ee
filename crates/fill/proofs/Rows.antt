-- A rectangle under a table, row by row. Assumes nothing.
use mathlib.Core.Path.{◌≡◌, refl, ◌∙◌, ap}
use mathlib.Core.Bool.{Bool, true}
use mathlib.Core.List.{List}
use Prim.Native.Nat.{ℕ, ◌+◌, ◌*◌, ◌≤◌, ◌<◌}
use native.Mathlib.Nat.{mul-le-mul_right}
use native.Mathlib.Omega.{arith}
use lib.ListN.{length}
use Rattle.arithmetic.specs.Interval.{between}
use Rattle.arithmetic.proofs.Interval.{bounds}
use Rattle.rop3.specs.Rop3.{applied}
use Rattle.words.specs.Words.{word, painted}
use Rattle.words.proofs.Painted.{painted_none, painted_again, word_kept}
use Rattle.raster.specs.Raster.{ropped}
use Rattle.surface.specs.Region.{words_of}
use Rattle.surface.proofs.Rows.{rect, run_row, row_below, no_rows, off_rows}
use Rattle.fill.specs.Inner.{ropped_rect}

module _ (W x0 n y0 y1 table pat : ℕ) (m₀ : List ℕ) where
  -- At row r the number start is row times width, and the rows from y0 up to r are done.
  pub record AtRow (start r : ℕ) (m : List ℕ) : Type 0 where
    pub row_start : start ≡ r * W
    pub rows : m ≡ ropped_rect W x0 (x0 + n) y0 r table pat m₀
    pub size : length m ≡ length m₀
    pub from : y0 ≤ r
    pub upto : r ≤ y1

  abbrev v : ℕ → ℕ
  v = ropped table pat (λ _. 0) m₀

  -- the words of the rows before r
  abbrev above : ℕ → ℕ → Bool
  above r = words_of W (rect x0 (x0 + n) y0 r)

  pub rows_first : y0 ≤ y1 → AtRow (y0 * W) y0 m₀
  rows_first h =
      record {
        row_start = refl;
        rows = painted_none (above y0) v m₀ (λ i lt. no_rows W x0 (x0 + n) y0 y0 i (omega arith));
        size = refl;
        from = omega arith;
        upto = h;
      }

  -- one more row
  module _ (some : 0 < W) (fits : x0 + n ≤ W) (room : 2 * (y1 * W) ≤ length m₀) {start r : ℕ} {m : List ℕ} (k : AtRow start r m) (lt : r < y1) where
    -- the row ends within the memory, and the next begins there
    pub next_start : 2 * (start + W) ≤ length m₀
    next_start = omega (arith, k.row_start, mul-le-mul_right W lt)

    abbrev run : ℕ → Bool
    run = between (r * W + x0) (r * W + x0 + n)

    -- the row has its old words
    row_kept : (i : ℕ) → run i ≡ true → word m i ≡ word m₀ i
    row_kept i on =
        let h = bounds (r * W + x0) (r * W + x0 + n) i on in
        ap (λ (l : List ℕ). word l i) k.rows
        ∙ word_kept (above r) v m₀ i (omega (arith, next_start, k.row_start)) (off_rows W x0 (x0 + n) y0 r i (λ p q. omega (arith, run_row W x0 n r i some fits on)))

    row_more : painted run (ropped table pat (λ _. 0) m) m ≡ ropped_rect W x0 (x0 + n) y0 (r + 1) table pat m₀
    row_more =
        ap (painted run (ropped table pat (λ _. 0) m)) k.rows
        ∙ painted_again (above r) run (above (r + 1)) v (ropped table pat (λ _. 0) m) m₀
        (λ i h. row_below W x0 n r i some fits y0 k.from) (λ i h on. ap (applied table pat 0) (row_kept i on))

    pub rows_next : {start' : ℕ} {m' : List ℕ} → start' ≡ (r + 1) * W → m' ≡ painted (between (start + x0) (start + x0 + n)) (ropped table pat (λ _. 0) m) m → length m' ≡ length m → AtRow start' (r + 1) m'
    rows_next begins e same =
        record {
          row_start = begins;
          rows = rw k.row_start at e ∙ row_more;
          size = same ∙ k.size;
          from = omega (arith, k.from);
          upto = omega arith;
        }

  pub rows_done : {start r : ℕ} {m : List ℕ} → AtRow start r m → y1 ≤ r → m ≡ ropped_rect W x0 (x0 + n) y0 y1 table pat m₀
  rows_done {start} {r} k h = let e : r ≡ y1 = omega (arith, k.upto) in rw e at k.rows
