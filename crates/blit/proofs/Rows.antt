-- The rows of a clipped box, one after another. Assumes nothing.
use mathlib.Core.Path.{◌≡◌, ◌∙◌, ap}
use mathlib.Core.Bool.{Bool, true, false, ◌||◌}
use mathlib.Core.List.{List}
use Prim.Native.Nat.{ℕ, ◌+◌, ◌*◌, ◌-◌, ◌/◌, ◌%◌, ◌≤◌, ◌<◌}
use native.Mathlib.Omega.{arith}
use lib.ListN.{length}
use Rattle.arithmetic.specs.Interval.{between}
use Rattle.words.specs.Words.{painted}
use Rattle.words.proofs.Painted.{painted_again, word_kept}
use Rattle.raster.specs.Raster.{ropped}
use Rattle.clip_blit.specs.declared.BlitRect.{BlitRect}
use Rattle.surface.specs.Region.{words_of}
use Rattle.surface.proofs.Rows.{rect, run_row, run_column, row_below, row_above}
use Rattle.blit.specs.Inner.{columns, row_at, source_row_at, source_for, Across}

-- One more row, drawn in a memory that is painted at Old: the row's own words are not painted yet, and its source words are Word.
pub next_row : (table pat : ℕ) (Word : ℕ → ℕ) (Read : List ℕ → ℕ → ℕ) (Old Row All : ℕ → Bool) (m₀ : List ℕ) {m m' : List ℕ}
    → ((i : ℕ) → All i ≡ (Row i || Old i)) → ((i : ℕ) → Row i ≡ true → (2 * i + 1 < length m₀) × (Old i ≡ false))
    → ((i : ℕ) → Row i ≡ true → Read (painted Old (ropped table pat Word m₀) m₀) i ≡ Word i)
    → m ≡ painted Old (ropped table pat Word m₀) m₀ → m' ≡ painted Row (ropped table pat (Read m) m) m
    → m' ≡ painted All (ropped table pat Word m₀) m₀
next_row table pat Word Read Old Row All m₀ {m} more own takes e g =
    g
    ∙ ap (λ (l : List ℕ). painted Row (ropped table pat (Read l) l) l) e
    ∙ painted_again Old Row All (ropped table pat Word m₀) (ropped table pat (Read l₁) l₁) m₀ (λ i lt. more i)
    (λ i lt t. rw (takes i t, word_kept Old (ropped table pat Word m₀) m₀ i (own i t).0 (own i t).1))
  where
    l₁ : List ℕ
    l₁ = painted Old (ropped table pat Word m₀) m₀

-- the words of a row, and the source word of each
module _ (box : BlitRect) (W : ℕ) (A : Across W box) where
  abbrev n : ℕ
  n = columns box

  abbrev run : ℕ → ℕ → Bool
  run y i = between (row_at box W y) (row_at box W y + n) i

  pub fits : box.x0 + n ≤ W
  fits = omega arith

  pub in_row : (y i : ℕ) → run y i ≡ true → i / W ≡ y
  in_row y i e = run_row W box.x0 n y i A.some fits e

  pub taken_row : (SW y i : ℕ) → run y i ≡ true → source_for box W SW i ≡ source_row_at box SW y + (i - row_at box W y)
  taken_row SW y i e =
      let c : i % W - box.x0 ≡ i - row_at box W y = omega (arith, run_column W box.x0 n y i A.some fits e) in
      ap (λ (q : ℕ). source_row_at box SW q + (i % W - box.x0)) (in_row y i e) ∙ ap (λ (k : ℕ). source_row_at box SW y + k) c

  -- one more row below, and one above
  pub below : (y i : ℕ) → box.y0 ≤ y → words_of W (rect box.x0 box.x1 box.y0 (y + 1)) i ≡ (run y i || words_of W (rect box.x0 box.x1 box.y0 y) i)
  below y i h =
      let e : box.x0 + n ≡ box.x1 = omega arith in
      rw e at (row_below W box.x0 n y i A.some fits box.y0 h)

  pub above : (y i : ℕ) → y < box.y1 → words_of W (rect box.x0 box.x1 y box.y1) i ≡ (run y i || words_of W (rect box.x0 box.x1 (y + 1) box.y1) i)
  above y i h =
      let e : box.x0 + n ≡ box.x1 = omega arith in
      rw e at (row_above W box.x0 n y i A.some fits box.y1 h)
