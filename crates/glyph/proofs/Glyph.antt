-- A glyph row by row, and clipped to a surface. Assumes nothing.
use mathlib.Core.Bool.{Bool, true, false, ◌&&◌, ◌||◌}
use mathlib.Core.List.{List}
use mathlib.Core.Path.{◌≡◌, refl, sym, ◌∙◌, ap}
use Prim.Native.Nat.{ℕ, ◌+◌, ◌-◌, ◌*◌, ◌/◌, ◌%◌, ◌≤◌, ◌<◌}
use native.Mathlib.Omega.{arith}
use lib.IntN.{ℤ, pos}
use lib.ListN.{get_or}
use Rattle.arithmetic.specs.Interval.{between}
use Rattle.arithmetic.specs.Integer.{positive}
use Rattle.arithmetic.specs.Inner.{negative}
use Rattle.arithmetic.proofs.Interval.{Lies, inside, before, behind, where_is_lem, between_yes, between_no, bounds}
use Rattle.arithmetic.proofs.Test.{and-false, not_left}
use Rattle.clip.specs.Clip.{covers}
use Rattle.clip.proofs.Clip.{covers_parts}
use Rattle.font.specs.Font.{glyph_of, ink_at}
use Rattle.font.proofs.Columns.{five_columns}
use Rattle.surface.specs.Region.{words_of}
use Rattle.surface.proofs.Rows.{rect, column_lt, row_lt, run_row, run_column, row_below, no_rows}
use Rattle.glyph.specs.declared.Stretch.{Stretch}
use Rattle.glyph.specs.Past.{past}
use Rattle.glyph.specs.Inner.{row_ink, bitmap_ink, Narrow, Shown}
use Rattle.glyph.proofs.Reach.{past_parts}

-- the ink of a glyph's rows in n columns from x0 on and rows y0 to r
abbrev pub rows_ink : (x y : ℤ) → List ℕ → (W x0 n y0 r : ℕ) → ℕ → Bool
rows_ink x y g W x0 n y0 r i = words_of W (rect x0 (x0 + n) y0 r) i && ink_at (get_or g (past y (i / W)) 0) (past x (i % W))

-- ink in one region or another
in_either : (one other ink row : Bool) → (one ≡ true → ink ≡ row) → ((one || other) && ink) ≡ ((one && row) || (other && ink))
in_either true other true row f = rw (sym (f refl))
in_either true other false row f = rw (sym (f refl)) (sym (and-false other))
in_either false other ink row f = refl

-- one more row
module _ (x y : ℤ) (g : List ℕ) (W x0 n y0 : ℕ) where
  pub rows_none : (i : ℕ) → rows_ink x y g W x0 n y0 y0 i ≡ false
  rows_none i = not_left (ink_at (get_or g (past y (i / W)) 0) (past x (i % W))) (no_rows W x0 (x0 + n) y0 y0 i (omega arith))

  pub rows_more : (r skip j : ℕ) → 0 < W → x0 + n ≤ W → y0 ≤ r → ((c : ℕ) → x0 ≤ c → c < x0 + n → past x c ≡ skip + (c - x0)) → past y r ≡ j
      → (i : ℕ) → rows_ink x y g W x0 n y0 (r + 1) i ≡ (row_ink (get_or g j 0) skip (r * W + x0) n i || rows_ink x y g W x0 n y0 r i)
  rows_more r skip j some fits from columns row i =
      rw (row_below W x0 n r i some fits y0 from)
      (in_either run (words_of W (rect x0 (x0 + n) y0 r) i) (ink_at (get_or g (past y (i / W)) 0) (past x (i % W))) (ink_at (get_or g j 0) (skip + (i - (r * W + x0)))) ink)
    where
      run : Bool
      run = between (r * W + x0) (r * W + x0 + n) i

      ink : run ≡ true → ink_at (get_or g (past y (i / W)) 0) (past x (i % W)) ≡ ink_at (get_or g j 0) (skip + (i - (r * W + x0)))
      ink e =
          let down : past y (i / W) ≡ j = ap (past y) (run_row W x0 n r i some fits e) ∙ row in
          let at : i % W ≡ x0 + (i - (r * W + x0)) = run_column W x0 n r i some fits e in
          let h = bounds (r * W + x0) (r * W + x0 + n) i e in
          let across : past x (i % W) ≡ skip + (i - (r * W + x0)) = columns (i % W) (omega arith) (omega arith) ∙ omega arith in
          rw (down, across)

-- beyond the fifth column there is no ink
five : (x : ℤ) (c : ℕ) (rows ink : Bool) → (5 ≤ past x c → ink ≡ false) → ((covers x (pos 5) c && rows) && ink) ≡ ((covers x (pos 8) c && rows) && ink)
five x c rows ink none = rw (covers_parts x 5 c, covers_parts x 8 c) (by (where_is_lem (positive x) (positive x + 5) (c + negative x)))
  where
    by : Lies (positive x) (positive x + 5) (c + negative x) → ((between (positive x) (positive x + 5) (c + negative x) && rows) && ink) ≡ ((between (positive x) (positive x + 8) (c + negative x) && rows) && ink)
    by (inside e p q) = rw (e, between_yes (positive x) (positive x + 8) (c + negative x) p (omega arith))
    by (before e p) = rw (e, between_no (positive x) (positive x + 8) (c + negative x) (λ h k. omega arith))
    by (behind e p) = rw (e, none (omega (arith, past_parts x c))) (sym (and-false (between (positive x) (positive x + 8) (c + negative x) && rows)))

-- on the surface, the clipped glyph is the glyph
pub glyph_clipped : (x y : ℤ) (g : List ℕ) → Narrow g → (W H : ℕ) (s t : Stretch) → Shown x 5 W s → Shown y 8 H t → (i : ℕ) → 0 < W → i < W * H → rows_ink x y g W s.from (s.to - s.from) t.from t.to i ≡ words_of W (bitmap_ink x y g) i
glyph_clipped x y g narrow W H s t across down i some lt =
    let whole : s.from + (s.to - s.from) ≡ s.to = omega arith in
    rw (whole, across.exact (i % W) (column_lt W H i some), down.exact (i / W) (row_lt W H i some lt))
    (five x (i % W) (covers y (pos 8) (i / W)) (ink_at (get_or g (past y (i / W)) 0) (past x (i % W))) (λ h. narrow.none (past x (i % W)) (past y (i / W)) h))

-- a glyph of the font is narrow
pub glyph_narrow : (g : ℕ) {rows : List ℕ} → rows ≡ glyph_of g → Narrow rows
glyph_narrow g e = rw e (record { none = λ k j h. five_columns g k j h })

-- rows that miss the surface
pub rows_missed : (y : ℤ) (n H : ℕ) (t : Stretch) → Shown y n H t → t.to ≤ t.from → (r : ℕ) → r < H → covers y (pos n) r ≡ false
rows_missed y n H t down none r h = sym (down.exact r h) ∙ between_no t.from t.to r (λ p q. omega arith)
