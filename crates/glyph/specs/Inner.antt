-- Definitions that only inner functions cite: no exported contract reaches them.
-- The ink of eight rows on a surface, and what the steps of drawing it ensure.
use Rattle.std.specs.Prelude.{Bool, false, ◌&&◌, List, ◌≡◌, ℕ, ◌+◌, ◌-◌, ◌≤◌, ◌<◌, ℤ, pos, get_or}
use Rattle.arithmetic.specs.Interval.{between}
use Rattle.clip.specs.Clip.{covers}
use Rattle.font.specs.Font.{ink_at}
use Rattle.surface.specs.Region.{box}
use Rattle.glyph.specs.declared.Stretch.{Stretch}
use Rattle.glyph.specs.Past.{past}

-- the n words from d on where the row has ink, from its column skip on
abbrev pub row_ink : (row skip d n : ℕ) → ℕ → Bool
row_ink row skip d n i = between d (d + n) i && ink_at row (skip + (i - d))

-- the ink of eight rows with their upper left corner at x, y; for a glyph's rows it is the glyph's ink
abbrev pub bitmap_ink : (x y : ℤ) → List ℕ → (c r : ℕ) → Bool
bitmap_ink x y rows c r = box x y (pos 8) (pos 8) c r && ink_at (get_or rows (past y r) 0) (past x c)

-- rows without ink beyond the fifth column
pub record Narrow (rows : List ℕ) : Type 0 where
  pub none : (k j : ℕ) → 5 ≤ k → ink_at (get_or rows j 0) k ≡ false

-- s holds the coordinates of a side that n coordinates from z on cover, and skip is how far its first lies past z
pub record Shown (z : ℤ) (n side : ℕ) (s : Stretch) : Type 0 where
  pub ordered : s.from ≤ s.to
  pub within : s.to ≤ side
  pub few : s.skip + (s.to - s.from) ≤ 8
  pub exact : (c : ℕ) → c < side → between s.from s.to c ≡ covers z (pos n) c
  pub taken : (c : ℕ) → s.from ≤ c → c < s.to → past z c ≡ s.skip + (c - s.from)
