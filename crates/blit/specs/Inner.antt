-- Definitions that only inner functions cite: no exported contract reaches them.
-- The rows of a clipped box, for the loops over them: where each row is drawn, where its source is, and the bytes after some rows.
use Rattle.std.specs.Prelude.{Bool, ◌&&◌, List, ℕ, ◌+◌, ◌-◌, ◌*◌, ◌/◌, ◌%◌, ◌≤◌, ◌<◌, leb, length}
use Rattle.arithmetic.specs.Interval.{between}
use Rattle.words.specs.Words.{word, painted}
use Rattle.raster.specs.Raster.{ropped}
use Rattle.clip_blit.specs.declared.BlitRect.{BlitRect}
use Rattle.surface.specs.Region.{words_of}
use Rattle.surface.proofs.Rows.{rect}

-- the box's number of columns
abbrev pub columns : BlitRect → ℕ
columns box = box.x1 - box.x0

-- the word at which row y of the box begins, in the destination and in the source
abbrev pub row_at : BlitRect → (width y : ℕ) → ℕ
row_at box width y = y * width + box.x0

abbrev pub source_row_at : BlitRect → (src-w y : ℕ) → ℕ
source_row_at box src-w y = (box.src_y0 + (y - box.y0)) * src-w + box.src_x0

-- the word of the source for word i of the destination
abbrev pub source_for : BlitRect → (width src-w i : ℕ) → ℕ
source_for box width src-w i = source_row_at box src-w (i / width) + (i % width - box.x0)

-- the part of the source bytes for row y does not pass their end; there are len bytes
abbrev pub held : BlitRect → (src-w len y : ℕ) → Bool
held box src-w len y = leb (2 * (source_row_at box src-w y + columns box)) len

-- memory m with row y drawn from other bytes, unless it passes their end
unfoldable pub row_from : BlitRect → (width src-w table pat y : ℕ) → (src m : List ℕ) → List ℕ
row_from box width src-w table pat y src m =
    painted (λ i. between (row_at box width y) (row_at box width y + columns box) i && held box src-w (length src) y)
    (ropped table pat (λ i. word src (source_row_at box src-w y + (i - row_at box width y))) m) m

-- memory m with each such row above y
unfoldable pub rows_from : BlitRect → (width src-w table pat y : ℕ) → (src m : List ℕ) → List ℕ
rows_from box width src-w table pat y src m =
    painted (words_of width (λ c r. rect box.x0 box.x1 box.y0 y c r && held box src-w (length src) r))
    (ropped table pat (λ i. word src (source_for box width src-w i)) m) m

-- The box's columns lie on a surface of that width.
pub record Across (width : ℕ) (box : BlitRect) : Type 0 where
  pub some : 0 < width
  pub columns_ordered : box.x0 ≤ box.x1
  pub rows_ordered : box.y0 ≤ box.y1
  pub right : box.x1 ≤ width

-- The box lies on a destination of len bytes. The number of the source's words fits a machine word.
pub record RoomFrom (len width src-w : ℕ) (box : BlitRect) : Type 0 where
  pub across : Across width box
  pub bottom : 2 * (box.y1 * width) ≤ len
  pub narrow : src-w ≤ 4096
