-- Definitions that only inner functions cite: no exported contract reaches them.
-- Blits between two surfaces of one memory, and the rows of their clipped boxes.
use Rattle.std.specs.Prelude.{◌≡◌, Bool, ◌&&◌, List, ◌⊎◌, ℕ, ◌+◌, ◌-◌, ◌*◌, ◌/◌, ◌%◌, ◌≤◌, ◌<◌, leb}
use Rattle.arithmetic.specs.Interval.{between}
use Rattle.words.specs.Words.{word, painted}
use Rattle.raster.specs.Raster.{ropped}
use Rattle.clip_blit.specs.declared.BlitRect.{BlitRect}
use Rattle.surface.specs.Region.{words_of}
use Rattle.surface.proofs.Rows.{rect}
use Rattle.blit.specs.declared.Blit.{Blit}
use Rattle.blit.specs.Blit.{region, source_word}
use Rattle.blit.specs.Inner.{columns, row_at, source_row_at, source_for, Across}

-- memory m after a blit from its surface at word src-at to its surface at word at: source pixels are those before the call
unfoldable pub blit_within : Blit → (at src-at table pat : ℕ) → (m : List ℕ) → List ℕ
blit_within b at src-at table pat m =
    painted (λ i. between at (at + b.width * b.height) i && words_of b.width (region b) (i - at))
    (ropped table pat (λ i. word m (src-at + source_word b ((i - at) % b.width) ((i - at) / b.width))) m) m

-- Both surfaces lie in a memory of len bytes, and they are the same or have no word in common.
pub record Placed (len at src-at : ℕ) (b : Blit) : Type 0 where
  pub some : 0 < b.width
  pub narrow : b.width ≤ 4096
  pub some_source : 0 < b.src_w
  pub room : 2 * (at + b.width * b.height) ≤ len
  pub room_source : 2 * (src-at + b.src_w * b.src_h) ≤ len
  pub apart : ((at ≡ src-at) × (b.width ≡ b.src_w)) ⊎ ((at + b.width * b.height ≤ src-at) ⊎ (src-at + b.src_w * b.src_h ≤ at))

-- memory m with row y drawn from its own words, of a surface at word src-at to one at word at
unfoldable pub row_within : BlitRect → (at width src-at src-w table pat y : ℕ) → (m : List ℕ) → List ℕ
row_within box at width src-at src-w table pat y m =
    painted (between (at + row_at box width y) (at + row_at box width y + columns box))
    (ropped table pat (λ i. word m (src-at + source_row_at box src-w y + (i - (at + row_at box width y)))) m) m

-- the words of rows top .. bottom of the box, on a surface at word at
abbrev pub rows_at : BlitRect → (at width top bottom i : ℕ) → Bool
rows_at box at width top bottom i = leb at i && words_of width (rect box.x0 box.x1 top bottom) (i - at)

-- memory m with those rows drawn from its words as they were
unfoldable pub rows_within : BlitRect → (at width src-at src-w table pat top bottom : ℕ) → (m : List ℕ) → List ℕ
rows_within box at width src-at src-w table pat top bottom m =
    painted (rows_at box at width top bottom)
    (ropped table pat (λ i. word m (src-at + source_for box width src-w (i - at))) m) m

-- The box and its source lie on surfaces of one memory of len bytes, which are the same or have no row in common.
pub record RoomWithin (len at width src-at src-w : ℕ) (box : BlitRect) : Type 0 where
  pub across : Across width box
  pub bottom : 2 * (at + box.y1 * width) ≤ len
  pub narrow : width ≤ 4096
  pub right_source : box.src_x0 + columns box ≤ src-w
  pub bottom_source : 2 * (src-at + (box.src_y0 + (box.y1 - box.y0)) * src-w) ≤ len
  pub apart : ((at ≡ src-at) × (width ≡ src-w)) ⊎ ((at + box.y1 * width ≤ src-at) ⊎ (src-at + (box.src_y0 + (box.y1 - box.y0)) * src-w ≤ at))
