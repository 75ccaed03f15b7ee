-- What a call does to the memories: a list of paints. A paint says which pixels are drawn and how, or which bytes are blanked or
-- removed; it holds no pixel's colour.
use Rattle.std.specs.Prelude.{Bool, false, not, List, [], ◌∷◌, ℕ, ◌/◌, ◌%◌, eqb}
use Rattle.words.specs.Words.{painted, word}
use Rattle.rop3.specs.Rop3.{applied}
use Rattle.surface.specs.Region.{words_of}
use Rattle.gdi.specs.declared.GdiState.{GdiState}
use Rattle.gdi.specs.Record.{bytes_of}
use Rattle.gdi.specs.Stock.{stock_bitmap}
use Rattle.gdi.specs.Lookup.{object_at}
use Rattle.sound.specs.Sound.{start_of, used}
use Rattle.memory.specs.Gap.{closed_up, blanked}
use Rattle.place.specs.declared.Memory.{Memory}
use Rattle.place.specs.declared.SurfaceId.{SurfaceId}
use Rattle.place.specs.declared.SurfaceId.TheVariants.{Panel, Bitmap}
use Rattle.place.specs.Place.{same, where_is}
use Rattle.paint.specs.Memories.{Memories, memories, memory_of, with_memory, width_of, over, colour_at}

-- the source operand of a drawing: 0, or for the pixel at x, y the pixel at fx x, fy y of a surface
pub data Source : Type 0 where
  black : Source
  sampled : SurfaceId → (fx fy : ℕ → ℕ) → Source

-- A drawing: each pixel of `target` in `region` gets the table's result for the pattern, the source operand and itself. A drawing
-- without a raster code has the table of PATCOPY, 0xF0.
pub record Draw : Type 0 where
  pub target : SurfaceId
  pub region : (x y : ℕ) → Bool
  pub table : ℕ
  pub pattern : ℕ
  pub source : Source

pub data Paint : Type 0 where
  draw : Draw → Paint
  -- the n bytes of the memory from p on become 0; the surfaces of which `clears` holds lie there afterwards: a new bitmap, the
  -- panel at its new size, or all created bitmaps after a load
  blank : Memory → (p n : ℕ) → (clears : SurfaceId → Bool) → Paint
  -- the bitmap h is removed: the n bytes of the store from p on. The bytes after them, up to used, move down, and the freed end
  -- becomes 0
  close : (h p n used : ℕ) → Paint

-- the surface u alone
abbrev pub only : SurfaceId → SurfaceId → Bool
only u s = same s u

-- every bitmap but the stock bitmap, of whatever handle
abbrev pub created : SurfaceId → Bool
created Panel = false
created (Bitmap h) = not (eqb h stock_bitmap)

abbrev pub operand : GdiState → Memories → Source → (x y : ℕ) → ℕ
operand b ms black x y = 0
operand b ms (sampled s fx fy) x y = colour_at ms (where_is b s) (fx x) (fy y)

-- the bytes of a surface, w wide, after a drawing; s is the source operand
abbrev pub drawn_bytes : Draw → (s : ℕ → ℕ → ℕ) → (w : ℕ) → List ℕ → List ℕ
drawn_bytes d s w m = painted (words_of w d.region) (λ i. applied d.table d.pattern (s (i % w) (i / w)) (word m i)) m

-- the memories after a paint
unfoldable pub painted_by : GdiState → Paint → Memories → Memories
painted_by b (draw d) ms = over (where_is b d.target) (drawn_bytes d (operand b ms d.source) (width_of (where_is b d.target))) ms
painted_by b (blank m p n clears) ms = with_memory ms m (blanked (memory_of ms m) p n)
painted_by b (close h p n used) ms = memories ms.panel (closed_up 0 ms.store p n used)

-- the memories after several paints, in their order
unfoldable pub after : GdiState → List Paint → Memories → Memories
after b [] ms = ms
after b (p ∷ ps) ms = after b ps (painted_by b p ms)

-- the paint that removes the pixels of object i, whose handle is h
abbrev pub closing : GdiState → (h i : ℕ) → List Paint
closing b h i = close h (start_of b i) (bytes_of (object_at b i)) (used b) ∷ []
