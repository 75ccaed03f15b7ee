-- A blit, pixel by pixel: which pixels of the destination are drawn, and from which pixel of the source.
use Rattle.std.specs.Prelude.{Bool, ◌&&◌, List, ℕ, ◌+◌, ◌-◌, ◌*◌, ◌/◌, ◌%◌, leb, ℤ, length}
use Rattle.arithmetic.specs.Integer.{positive}
use Rattle.words.specs.Words.{word, painted}
use Rattle.rop3.specs.Rop3.{table_of}
use Rattle.raster.specs.Raster.{ropped}
use Rattle.clip_blit.specs.declared.BlitRect.{BlitRect}
use Rattle.clip_blit.specs.Blit.{source_at, drawn_at, blit_rect}
use Rattle.surface.specs.declared.Drawn.{Drawn}
use Rattle.surface.specs.Region.{words_of, nonempty}
use Rattle.surface.specs.Refusal.{refusal_from, Drew}
use Rattle.blit.specs.declared.Blit.{Blit}

-- a blit from its numbers: the destination's sides, its place and the source's point, its extent, and the source's sides
abbrev pub blit_of : (width height : ℕ) → (dx dy sx sy w h : ℤ) → (src-w src-h : ℕ) → Blit
blit_of width height dx dy sx sy w h src-w src-h =
    record { width = width; height = height; dx = dx; dy = dy; sx = sx; sy = sy; w = w; h = h; src_w = src-w; src_h = src-h }

-- the clipped box, and where in the source it begins
abbrev pub clipped : Blit → BlitRect
clipped b = blit_rect b.dx b.dy b.sx b.sy b.w b.h b.width b.height b.src_w b.src_h

-- the pixels of the clipped box
abbrev pub region : Blit → (c r : ℕ) → Bool
region b = drawn_at b.dx b.dy b.sx b.sy b.w b.h b.src_w b.src_h

-- one dirty mark, unless the clipped box is empty
abbrev pub marks : Blit → Bool
marks b = nonempty (clipped b).x0 (clipped b).x1 (clipped b).y0 (clipped b).y1

-- the word of the source for column c and row r of the destination
abbrev pub source_word : Blit → (c r : ℕ) → ℕ
source_word b c r = positive (source_at b.dy b.sy r) * b.src_w + positive (source_at b.dx b.sx c)

-- the part of the source bytes for row r does not pass their end; there are len bytes
abbrev pub row_held : Blit → (len r : ℕ) → Bool
row_held b len r =
    leb (2 * (((clipped b).src_y0 + (r - (clipped b).y0)) * b.src_w + ((clipped b).src_x0 + ((clipped b).x1 - (clipped b).x0)))) len

-- the bytes m after a blit from other bytes under a table: a row that passes their end is skipped
unfoldable pub blit_from : Blit → (table pat : ℕ) → (src m : List ℕ) → List ℕ
blit_from b table pat src m =
    painted (words_of b.width (λ c r. region b c r && row_held b (length src) r))
    (ropped table pat (λ i. word src (source_word b (i % b.width) (i / b.width))) m) m

-- blit_from_bytes_rop on a surface of these sides with the bytes m: its answer, and the bytes afterwards
abbrev pub BlitBytes : (dx dy sx sy w h : ℤ) → (src : List ℕ) → (src-w src-h rop pat width height : ℕ) → (m : List ℕ) → Drawn → (m' : List ℕ) → Type 0
BlitBytes dx dy sx sy w h src src-w src-h rop pat width height m =
    let b = blit_of width height dx dy sx sy w h src-w src-h in Drew (refusal_from width height src-w src-h (length m)) (marks b) (blit_from b (table_of rop) pat src m) m
