-- The part of a blit that is drawn, one axis at a time, and where in the source its pixels are.
use Rattle.std.specs.Prelude.{Bool, ◌&&◌, cond, ℕ, ltb, ℤ, pos, ◌+ℤ◌, ◌-ℤ◌}
use Rattle.std.specs.Int.Signed.{le_z, lt_z}
use Rattle.arithmetic.specs.Integer.{positive}
use Rattle.clip.specs.declared.Span.{Span}
use Rattle.clip_blit.specs.declared.BlitSpan.{BlitSpan}
use Rattle.clip_blit.specs.declared.BlitRect.{BlitRect}
use Rattle.clip.specs.Clip.{covers, clipped_axis}

-- the source coordinate of the destination coordinate i, over the integers
abbrev pub source_at : ℤ → ℤ → ℕ → ℤ
source_at d s i = pos i -ℤ d +ℤ s

-- 0 ≤ z < side
abbrev pub inside : ℤ → ℕ → Bool
inside z side = le_z (pos 0) z && lt_z z (pos side)

-- i is in d .. d + w, and its source coordinate is inside the source
abbrev pub drawn_along : (d s w : ℤ) → (src-side i : ℕ) → Bool
drawn_along d s w src-side i = covers d w i && inside (source_at d s i) src-side

-- the pixel at column c and row r is in the box, and its source pixel is inside the source
abbrev pub drawn_at : (dx dy sx sy w h : ℤ) → (src-w src-h c r : ℕ) → Bool
drawn_at dx dy sx sy w h src-w src-h c r = drawn_along dx sx w src-w c && drawn_along dy sy h src-h r

-- the destination, shifted by what was cut off the source's start
abbrev pub shifted : ℤ → ℤ → Span → ℤ
shifted d s cut = d +ℤ (pos cut.from -ℤ s)

-- the clipped source at its place on the destination, clipped again to the destination
abbrev pub on_destination : ℤ → ℤ → Span → ℕ → Span
on_destination d s cut dst-side = clipped_axis (shifted d s cut) (pos cut.to -ℤ pos cut.from) dst-side

-- an empty interval
abbrev pub nothing : BlitSpan
nothing = record { from = 0; to = 0; src = 0 }

-- clip to the source, shift the destination by what was cut, clip to the destination
unfoldable pub blit_axis : (d s w : ℤ) → (dst-side src-side : ℕ) → BlitSpan
blit_axis d s w dst-side src-side =
    let cut = clipped_axis s w src-side in
    let on = on_destination d s cut dst-side in
    cond (ltb on.from on.to)
    (record { from = on.from; to = on.to; src = positive (pos cut.from +ℤ (pos on.from -ℤ shifted d s cut)) })
    nothing

-- the clipped box, and the source coordinates of its first column and row
abbrev pub blit_rect : (dx dy sx sy w h : ℤ) → (dst-w dst-h src-w src-h : ℕ) → BlitRect
blit_rect dx dy sx sy w h dst-w dst-h src-w src-h = record {
  x0 = (blit_axis dx sx w dst-w src-w).from;
  y0 = (blit_axis dy sy h dst-h src-h).from;
  x1 = (blit_axis dx sx w dst-w src-w).to;
  y1 = (blit_axis dy sy h dst-h src-h).to;
  src_x0 = (blit_axis dx sx w dst-w src-w).src;
  src_y0 = (blit_axis dy sy h dst-h src-h).src;
}
