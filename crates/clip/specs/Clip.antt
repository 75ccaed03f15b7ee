-- The part of a box that lies on a surface, one axis at a time.
use Rattle.std.specs.Prelude.{Bool, ◌&&◌, ℕ, min, ℤ, pos, negsuc, ◌+ℤ◌}
use Rattle.std.specs.Int.Signed.{le_z, lt_z}
use Rattle.clip.specs.declared.Span.{Span}
use Rattle.clip.specs.declared.Rect.{Rect}

-- the number in 0 .. side nearest to an integer
abbrev pub nearest : ℤ → ℕ → ℕ
nearest (pos n) side = min n side
nearest (negsuc n) side = 0

-- x ≤ c < x + w, over the integers
abbrev pub covers : ℤ → ℤ → ℕ → Bool
covers x w c = le_z x (pos c) && lt_z (pos c) (x +ℤ w)

-- the part of x .. x + w on 0 .. side
unfoldable pub clipped_axis : ℤ → ℤ → ℕ → Span
clipped_axis x w side = record { from = nearest x side; to = nearest (x +ℤ w) side }

-- the clipped box: columns x0 .. x1 and rows y0 .. y1
abbrev pub clipped_rect : (x y w h : ℤ) → (width height : ℕ) → Rect
clipped_rect x y w h width height =
    record { x0 = (clipped_axis x w width).from; y0 = (clipped_axis y h height).from; x1 = (clipped_axis x w width).to; y1 = (clipped_axis y h height).to }
