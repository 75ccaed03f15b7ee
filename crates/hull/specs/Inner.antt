-- Definitions that only inner functions cite: no exported contract reaches them.
-- Boxes as the code finds them: of a clipped rectangle, over two boxes, between two pixels.
use Rattle.std.specs.Prelude.{Bool, cond, ◌||◌, ℕ, ◌+◌, min, max, eqb, ltb}
use Rattle.surface.specs.Region.{nonempty}
use Rattle.hull.specs.declared.Bounds.{Bounds}
use Rattle.hull.specs.Hull.{corners, nowhere}

-- a box that holds a pixel
abbrev pub holds_any : Bounds → Bool
holds_any b = ltb 0 b.right

-- the pixels of two regions
abbrev pub union : (p q : ℕ → ℕ → Bool) → (c r : ℕ) → Bool
union p q c r = p c r || q c r

-- columns x0 .. x1 and rows y0 .. y1; four zeros if they hold no pixel
unfoldable pub rect_bounds : (x0 y0 x1 y1 : ℕ) → Bounds
rect_bounds x0 y0 x1 y1 = cond (nonempty x0 x1 y0 y1) (corners x0 y0 x1 y1) nowhere

-- the smallest box over two boxes; a box that ends at column 0 has no pixel
unfoldable pub join : Bounds → Bounds → Bounds
join a b =
    cond (eqb a.right 0) b
    (cond (eqb b.right 0) a
    (corners (min a.left b.left) (min a.top b.top) (max a.right b.right) (max a.bottom b.bottom)))

-- the smallest box that holds two pixels, by their columns and rows
abbrev pub spanning : (c0 r0 c1 r1 : ℕ) → Bounds
spanning c0 r0 c1 r1 = corners (min c0 c1) (min r0 r1) (max c0 c1 + 1) (max r0 r1 + 1)
