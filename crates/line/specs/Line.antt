-- A line from x0, y0 to x1, y1: which pixels it draws. It leaves out its end, as Microsoft's LineTo does.
use Rattle.std.specs.Prelude.{Bool, false, cond, ◌&&◌, ℕ, ◌+◌, ◌*◌, ◌/◌, eqb, leb, ltb, ℤ, pos, negsuc, nat_abs, ◌+ℤ◌, ◌-ℤ◌}
use Rattle.std.specs.Int.Signed.{le_z}
use Rattle.arithmetic.specs.Test.{any_below}

-- the extent of a line along one axis: |dx| or |dy|
abbrev pub extent : (from to : ℤ) → ℕ
extent from to = nat_abs (to -ℤ from)

-- the coordinate n past `from` in the direction of `to`: n with its sign
abbrev pub toward : (from to : ℤ) → (n : ℕ) → ℤ
toward from to n = cond (le_z from to) (from +ℤ pos n) (from -ℤ pos n)

-- pixel i of a line is i along the axis of the larger extent, a, and floor((2·i·b + a) / (2·a)) along the other, whose extent is b
abbrev pub along : (a b i : ℕ) → ℕ
along a b i = (2 * i * b + a) / (2 * a)

-- an integer is the coordinate c
abbrev pub is_at : ℤ → ℕ → Bool
is_at (pos n) c = eqb n c
is_at (negsuc n) c = false

-- A line with one pixel for each u from u0 on, u1 left out: pixel i of 0 to a - 1 is i along u and `along a b i` along v, each with
-- its sign. For the pixel at u, v, i is |u - u0|.
abbrev pub steps : (u0 u1 v0 v1 : ℤ) → (u v : ℕ) → Bool
steps u0 u1 v0 v1 u v =
    ltb (extent u0 (pos u)) (extent u0 u1) && (is_at (toward u0 u1 (extent u0 (pos u))) u
    && is_at (toward v0 v1 (along (extent u0 u1) (extent v0 v1) (extent u0 (pos u)))) v)

-- the pixels of a line: with a = |dx| and b = |dy|, a pixel for each column if a ≥ b; if b > a, the axes exchange roles
unfoldable pub line : (x0 y0 x1 y1 : ℤ) → (c r : ℕ) → Bool
line x0 y0 x1 y1 c r = cond (leb (extent y0 y1) (extent x0 x1)) (steps x0 x1 y0 y1 c r) (steps y0 y1 x0 x1 r c)

-- whether a line draws a pixel of a surface of these sides
unfoldable pub line_marks : (width height : ℕ) → (x0 y0 x1 y1 : ℤ) → Bool
line_marks width height x0 y0 x1 y1 = any_below height (λ r. any_below width (λ c. line x0 y0 x1 y1 c r))
