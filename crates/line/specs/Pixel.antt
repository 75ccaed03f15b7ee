-- The pixels of a line in the words of request 01, with the step i given. `line_pixel` proves that they are those of `line`.
use Rattle.std.specs.Prelude.{◌≡◌, ℕ, ◌≤◌, ◌<◌, ℤ, pos}
use Rattle.line.specs.Line.{extent, toward, along}

-- Pixel i of a line, for i from 0 to a - 1, is i along u and floor((2·i·b + a) / (2·a)) along v, each with its sign.
pub record StepAt (u0 u1 v0 v1 : ℤ) (u v i : ℕ) : Type 0 where
  pub within : i < extent u0 u1
  pub along_u : pos u ≡ toward u0 u1 i
  pub along_v : pos v ≡ toward v0 v1 (along (extent u0 u1) (extent v0 v1) i)

-- With a = |dx| and b = |dy|, u is x if a ≥ b; if b > a, the axes exchange roles.
pub data OnLine (x0 y0 x1 y1 : ℤ) (c r : ℕ) : Type 0 where
  flat : extent y0 y1 ≤ extent x0 x1 → (i : ℕ) → StepAt x0 x1 y0 y1 c r i → OnLine x0 y0 x1 y1 c r
  steep : extent x0 x1 < extent y0 y1 → (i : ℕ) → StepAt y0 y1 x0 x1 r c i → OnLine x0 y0 x1 y1 c r
