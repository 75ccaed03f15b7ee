-- Definitions that only inner functions cite: no exported contract reaches them.
-- What the search for the units on a surface ensures.
use Rattle.std.specs.Prelude.{ℕ, ◌+◌, ◌*◌, ◌≤◌, ◌<◌, ℤ}
use Rattle.arithmetic.specs.Integer.{positive}
use Rattle.arithmetic.specs.Inner.{negative}
use Rattle.clip.specs.declared.Span.{Span}

-- each unit before s ends left of the surface, and each after it starts right of the surface
pub record Reached (x : ℤ) (width n : ℕ) (s : Span) : Type 0 where
  pub from_within : s.from ≤ n
  pub to_within : s.to ≤ n
  pub left : (k : ℕ) → k < s.from → positive x + 6 * (k + 1) ≤ negative x
  pub right : (k : ℕ) → s.to ≤ k → k < n → width + negative x ≤ positive x + 6 * k
