-- Intervals of natural numbers.
use Rattle.std.specs.Prelude.{Bool, ◌&&◌, ℕ, leb, ltb}

-- a ≤ i < b
abbrev pub between : ℕ → ℕ → ℕ → Bool
between a b i = leb a i && ltb i b
