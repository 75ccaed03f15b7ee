-- The positive part of an integer: the integer itself, or 0 if it is negative.
use Rattle.std.specs.Prelude.{ℕ, ℤ, pos, negsuc}

abbrev pub positive : ℤ → ℕ
positive (pos n) = n
positive (negsuc n) = 0
