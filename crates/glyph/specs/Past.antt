-- How far a coordinate lies past another.
use Rattle.std.specs.Prelude.{ℕ, ℤ, pos, ◌-ℤ◌}
use Rattle.arithmetic.specs.Integer.{positive}

-- how far the coordinate c lies past z
abbrev pub past : ℤ → ℕ → ℕ
past z c = positive (pos c -ℤ z)
