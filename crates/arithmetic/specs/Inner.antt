-- Definitions that only inner functions cite: no exported contract reaches them.
-- The other part of an integer: z = positive z - negative z, and one of the two is 0.
use Rattle.std.specs.Prelude.{ℕ, suc, ℤ, pos, negsuc}

abbrev pub negative : ℤ → ℕ
negative (pos n) = 0
negative (negsuc n) = suc n
