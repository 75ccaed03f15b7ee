-- Definitions that only inner functions cite: no exported contract reaches them.
use Rattle.std.specs.Prelude.{ℕ, zero, suc}

-- a multiplexer of bits: a where c is 1, and b where it is 0
abbrev pub pick : ℕ → ℕ → ℕ → ℕ
pick zero a b = b
pick (suc c) a b = a
