-- Definitions that only inner functions cite: no exported contract reaches them.
-- Bytes put into a memory.
use Rattle.std.specs.Prelude.{List, ℕ, length}
use Rattle.words.specs.Parts.{with_part}

-- memory m with xs from byte p on
abbrev pub put : List ℕ → ℕ → List ℕ → List ℕ
put m p xs = with_part m p (length xs) xs
