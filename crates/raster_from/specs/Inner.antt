-- Definitions that only inner functions cite: no exported contract reaches them.
-- A run of words under a raster table, with a source run.
use Rattle.std.specs.Prelude.{List, ℕ, ◌+◌, ◌-◌}
use Rattle.arithmetic.specs.Interval.{between}
use Rattle.words.specs.Words.{painted, word}
use Rattle.raster.specs.Raster.{ropped}

-- memory m with pattern, the words of src from s on, and destination under a table at the n words from d on
abbrev pub run_from : (src : List ℕ) → (d s n table pat : ℕ) → (m : List ℕ) → List ℕ
run_from src d s n table pat m = painted (between d (d + n)) (ropped table pat (λ i. word src (s + (i - d))) m) m
