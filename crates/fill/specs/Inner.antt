-- Definitions that only inner functions cite: no exported contract reaches them.
-- A rectangle of a surface's columns and rows under a table.
use Rattle.std.specs.Prelude.{List, ℕ}
use Rattle.words.specs.Words.{painted}
use Rattle.raster.specs.Raster.{ropped}
use Rattle.surface.specs.Region.{words_of}
use Rattle.surface.proofs.Rows.{rect}

-- memory m with pattern and destination under a table in columns x0 .. x1 of rows y0 .. y1; the source operand is 0
abbrev pub ropped_rect : (width x0 x1 y0 y1 table pat : ℕ) → (m : List ℕ) → List ℕ
ropped_rect width x0 x1 y0 y1 table pat m = painted (words_of width (rect x0 x1 y0 y1)) (ropped table pat (λ _. 0) m) m
