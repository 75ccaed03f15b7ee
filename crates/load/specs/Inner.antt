-- Definitions that only inner functions cite: no exported contract reaches them.
-- What a load asks of bytes: whether they are a table, and which sizes its record has.
use Rattle.std.specs.Prelude.{true, false, List, Option, MatchOption, ◌≡◌, ℕ}
use Rattle.gdi.specs.declared.GdiState.{GdiState}
use Rattle.gdi.specs.Record.{size}
use Rattle.sound.specs.Sound.{used}
use Rattle.saved_table.specs.Held.{held_by, is_table}
use Rattle.load.specs.declared.Sizes.{Sizes}

-- bytes that are a table, whatever the device b is, and the sizes of the record that they hold
pub record TableSizes (bytes : List ℕ) (s : Sizes) : Type 0 where
  pub table : (b : GdiState) → is_table b bytes ≡ true
  pub end : (b : GdiState) → s.end ≡ used (held_by b bytes)
  pub panel : (b : GdiState) → s.panel ≡ size (held_by b bytes).width (held_by b bytes).height

-- the sizes, if the bytes are a table
abbrev pub SizesIn : (bytes : List ℕ) → Option Sizes → Type 0
SizesIn bytes s = MatchOption s ((b : GdiState) → is_table b bytes ≡ false) (TableSizes bytes)
