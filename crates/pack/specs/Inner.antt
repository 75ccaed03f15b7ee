-- Definitions that only inner functions cite: no exported contract reaches them.
-- Bits put into bytes, one run behind the other.
use Rattle.std.specs.Prelude.{List, ◌++◌, ◌≡◌, ℕ, ◌+◌, ◌*◌, ◌≤◌, ◌<◌, ◌^◌, length}
use Rattle.words.specs.Parts.{with_part}
use Rattle.bits.specs.Bits.{bits_of, fields}
use Rattle.gdi.specs.declared.GdiState.{GdiState}
use Rattle.numbers.specs.Block.{object_of}
use Rattle.saved_table.specs.Table.{dc_widths, dc_values, widths_of, values_of, head_widths, head_values}

-- the fields of an object of this kind, from its numbers
abbrev pub object_bits : (kind : ℕ) → List ℕ → List ℕ
object_bits kind l = fields (widths_of kind) (values_of (object_of kind l))

-- the fields of the head and of the screen DC
abbrev pub head_bits : GdiState → List ℕ
head_bits b = fields head_widths (head_values b) ++ fields dc_widths (dc_values b.screen)

-- the bytes have room for the bits bs from bit `at` on
pub record Room (m : List ℕ) (at : ℕ) (bs : List ℕ) : Type 0 where
  pub inside : at + length bs ≤ 8 * length m
  pub counted : at + length bs < 2 ^ 64

-- the bits bs were put from bit `at` on into the bytes m, which became m'; r is the bit behind them
pub record Put (m : List ℕ) (at : ℕ) (bs : List ℕ) (r : ℕ) (m' : List ℕ) : Type 0 where
  pub bits : bits_of m' ≡ with_part (bits_of m) at (length bs) bs
  pub behind : r ≡ at + length bs
