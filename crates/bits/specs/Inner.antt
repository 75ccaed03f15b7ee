-- Definitions that only inner functions cite: no exported contract reaches them.
-- What fields ask of the bytes that they are read from or written to.
use Rattle.std.specs.Prelude.{List, ℕ, ◌+◌, ◌*◌, ◌≤◌, ◌<◌, ◌^◌, length, get_or}
use Rattle.bits.specs.Bits.{total}

-- a field of n bits at bit `at` of the bytes s
pub record FieldFits (s : List ℕ) (at n : ℕ) : Type 0 where
  pub inside : at + n ≤ 8 * length s
  pub counted : at + n < 2 ^ 64
  pub short : n ≤ 32

-- fields of these widths from bit `at` on
pub record FieldsFit (s : List ℕ) (at : ℕ) (widths : List ℕ) : Type 0 where
  pub inside : at + total widths ≤ 8 * length s
  pub counted : at + total widths < 2 ^ 64
  pub short : (k : ℕ) → get_or widths k 0 ≤ 32
