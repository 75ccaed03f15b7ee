use mathlib.Core.List.{List, ◌++◌}
use mathlib.Core.Path.{◌≡◌}
use Prim.Native.Nat.{ℕ, ◌+◌, ◌≤◌}
use lib.ListN.{length, take, drop}
use Rattle.bits.specs.Bits.{bits_of, numbers_in, total}
use Rattle.bits.proofs.read_fields.Given as goal

-- the fields from i on are left to read, from bit p on
pub record Left (bs : List ℕ) (at : ℕ) (ws values₀ values : List ℕ) (p i : ℕ) : Type 0 where
  pub within : i ≤ length ws
  pub place : p + total (drop i ws) ≡ at + total ws
  pub long : length values ≡ length values₀
  pub left : take i values ++ (numbers_in (drop i ws) bs p ++ drop (length ws) values) ≡ numbers_in ws bs at ++ drop (length ws) values₀

abbrev pub invariant-loop-i : goal.invariant-loop-i
invariant-loop-i l = Left (bits_of l.s) l.at l.widths l.initial.values l.values l.p l.i
