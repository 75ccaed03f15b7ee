use mathlib.Core.List.{List}
use mathlib.Core.Path.{◌≡◌}
use Prim.Native.Nat.{ℕ, ◌+◌, ◌≤◌}
use lib.ListN.{length, get_or}
use Rattle.words.specs.Parts.{with_part}
use Rattle.bits.specs.Bits.{bits_of, fields, total}
use Rattle.bits.proofs.put_fields.Given as goal

-- the fields of widths ns and values us are left to put, from bit p on
pub record Left (out₀ : List ℕ) (at : ℕ) (ws vs out : List ℕ) (p : ℕ) (ns us : List ℕ) : Type 0 where
  pub place : p + total ns ≡ at + total ws
  pub long : length out ≡ length out₀
  pub enough : length ns ≤ length us
  pub short : (k : ℕ) → get_or ns k 0 ≤ 32
  pub left : with_part (bits_of out) p (total ns) (fields ns us) ≡ with_part (bits_of out₀) at (total ws) (fields ws vs)

abbrev pub invariant-loop-n : goal.invariant-loop-n
invariant-loop-n l = Left l.initial.out l.at l.widths l.values l.out l.p l.n-iterator.a.rest.now l.n-iterator.b.rest.now
