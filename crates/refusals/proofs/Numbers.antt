-- No refusal has the number of an acceptance. Assumes nothing.
use Rattle.std.proofs.Common.{◌≡◌, arith}
use Rattle.refusals.specs.declared.Refusal.{Refusal}
use Rattle.refusals.specs.Refusal.{code_of}

pub number_not_0 : (r : Refusal) → code_of r ≡ 0 → ⊥
number_not_0 r e = grind arith
