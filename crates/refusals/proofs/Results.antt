-- The number of a result: 0 exactly where it is accepted. Assumes nothing.
use mathlib.Core.Bool.{true≢false}
use Rattle.std.proofs.Common.{◌≡◌, true, false, sym, refl, Result, Ok, Err, is_err}
use Rattle.refusals.specs.declared.Refusal.{Refusal}
use Rattle.refusals.specs.Refusal.{number_in}
use Rattle.refusals.proofs.Numbers.{number_not_0}

-- the number of a result that was tested
pub zero_if_ok : {A : Type 0} (r : Result A Refusal) → is_err r ≡ false → number_in r ≡ 0
zero_if_ok (Ok a) e = refl
zero_if_ok (Err x) e = absurd (true≢false e)

pub nonzero_if_err : {A : Type 0} (r : Result A Refusal) → is_err r ≡ true → number_in r ≡ 0 → ⊥
nonzero_if_err (Ok a) e z = true≢false (sym e)
nonzero_if_err (Err x) e z = number_not_0 x z
