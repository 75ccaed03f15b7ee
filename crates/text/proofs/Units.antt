-- Laws of a text's units. Assumes nothing.
use mathlib.Core.List.{List, [], ◌∷◌}
use mathlib.Core.Path.{◌≡◌, ap}
use Prim.Native.Nat.{ℕ, zero, suc, ◌≤◌, ◌<◌}
use native.Mathlib.Omega.{arith}
use lib.ListN.{get_or, length}
use borrow.Author.Tests.{ne_eqb}
use Rattle.text.specs.Ink.{unit_count}

-- the number of units before unit 0 or the end
pub count_is : (us : List ℕ) (i : ℕ) → i ≤ length us → ((k : ℕ) → k < i → get_or us k 0 ≡ 0 → ⊥) → (i < length us → get_or us i 0 ≡ 0) → i ≡ unit_count us
count_is [] i h before found = omega arith
count_is (u ∷ us) zero h before found = rw (found (omega arith))
count_is (u ∷ us) (suc i) h before found =
    rw (ne_eqb u 0 (before 0 (omega arith))) (ap suc (count_is us i (omega arith) (λ k l. before (suc k) (omega arith)) (λ l. found (omega arith))))
