-- What holds of the surface of an accepted operation. Assumes nothing.
use mathlib.Core.Path.{◌≡◌}
use mathlib.Core.Bool.{true}
use Prim.Native.Nat.{ℕ, ◌*◌, ◌≤◌, ◌<◌}
use native.Mathlib.Omega.{arith}
use Rattle.std.proofs.lemmas.Bool.Decides.{nat_tests}
use Rattle.surface.specs.Refusal.{side, refusal_for, refusal, refusal_from}

-- A surface in order: its sides are in their limits, and its len bytes are as many as the sides require.
pub record InOrder (width height len : ℕ) : Type 0 where
  pub some : 0 < width
  pub wide : width ≤ 4096
  pub some_rows : 0 < height
  pub high : height ≤ 4096
  pub long : len ≡ 2 * (width * height)

pub side_range : (n : ℕ) → side n ≡ true → (1 ≤ n) × (n ≤ 4096)
side_range n e = grind (arith, nat_tests)

module _ (width height len : ℕ) where
  -- the surface of an accepted operation is in order
  pub in_order : 0 ≡ refusal width height len → InOrder width height len
  unfolding refusal_for
  in_order e = grind (arith, nat_tests)

  pub in_order_from : (src-w src-h : ℕ) → 0 ≡ refusal_from width height src-w src-h len → InOrder width height len × (src-w ≤ 4096)
  unfolding refusal_for
  in_order_from src-w src-h e = grind (arith, nat_tests)

  -- an operation on a surface in order is accepted
  module _ (o : InOrder width height len) where
    pub order_accepted : refusal width height len ≡ 0
    unfolding refusal_for
    order_accepted = grind (arith, nat_tests)

    pub order_accepted_from : {src-w src-h : ℕ} → src-w ≤ 4096 → src-h ≤ 4096 → refusal_from width height src-w src-h len ≡ 0
    unfolding refusal_for
    order_accepted_from p q = grind (arith, nat_tests)
