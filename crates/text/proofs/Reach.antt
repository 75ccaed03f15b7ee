-- The units of a text that lie on a surface, over the parts of its start. Assumes nothing.
use mathlib.Core.Path.{◌≡◌, ◌∙◌, ap}
use Prim.Native.Nat.{ℕ, ◌+◌, ◌-◌, ◌*◌, ◌/◌, min}
use native.Mathlib.Omega.{arith}
use lib.IntN.{ℤ, pos, ◌+ℤ◌, ◌-ℤ◌}
use Rattle.arithmetic.specs.Integer.{positive}
use Rattle.arithmetic.specs.Inner.{negative}
use Rattle.arithmetic.proofs.Integer.{sum, difference, one_part}
use Rattle.clip.specs.Clip.{nearest}
use Rattle.clip.specs.declared.Span.{Span}
use Rattle.clip.proofs.Clip.{nearest_parts}
use Rattle.glyph.proofs.Reach.{skip_parts}
use Rattle.text.specs.Inner.{Reached}

module _ (z : ℤ) where
  reach_parts : (w : ℕ) → positive (pos w -ℤ z +ℤ pos 5) ≡ w + negative z + 5 - positive z
  reach_parts w = omega (arith, difference (pos w) z, sum (pos w -ℤ z) (pos 5), one_part (pos w -ℤ z +ℤ pos 5))

-- what `units_reached` finds
pub reached : (x : ℤ) (w n : ℕ) (s : Span) → s.from ≡ nearest (pos 0 -ℤ x) (6 * n) / 6 → s.to ≡ nearest (pos w -ℤ x +ℤ pos 5) (6 * n) / 6 → Reached x w n s
reached x w n s from to =
    let from_is : nearest (pos 0 -ℤ x) (6 * n) ≡ min (negative x) (6 * n) = nearest_parts (pos 0 -ℤ x) (6 * n) ∙ ap (λ (k : ℕ). min k (6 * n)) (skip_parts x) in
    let to_is : nearest (pos w -ℤ x +ℤ pos 5) (6 * n) ≡ min (w + negative x + 5 - positive x) (6 * n) = nearest_parts (pos w -ℤ x +ℤ pos 5) (6 * n) ∙ ap (λ (k : ℕ). min k (6 * n)) (reach_parts x w) in
    record {
      from_within = omega arith;
      to_within = omega arith;
      left = λ k h. omega (arith, one_part x);
      right = λ k h j. omega arith;
    }
