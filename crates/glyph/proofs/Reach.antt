-- The part of a glyph that lies on a surface, over the parts of its start. Assumes nothing.
use mathlib.Core.Path.{◌≡◌, ◌∙◌, ap}
use Prim.Native.Nat.{ℕ, ◌+◌, ◌-◌, ◌≤◌, ◌<◌, min}
use native.Mathlib.Omega.{arith}
use lib.IntN.{ℤ, pos, ◌+ℤ◌, ◌-ℤ◌}
use Rattle.arithmetic.specs.Interval.{between}
use Rattle.arithmetic.specs.Integer.{positive}
use Rattle.arithmetic.specs.Inner.{negative}
use Rattle.arithmetic.proofs.Integer.{sum, difference, one_part, eq_parts}
use Rattle.clip.specs.Clip.{nearest, covers, clipped_axis}
use Rattle.clip.proofs.Clip.{nearest_parts, clip_covers}
use Rattle.glyph.specs.declared.Stretch.{Stretch}
use Rattle.glyph.specs.Past.{past}
use Rattle.glyph.specs.Inner.{Shown}

pub plus_zero : (z : ℤ) → z +ℤ pos 0 ≡ z
plus_zero z = eq_parts (z +ℤ pos 0) z (omega (arith, sum z (pos 0)))

-- the code's sums, over the parts
module _ (z : ℤ) where
  pub past_parts : (c : ℕ) → past z c ≡ c + negative z - positive z
  past_parts c = omega (arith, difference (pos c) z, one_part (pos c -ℤ z))

  end_parts : (n : ℕ) → positive (z +ℤ pos n) ≡ positive z + n - negative z
  end_parts n = omega (arith, sum z (pos n), one_part (z +ℤ pos n))

  pub skip_parts : positive (pos 0 -ℤ z) ≡ negative z
  skip_parts = omega (arith, difference (pos 0) z, one_part (pos 0 -ℤ z), one_part z)

-- the same over plain numbers: a start of p - m, of which one is 0
module _ (p m n side : ℕ) (one : min p m ≡ 0) (small : n ≤ 8) where
  ordered : min p side ≤ min (p + n - m) side
  ordered = omega arith

  few : min m 8 + (min (p + n - m) side - min p side) ≤ 8
  few = omega arith

  inside : (c : ℕ) → min p side ≤ c → c < min (p + n - m) side → (min p side ≡ p) × ((p ≤ c) × (c < p + n - m))
  inside c h k = omega arith

  taken : (c : ℕ) → p ≤ c → c < p + n - m → c + m - p ≡ min m 8 + (c - p)
  taken c h k = omega arith

nearest_covers : (z : ℤ) (n side c : ℕ) → c < side → between (nearest z side) (nearest (z +ℤ pos n) side) c ≡ covers z (pos n) c
unfolding clipped_axis
nearest_covers z n side c h = clip_covers z (pos n) side h

-- what `cut` finds
pub shown : (z : ℤ) (n side : ℕ) (s : Stretch) → n ≤ 8 → s.from ≡ nearest z side → s.to ≡ nearest (z +ℤ pos n) side → s.skip ≡ nearest (pos 0 -ℤ z) 8 → Shown z n side s
shown z n side s small from to skip = record {
  ordered = rw (from_is, to_is) (ordered (positive z) (negative z) n side (one_part z) small);
  within = omega (arith, to_is);
  few = rw (from_is, to_is, skip_is) (few (positive z) (negative z) n side (one_part z) small);
  exact = λ c h. rw (from, to) (nearest_covers z n side c h);
  taken = λ c h k. place c (rw from_is at h) (rw to_is at k);
}
  where
    from_is : s.from ≡ min (positive z) side
    from_is = from ∙ nearest_parts z side

    to_is : s.to ≡ min (positive z + n - negative z) side
    to_is = to ∙ nearest_parts (z +ℤ pos n) side ∙ ap (λ (k : ℕ). min k side) (end_parts z n)

    skip_is : s.skip ≡ min (negative z) 8
    skip_is = skip ∙ nearest_parts (pos 0 -ℤ z) 8 ∙ ap (λ (k : ℕ). min k 8) (skip_parts z)

    place : (c : ℕ) → min (positive z) side ≤ c → c < min (positive z + n - negative z) side → past z c ≡ s.skip + (c - s.from)
    place c h k =
        let i = inside (positive z) (negative z) n side (one_part z) small c h k in
        rw (past_parts z c, skip_is, from_is, i.0) (taken (positive z) (negative z) n side (one_part z) small c i.1.0 i.1.1)
