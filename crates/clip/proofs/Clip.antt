-- A clipped interval holds exactly the coordinates of the side that the interval covers, and so does a clipped box on both axes.
-- Assumes nothing.
use mathlib.Core.Path.{◌≡◌, refl, sym, ◌∙◌}
use mathlib.Core.Bool.{true, false, ◌&&◌}
use Prim.Native.Nat.{ℕ, suc, ◌+◌, ◌≤◌, ◌<◌, min}
use native.Mathlib.Omega.{arith}
use lib.Dec.{leb, ltb}
use lib.IntN.{ℤ, pos, negsuc, ◌+ℤ◌}
use lib.Signed.{le_z, lt_z}
use borrow.Author.Tests.{leb-true}
use Rattle.arithmetic.specs.Interval.{between}
use Rattle.arithmetic.specs.Integer.{positive}
use Rattle.arithmetic.specs.Inner.{negative}
use Rattle.arithmetic.proofs.Integer.{sum, le_parts, lt_parts, one_part}
use Rattle.arithmetic.proofs.Interval.{between_no}
use Rattle.arithmetic.proofs.Test.{same_order}
use Rattle.clip.specs.declared.Rect.{Rect}
use Rattle.clip.specs.Clip.{nearest, covers, clipped_axis, clipped_rect}

-- the nearest number, over the parts
pub nearest_parts : (z : ℤ) (side : ℕ) → nearest z side ≡ min (positive z) side
nearest_parts (pos n) side = refl
nearest_parts (negsuc n) side = omega arith

-- below the side, the same coordinates come before the nearest number as before the integer
module _ (z : ℤ) (side c : ℕ) (h : c < side) where
  pub nearest_le : leb (nearest z side) c ≡ le_z z (pos c)
  nearest_le =
      rw (nearest_parts z side, le_parts z (pos c))
      (same_order (min (positive z) side) c (positive z + 0) (c + negative z) (λ k. omega arith) (λ k. omega (arith, one_part z)))

  pub nearest_lt : ltb c (nearest z side) ≡ lt_z (pos c) z
  nearest_lt =
      rw (nearest_parts z side, lt_parts (pos c) z)
      (same_order (suc c) (min (positive z) side) (suc (c + negative z)) (positive z + 0) (λ k. omega (arith, one_part z)) (λ k. omega arith))

-- the coordinates that an interval of length n covers, over the parts
pub covers_parts : (x : ℤ) (n c : ℕ) → covers x (pos n) c ≡ between (positive x) (positive x + n) (c + negative x)
covers_parts x n c =
    let from : le_z x (pos c) ≡ leb (positive x) (c + negative x)
    = le_parts x (pos c) ∙ same_order (positive x + 0) (c + negative x) (positive x) (c + negative x) (λ h. omega arith) (λ h. omega arith) in
    let to : lt_z (pos c) (x +ℤ pos n) ≡ ltb (c + negative x) (positive x + n)
    = lt_parts (pos c) (x +ℤ pos n)
    ∙ same_order (suc (c + negative (x +ℤ pos n))) (positive (x +ℤ pos n) + 0) (suc (c + negative x)) (positive x + n) (λ h. omega (arith, sum x (pos n))) (λ h. omega (arith, sum x (pos n))) in
    rw (from, to)

-- a clipped interval
module _ (x w : ℤ) (side : ℕ) where
  pub clip_covers : {c : ℕ} → c < side → between (clipped_axis x w side).from (clipped_axis x w side).to c ≡ covers x w c
  unfolding clipped_axis
  clip_covers {c} h = rw (nearest_le x side c h, nearest_lt (x +ℤ w) side c h)

  pub clip_within : ((clipped_axis x w side).from ≤ side) × ((clipped_axis x w side).to ≤ side)
  unfolding clipped_axis
  clip_within = omega (arith, nearest_parts x side, nearest_parts (x +ℤ w) side)

-- a clipped box, its columns and its rows
module _ (x y w h : ℤ) (width height : ℕ) where
  abbrev box : Rect
  box = clipped_rect x y w h width height

  pub rect_covers : {c r : ℕ} → c < width → r < height → (between box.x0 box.x1 c && between box.y0 box.y1 r) ≡ (covers x w c && covers y h r)
  rect_covers p q = rw (clip_covers x w width p, clip_covers y h height q)

  pub rect_within : ((box.x0 ≤ width) × (box.x1 ≤ width)) × ((box.y0 ≤ height) × (box.y1 ≤ height))
  rect_within = (clip_within x w width, clip_within y h height)

-- an extent that is not positive covers nothing
module _ (x w : ℤ) (none : le_z w (pos 0) ≡ true) where
  no_extent : positive w ≡ 0
  no_extent =
      let h : positive w + 0 ≤ 0 + negative w = leb-true (positive w + 0) (0 + negative w) (sym (le_parts w (pos 0)) ∙ none) in
      omega (arith, one_part w)

  pub no_extent_clipped : (side : ℕ) → (clipped_axis x w side).to ≤ (clipped_axis x w side).from
  unfolding clipped_axis
  no_extent_clipped side = omega (arith, nearest_parts x side, nearest_parts (x +ℤ w) side, no_extent, sum x w, one_part x, one_part (x +ℤ w))

  pub no_extent_covered : (c : ℕ) → covers x w c ≡ false
  no_extent_covered c =
      sym (clip_covers x w (suc c) (omega arith))
      ∙ between_no (clipped_axis x w (suc c)).from (clipped_axis x w (suc c)).to c (λ h k. omega (arith, no_extent_clipped (suc c)))
