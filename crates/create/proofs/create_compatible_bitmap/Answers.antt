-- `create::create_compatible_bitmap` meets its contract. Assumes nothing.
use native.Mathlib.Omega.{arith}
use Rattle.create.proofs.Made.{too_wide, too_high, sized}
use Rattle.create.proofs.create_compatible_bitmap.Goals as goal
use Rattle.create.proofs.create_compatible_bitmap.Goals.{then-width-gt-MAX_SIDE-via-then-width-gt-MAX_SIDE, then-width-gt-MAX_SIDE-via-else-width-gt-MAX_SIDE+then-height-gt-MAX_SIDE}

-- a side is too long
pub returns-then-width-gt-MAX_SIDE : goal.returns-then-width-gt-MAX_SIDE
returns-then-width-gt-MAX_SIDE c =
    λ panel.
    elim c.then-width-gt-MAX_SIDE.branch [
      | then-width-gt-MAX_SIDE-via-then-width-gt-MAX_SIDE w ↦ too_wide _ _ _ c.requires.is_record_lem (omega arith) _
      | then-width-gt-MAX_SIDE-via-else-width-gt-MAX_SIDE+then-height-gt-MAX_SIDE w ↦ too_high _ _ _ (omega arith) c.requires.is_record_lem (omega arith) _
    ]

-- the bitmap is made
pub returns : goal.returns
returns c =
    λ panel. sized _ _ _ (omega arith) (omega arith) c.side_of.ensures c.side_of-2.ensures (rw c.new_bitmap-bitmap.ensures at (c.make.ensures panel))
