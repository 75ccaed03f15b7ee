-- `panel::resize` meets its contract. Assumes nothing.
use mathlib.Core.Path.{refl}
use native.Mathlib.Omega.{arith}
use Rattle.numbers.proofs.Seen.{panel_len_seen}
use Rattle.plan.proofs.Followed.{refusal, acceptance_same}
use Rattle.panel.proofs.Cases.{same_size, too_wide, too_high, too_short, new_size, sized}
use Rattle.panel.proofs.Sides.{sized_marked}
use Rattle.panel.proofs.resize.Goals as goal
use Rattle.panel.proofs.resize.Goals.{then-width-gt-MAX_SIDE-via-then-width-gt-MAX_SIDE, then-width-gt-MAX_SIDE-via-else-width-gt-MAX_SIDE+then-height-gt-MAX_SIDE}

-- nothing to do
pub returns-then-no_effect : goal.returns-then-no_effect
returns-then-no_effect c =
    λ store. acceptance_same c.requires.is_record_lem refl (same_size _ _ _ c.no_effect.ensures c.if-no_effect.true)

-- a side is too long
pub returns-then-width-gt-MAX_SIDE : goal.returns-then-width-gt-MAX_SIDE
returns-then-width-gt-MAX_SIDE c =
    λ store. refusal c.requires.is_record_lem
    (elim c.then-width-gt-MAX_SIDE.branch [
      | then-width-gt-MAX_SIDE-via-then-width-gt-MAX_SIDE w ↦ too_wide _ _ _ c.no_effect.ensures c.if-no_effect.false w.if-width-gt-MAX_SIDE.true
      | then-width-gt-MAX_SIDE-via-else-width-gt-MAX_SIDE+then-height-gt-MAX_SIDE w ↦
          too_high _ _ _ c.no_effect.ensures c.if-no_effect.false w.if-width-gt-MAX_SIDE.false w.if-height-gt-MAX_SIDE.true
    ])

-- the panel memory is too short
pub returns-then-n-numbers : goal.returns-then-n-numbers
returns-then-n-numbers c =
    λ store. refusal c.requires.is_record_lem (too_short _ _ _ c.no_effect.ensures c.if-no_effect.false c.if-width-gt-MAX_SIDE.false c.if-height-gt-MAX_SIDE.false (omega (arith, panel_len_seen c.args.numbers.now, c.if-n-numbers.true)))

-- the new size
pub returns : goal.returns
returns c =
    sized c.args.numbers.now _ _ (new_size _ _ _ c.no_effect.ensures c.if-no_effect.false c.if-width-gt-MAX_SIDE.false c.if-height-gt-MAX_SIDE.false (omega (arith, panel_len_seen c.args.numbers.now, c.if-n-numbers.false)))
    c.zero.ensures (sized_marked _ _ c.set_sides.ensures c.mark_dirty.ensures)
