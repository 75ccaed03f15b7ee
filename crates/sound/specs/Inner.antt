-- Definitions that only inner functions cite: no exported contract reaches them.
-- One pass over the slots of a record's numbers.
use Rattle.std.specs.Prelude.{true, false, ◌&&◌, List, Option, ◌≡◌, ℕ, MatchOption}
use Rattle.numbers.specs.Layout.{count_place}
use Rattle.numbers.specs.Block.{at}
use Rattle.numbers.specs.View.{view}
use Rattle.well_formed.specs.Inner.{are_slots}
use Rattle.sound.specs.declared.Scan.{Scan}
use Rattle.sound.specs.Sound.{slots_fit, distinct, used}

-- what the pass has found at the end of the table; handles that ascend differ, others may differ too
pub record AllFit (l : List ℕ) (s : Scan) : Type 0 where
  pub slots : are_slots l (at l count_place) ≡ true
  pub fit : slots_fit (view l) ≡ true
  pub end : s.end ≡ used (view l)
  pub apart : s.ascending ≡ true → distinct (view l).objects (view l).count ≡ true

-- The result of the pass: none if a slot is malformed, or its object or handle unsound, and only then.
abbrev pub Scanned : List ℕ → Option Scan → Type 0
Scanned l s = MatchOption s ((are_slots l (at l count_place) && slots_fit (view l)) ≡ false) (AllFit l)
