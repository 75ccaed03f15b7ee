-- Definitions that only inner functions cite: no exported contract reaches them.
-- A DC that was set.
use Rattle.std.specs.Prelude.{◌≡◌, List, ℕ, Some}
use Rattle.gdi.specs.declared.Dc.{Dc}
use Rattle.gdi.specs.declared.Spot.{Spot}
use Rattle.gdi.specs.Lookup.{dc_of}
use Rattle.gdi.specs.Updates.{with_dc}
use Rattle.numbers.specs.View.{view, Updated}

-- the DC with the handle h was found, and stands changed where it was
pub record SetIn (Changed : (before after : Dc) → Type 0) (l : List ℕ) (h : ℕ) (l' : List ℕ) : Type 0 where
  pub spot : Spot
  pub before : Dc
  pub after : Dc
  pub found : dc_of (view l) h ≡ Some (spot, before)
  pub changed : Changed before after
  pub stored : Updated l (with_dc (view l) h spot after) l'
