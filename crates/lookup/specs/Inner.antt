-- Definitions that only inner functions cite: no exported contract reaches them.
-- Where a DC is stored.
use Rattle.std.specs.Prelude.{◌≡◌, ℕ, Some}
use Rattle.gdi.specs.declared.GdiState.{GdiState}
use Rattle.gdi.specs.declared.Dc.{Dc}
use Rattle.gdi.specs.declared.Spot.{Spot}
use Rattle.gdi.specs.Lookup.{dc_of}

-- the DC with the handle h is stored at the spot p
pub record HasDc (b : GdiState) (h : ℕ) (p : Spot) : Type 0 where
  pub dc : Dc
  pub found : dc_of b h ≡ Some (p, dc)
