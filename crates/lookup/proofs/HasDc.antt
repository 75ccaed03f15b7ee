-- Where a DC that was found is stored. Assumes nothing.
use Rattle.std.specs.Prelude.{Option, Some}
use mathlib.Core.Path.{◌≡◌, sym, ◌∙◌}
use Prim.Native.Nat.{ℕ}
use Rattle.gdi.specs.declared.Dc.{Dc}
use Rattle.gdi.specs.declared.GdiState.{GdiState}
use Rattle.gdi.specs.declared.Spot.{Spot}
use Rattle.gdi.specs.Lookup.{dc_of}
use Rattle.lookup.specs.Inner.{HasDc}

-- the DC that was found is stored at its spot
pub has_dc : {b : GdiState} {h : ℕ} {q : Option (Spot × Dc)} {p : Spot} {d : Dc} → q ≡ dc_of b h → q ≡ Some (p, d) → HasDc b h p
has_dc {d = d} e f = record { dc = d; found = sym e ∙ f }
