-- Memories that are equal except at tainted pixels, and memories lent with a ready record. Assumes nothing.
use mathlib.Core.Bool.{true}
use mathlib.Core.Path.{◌≡◌, sym, subst}
use Prim.Native.Nat.{ℕ}
use lib.ListN.{length}
use Rattle.gdi.specs.declared.GdiState.{GdiState}
use Rattle.ready.proofs.Ready.{Ready}
use Rattle.place.specs.declared.SurfaceId.{SurfaceId}
use Rattle.place.specs.declared.Place.{Place}
use Rattle.place.specs.Place.{where_is, Within}
use Rattle.place.proofs.Apart.{places}
use Rattle.place.proofs.Same.{SamePlaces}
use Rattle.paint.specs.Memories.{Memories, colour_at}
use Rattle.paint.specs.Taint.{Taint}
use Rattle.paint.specs.Memories.{has_pixel}

-- every untainted pixel of the record has the same colour in both
abbrev pub Alike : GdiState → Taint → (ms ns : Memories) → Type 0
Alike b m ms ns = (u : SurfaceId) (x y : ℕ) → has_pixel (where_is b u) x y ≡ true → (m u x y → ⊥) → colour_at ms (where_is b u) x y ≡ colour_at ns (where_is b u) x y

-- the record is ready, lent with these memories
abbrev pub ReadyWith : GdiState → Memories → Type 0
ReadyWith b ms = Ready b (length ms.panel) (length ms.store)

-- a place inside these memories
abbrev pub Fits : Memories → Place → Type 0
Fits ms at = Within (length ms.panel) (length ms.store) at

pub surface_fits : (b : GdiState) (ms : Memories) → ReadyWith b ms → (u : SurfaceId) → Fits ms (where_is b u)
surface_fits b ms l u = rw (l.panel, l.store) (places b l.sound u)

-- the same pixels, read through a record that has every surface in the same place
pub same_places : (b b' : GdiState) → SamePlaces b b' → (m : Taint) (ms ns : Memories) → Alike b m ms ns → Alike b' m ms ns
same_places b b' e m ms ns like u x y i n =
    subst (λ (at : Place). has_pixel at x y ≡ true → colour_at ms at x y ≡ colour_at ns at x y) (sym (e u)) (λ j. like u x y j n) i
