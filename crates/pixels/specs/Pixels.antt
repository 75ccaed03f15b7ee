-- A DC's pixels: a part of the panel memory or of the store.
use Rattle.std.specs.Prelude.{cond, List, ◌≡◌, ℕ, ◌+◌, eqb, length, Result, Ok, Err}
use Rattle.numbers.specs.View.{view}
use Rattle.ready.specs.Ready.{common_refusal_on}
use Rattle.place.specs.declared.Memory.TheVariants.{Panel, Store}
use Rattle.place.specs.declared.Place.{Place}
use Rattle.place.specs.declared.Place.TheVariants.{Nowhere, At}
use Rattle.place.specs.declared.NoTarget.{NoTarget}
use Rattle.place.specs.declared.Target.{Target}
use Rattle.place.specs.declared.NoTarget.TheVariants.{NoDc, NoSurface}
use Rattle.place.specs.Place.{target_of, Within, on}
use Rattle.paint.specs.Memories.{Memories, pixels_at}

abbrev pub place_on : Result Target NoTarget → Place
place_on (Err NoDc) = Nowhere
place_on (Err NoSurface) = Nowhere
place_on (Ok t) = t.site.at

-- where a DC's pixels lie; nowhere where a drawing would be refused with 9, 8, 1 or 2
unfoldable pub place_of : (l : List ℕ) → (panel_len store_len dc : ℕ) → Place
place_of l n k dc = cond (eqb (common_refusal_on l n k) 0) (place_on (target_of (view l) dc)) Nowhere

-- a DC's pixels
abbrev pub pixels_of : (l : List ℕ) → Memories → ℕ → List ℕ
pixels_of l ms dc = pixels_at ms (place_of l (length ms.panel) (length ms.store) dc)

-- the machine address of the first byte at a place, as a block and an offset, given those of the two memories; an empty slice
-- points to the start of the panel memory
abbrev pub pointer_at : (panel store : ℕ × ℕ) → Place → ℕ × ℕ
pointer_at a b Nowhere = a
pointer_at a b (At Panel p w h) = (a.0, p + a.1)
pointer_at a b (At Store p w h) = (b.0, p + b.1)

-- r is the DC's place, and lies inside its memory
pub record Found (l : List ℕ) (panel_len store_len dc : ℕ) (r : Place) : Type 0 where
  pub same : r ≡ place_of l panel_len store_len dc
  pub within : Within panel_len store_len r
