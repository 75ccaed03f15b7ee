-- The cases of the create calls' plans. Assumes nothing.
use mathlib.Core.Bool.{Bool, true, false, cond}
use mathlib.Core.Path.{◌≡◌, refl}
use Prim.Native.Nat.{ℕ, ◌+◌, ◌<◌, ◌≤◌}
use native.Mathlib.Omega.{arith}
use lib.Dec.{eqb}
use borrow.Author.Tests.{eqb-false, le-leb, lt-leb, le-ltb, lt-ltb}
use Rattle.arithmetic.proofs.Test.{together}
use Rattle.surface.specs.Refusal.{side}
use Rattle.gdi.specs.declared.GdiState.{GdiState}
use Rattle.gdi.specs.declared.GdiObject.{GdiObject}
use Rattle.gdi.specs.Record.{bytes_of}
use Rattle.sound.specs.Sound.{object_fits, used}
use Rattle.plan.specs.Plan.{refuse}
use Rattle.plan.specs.Create.{creation, create_of, side_of, new_bitmap, create_bitmap}

-- a new object: refused with 5, refused with 7, created
module _ (b : GdiState) (o : GdiObject) where
  pub full_plan : 256 ≤ b.count → create_of b o ≡ refuse 5 b
  unfolding create_of
  full_plan le = rw (le-leb _ _ le)

  module _ (few : b.count < 256) where
    pub short_plan : b.store_len < used b + bytes_of o → create_of b o ≡ refuse 7 b
    unfolding create_of
    short_plan lt = rw (lt-leb _ _ few, lt-ltb _ _ lt)

    pub creation_plan : used b + bytes_of o ≤ b.store_len → create_of b o ≡ creation b o
    unfolding create_of
    creation_plan le = rw (lt-leb _ _ few, le-ltb _ _ le)

-- a new bitmap: its sides; refused with 6, or created as any object
pub side_fits : (n : ℕ) → n ≤ 4096 → side (side_of n) ≡ true
side_fits n le = by (eqb n 0) refl
  where
    by : (t : Bool) → eqb n 0 ≡ t → side (cond t 1 n) ≡ true
    by true e = refl
    by false e = rw (le-leb 1 n (omega (arith, eqb-false n 0 e)), le-leb n 4096 le)

module _ (w h : ℕ) where
  pub bitmap_fits : w ≤ 4096 → h ≤ 4096 → object_fits (new_bitmap w h) ≡ true
  bitmap_fits wide high = together (side_fits w wide) (side_fits h high)

  module _ (b : GdiState) where
    pub wide_plan : 4096 < w → create_bitmap b w h ≡ refuse 6 b
    unfolding create_bitmap
    wide_plan lt = rw (lt-ltb _ _ lt)

    pub high_plan : w ≤ 4096 → 4096 < h → create_bitmap b w h ≡ refuse 6 b
    unfolding create_bitmap
    high_plan wide lt = rw (le-ltb _ _ wide, lt-ltb _ _ lt)

    pub bitmap_plan : w ≤ 4096 → h ≤ 4096 → create_bitmap b w h ≡ create_of b (new_bitmap w h)
    unfolding create_bitmap
    bitmap_plan wide high = rw (le-ltb _ _ wide, le-ltb _ _ high)
