-- Every DC of a sound record has a position in its range. Assumes nothing.
use Rattle.std.specs.Prelude.{Option, Some, None}
use mathlib.Core.Bool.{Bool, true, false, cond}
use mathlib.Core.Path.{◌≡◌, refl, subst}
use Prim.Native.Nat.{ℕ}
use lib.Dec.{eqb}
use Rattle.arithmetic.proofs.Test.{both}
use Rattle.gdi.specs.declared.Dc.{Dc}
use Rattle.gdi.specs.declared.GdiObject.{GdiObject}
use Rattle.gdi.specs.declared.GdiObject.TheVariants.{Dc as DcOf, Bitmap, Brush, Pen, Font}
use Rattle.gdi.specs.declared.GdiState.{GdiState}
use Rattle.gdi.specs.declared.Spot.{Spot}
use Rattle.gdi.specs.declared.Spot.TheVariants.{Screen}
use Rattle.gdi.specs.Lookup.{object_at, find_of, dc_at, dc_found, dc_of}
use Rattle.gdi.proofs.Scan.{found_count}
use Rattle.sound.specs.Sound.{is_memory, positioned, object_fits, is_sound}
use Rattle.sound.proofs.Sound.{Sound, parts, fits_at}

-- the DC that was found, if one was
abbrev Positioned : Option (Spot × Dc) → Type 0
Positioned (Some (p, d)) = positioned d ≡ true
Positioned None = Unit

any_positioned : {b : GdiState} → Sound b → (h : ℕ) → Positioned (dc_of b h)
unfolding dc_of
any_positioned {b} s h = by_test (eqb h 0xDEAD_0DC0)
  where
    by_object : (i : ℕ) (o : GdiObject) → object_fits o ≡ true → Positioned (dc_at i o)
    by_object i (DcOf d) e = (both (is_memory d.surface) (positioned d) e).1
    by_object i (Bitmap x) e = tt
    by_object i (Brush x) e = tt
    by_object i (Pen x) e = tt
    by_object i (Font x) e = tt

    by_found : (q : Option ℕ) → find_of b h ≡ q → Positioned (dc_found b q)
    by_found (Some i) e = by_object i (object_at b i) (fits_at s i (found_count b h e))
    by_found None e = tt

    by_test : (t : Bool) → Positioned (cond t (Some (Screen, b.screen)) (dc_found b (find_of b h)))
    by_test true = s.screen
    by_test false = by_found (find_of b h) refl

pub found_positioned : (b : GdiState) (h : ℕ) {p : Spot} {d : Dc} → is_sound b ≡ true → dc_of b h ≡ Some (p, d) → positioned d ≡ true
found_positioned b h s e = subst (λ (q : Option (Spot × Dc)). Positioned q) e (any_positioned (parts b s) h)
