-- The cases of the lookup of a DC. Assumes nothing.
use Rattle.std.specs.Prelude.{Some, None}
use mathlib.Core.Path.{◌≡◌}
use Prim.Native.Nat.{ℕ}
use borrow.Author.Tests.{eq-eqb, ne_eqb}
use Rattle.gdi.specs.declared.Dc.{Dc}
use Rattle.gdi.specs.declared.GdiObject.TheVariants.{Dc as DcOf}
use Rattle.gdi.specs.declared.GdiState.{GdiState}
use Rattle.gdi.specs.declared.Spot.TheVariants.{Screen, Created}
use Rattle.gdi.specs.Lookup.{object_at, find_of, dc_of}

module _ (b : GdiState) (h : ℕ) where
  pub dc_screen : h ≡ 0xDEAD_0DC0 → Some (Screen, b.screen) ≡ dc_of b h
  unfolding dc_of
  dc_screen e = rw (eq-eqb _ _ e)

  module _ {i : ℕ} (ne : h ≡ 0xDEAD_0DC0 → ⊥) (f : find_of b h ≡ Some i) where
    pub dc_created : {d : Dc} → object_at b i ≡ DcOf d → Some (Created i, d) ≡ dc_of b h
    unfolding dc_of
    dc_created o = rw (ne_eqb _ _ ne, f, o)

  pub dc_none : (h ≡ 0xDEAD_0DC0 → ⊥) → find_of b h ≡ None → None ≡ dc_of b h
  unfolding dc_of
  dc_none ne f = rw (ne_eqb _ _ ne, f)
