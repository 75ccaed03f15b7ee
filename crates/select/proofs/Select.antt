-- The cases of a selection: no object to select, no DC, and the object selected into the DC. Assumes nothing.
use Rattle.std.specs.Prelude.{Some, None}
use mathlib.Core.Bool.{false}
use mathlib.Core.Path.{◌≡◌, refl, sym, ◌∙◌}
use Prim.Native.Nat.{ℕ}
use Rattle.gdi.specs.declared.Dc.{Dc}
use Rattle.gdi.specs.declared.GdiState.{GdiState}
use Rattle.gdi.specs.declared.Kind.{Kind}
use Rattle.gdi.specs.declared.Kind.TheVariants.{Bitmap, Brush, Pen, Font, Other}
use Rattle.gdi.specs.declared.Spot.{Spot}
use Rattle.gdi.specs.Lookup.{dc_of, kind_of}
use Rattle.gdi.specs.Updates.{with_dc}
use Rattle.plan.specs.Answer.{answered}
use Rattle.plan.specs.Plan.{record_only}
use Rattle.plan.specs.Select.{is_other, select_in, selected_of, select_into}

-- any kind but the last can be selected
not_other : (k : Kind) → (k ≡ Other → ⊥) → is_other k ≡ false
not_other Bitmap n = refl
not_other (Brush c) n = refl
not_other (Pen c) n = refl
not_other Font n = refl
not_other Other n = absurd (n refl)

module _ (b : GdiState) (dc h : ℕ) {k : Kind} (f : k ≡ kind_of b h) where
  pub select_other : k ≡ Other → select_into b dc h ≡ record_only b (answered 0)
  unfolding select_into
  select_other e = rw (sym f ∙ e)

  module _ (n : k ≡ Other → ⊥) where
    pub select_no_dc : dc_of b dc ≡ None → select_into b dc h ≡ record_only b (answered 0)
    unfolding select_into
    select_no_dc e = rw (← f, not_other k n, e)

    pub select_tied : {p : Spot} {d d' : Dc} {old : ℕ} → dc_of b dc ≡ Some (p, d) → old ≡ selected_of d k → d' ≡ select_in d h k → select_into b dc h ≡ record_only (with_dc b dc p d') (answered old)
    unfolding select_into
    select_tied e o i = rw (← f, not_other k n, e, i, o)
