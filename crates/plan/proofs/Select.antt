-- Select, the settings and moves change DC records alone; every surface stays in its place. Assumes nothing.
use Rattle.std.specs.Prelude.{Option, Some, None}
use mathlib.Core.Bool.{Bool, true, false, cond}
use mathlib.Core.List.{[]}
use mathlib.Core.Path.{◌≡◌, refl, sym, ◌∙◌}
use Prim.Native.Nat.{ℕ}
use Rattle.gdi.specs.declared.GdiState.{GdiState}
use Rattle.gdi.specs.declared.Dc.{Dc}
use Rattle.gdi.specs.declared.Kind.{Kind}
use Rattle.gdi.specs.declared.Kind.TheVariants.{Bitmap, Brush, Pen, Font, Other}
use Rattle.gdi.specs.declared.Spot.{Spot}
use Rattle.gdi.specs.declared.Spot.TheVariants.{Screen, Created}
use Rattle.gdi.specs.Record.{is_position}
use Rattle.gdi.specs.Lookup.{dc_of, kind_of}
use Rattle.gdi.specs.Updates.{with_dc}
use Rattle.sound.specs.Sound.{is_sound}
use Rattle.sound.proofs.Positions.{found_positioned}
use Rattle.place.proofs.Same.{Still, still_same, SameSoundness, updated_places, updated_sound}
use Rattle.plan.specs.Answer.{Parts, answered}
use Rattle.plan.specs.Plan.{Plan, record_only}
use Rattle.plan.specs.Select.{select_in, is_other, select_at, select_into}
use Rattle.plan.specs.Settings.{setting_at, setting}
use Rattle.plan.specs.declared.Point.{Point}
use Rattle.plan.specs.Lines.{moved_at, moved_to}

-- A plan that paints nothing and leaves every surface in its place.
pub record Unpainted (b : GdiState) (p : Plan) : Type 0 where
  pub paint : p.paint ≡ []
  pub still : Still b p.outcome.state

record_only_unpainted : (b : GdiState) (a : Parts) → Unpainted b (record_only b a)
record_only_unpainted b a = record { paint = refl; still = still_same b }

-- another DC record, as sound as the one before
module _ (b : GdiState) (dc : ℕ) {p : Spot} {d₀ : Dc} (d : Dc) (found : dc_of b dc ≡ Some (p, d₀)) (same : is_sound b ≡ true → SameSoundness d₀ d) where
  panel_kept : (p : Spot) → (with_dc b dc p d).panel_len ≡ b.panel_len
  panel_kept Screen = refl
  panel_kept (Created i) = refl

  store_kept : (p : Spot) → (with_dc b dc p d).store_len ≡ b.store_len
  store_kept Screen = refl
  store_kept (Created i) = refl

  updated_still : Still b (with_dc b dc p d)
  updated_still =
      record {
        places = updated_places b dc d found;
        sound = λ s. updated_sound b dc d s found (same s);
        panel_len = panel_kept p;
        store_len = store_kept p;
      }

-- the record with a DC at another position
pub moved_still : (b : GdiState) (dc : ℕ) (to : Point) → is_position to.x to.y ≡ true → Still b (moved_to b dc to)
moved_still b dc to near = by (dc_of b dc) refl
  where
    by : (q : Option (Spot × Dc)) → dc_of b dc ≡ q → Still b (moved_at b dc to q)
    by (Some (p, d)) e = updated_still b dc _ e (λ s. record { surface = refl; position = near ∙ sym (found_positioned b dc s e) })
    by None e = still_same b

pub select_same : (d : Dc) (h : ℕ) (k : Kind) → SameSoundness d (select_in d h k)
select_same d h Bitmap = record { surface = refl; position = refl }
select_same d h (Brush c) = record { surface = refl; position = refl }
select_same d h (Pen c) = record { surface = refl; position = refl }
select_same d h Font = record { surface = refl; position = refl }
select_same d h Other = record { surface = refl; position = refl }

pub select_unpainted : (b : GdiState) (dc h : ℕ) → Unpainted b (select_into b dc h)
unfolding select_into
select_unpainted b dc h = by (is_other (kind_of b h)) (dc_of b dc) refl
  where
    by : (t : Bool) (q : Option (Spot × Dc)) → dc_of b dc ≡ q → Unpainted b (cond t (record_only b (answered 0)) (select_at b dc h (kind_of b h) q))
    by true q e = record_only_unpainted b _
    by false (Some (p, d)) e = record { paint = refl; still = updated_still b dc _ e (λ s. select_same d h (kind_of b h)) }
    by false None e = record_only_unpainted b _

pub setting_unpainted : (old : Dc → Parts) (new : Dc → Dc) → ((d : Dc) → SameSoundness d (new d)) → (b : GdiState) (dc : ℕ) → Unpainted b (setting old new b dc)
unfolding setting
setting_unpainted old new same b dc = by (dc_of b dc) refl
  where
    by : (q : Option (Spot × Dc)) → dc_of b dc ≡ q → Unpainted b (setting_at old new b dc q)
    by (Some (p, d)) e = record { paint = refl; still = updated_still b dc _ e (λ s. same d) }
    by None e = record_only_unpainted b _
