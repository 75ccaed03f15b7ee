-- The cases of the surface that a DC paints. Assumes nothing.
use Rattle.std.specs.Prelude.{Option, Some, None, Result, Err, Ok}
use mathlib.Core.Bool.{true}
use mathlib.Core.Path.{◌≡◌, refl, sym, ◌∙◌, ap, ap₂, subst, subst₂}
use Prim.Native.Nat.{ℕ}
use native.Mathlib.Omega.{arith}
use Rattle.gdi.specs.declared.GdiState.{GdiState}
use Rattle.gdi.specs.declared.Dc.{Dc}
use Rattle.gdi.specs.declared.Spot.{Spot}
use Rattle.gdi.specs.declared.Spot.TheVariants.{Screen, Created}
use Rattle.gdi.specs.Lookup.{dc_of}
use Rattle.sound.specs.Sound.{is_sound}
use Rattle.place.specs.declared.Memory.{Memory}
use Rattle.place.specs.declared.Place.{Place}
use Rattle.place.specs.declared.Place.TheVariants.{Nowhere, At}
use Rattle.place.specs.declared.Site.{Site}
use Rattle.place.specs.declared.SurfaceId.{SurfaceId}
use Rattle.place.specs.declared.SurfaceId.TheVariants.{Panel, Bitmap}
use Rattle.place.specs.declared.NoTarget.{NoTarget}
use Rattle.place.specs.declared.Target.{Target}
use Rattle.place.specs.declared.NoTarget.TheVariants.{NoDc, NoSurface}
use Rattle.place.specs.Place.{where_is, site_of, unless_nowhere, on_selected, target_found, target_of, on}
use Rattle.place.specs.Inner.{SiteFound}
use Rattle.place.proofs.Apart.{places}

-- a DC that was found at p
module _ (b : GdiState) (d : Dc) {p : Spot} where
  at_spot : (s : Spot) → p ≡ s → target_found b (Some (s, d)) ≡ target_found b (Some (p, d))
  at_spot s g = ap (λ (z : Spot). target_found b (Some (z, d))) (sym g)

  pub on_screen : p ≡ Screen → {r : Site} → SiteFound b Panel r → on Panel r d ≡ target_found b (Some (p, d))
  on_screen g w = ap (λ (i : Site). on Panel i d) w.same ∙ at_spot Screen g

  module _ {i : ℕ} (g : p ≡ Created i) where
    pub unset : d.selected_bitmap ≡ None → (Err NoSurface) ≡ target_found b (Some (p, d))
    unset k = ap (on_selected b d) (sym k) ∙ at_spot (Created i) g

    module _ {h : ℕ} (k : d.selected_bitmap ≡ Some h) {r : Site} (w : SiteFound b (Bitmap h) r) where
      chosen : (z : Place) → r.at ≡ z → unless_nowhere z (on (Bitmap h) r d) ≡ target_found b (Some (p, d))
      chosen z l =
          ap₂ (λ (v : Place) (x : Site). unless_nowhere v (on (Bitmap h) x d)) (sym l ∙ ap (λ (x : Site). x.at) w.same) w.same
          ∙ ap (on_selected b d) (sym k) ∙ at_spot (Created i) g

      pub gone : r.at ≡ Nowhere → (Err NoSurface) ≡ target_found b (Some (p, d))
      gone l = chosen Nowhere l

      pub on_bitmap : {m : Memory} {a x y : ℕ} → r.at ≡ At m a x y → on (Bitmap h) r d ≡ target_found b (Some (p, d))
      on_bitmap l = chosen (At _ _ _ _) l

-- the surface that a DC paints is that of the DC that was found
pub found_target : (b : GdiState) (dc : ℕ) {q : Option (Spot × Dc)} {t : Result Target NoTarget} → dc_of b dc ≡ q → t ≡ target_found b q → t ≡ target_of b dc
unfolding target_of
found_target b dc e f = f ∙ ap (target_found b) (sym e)

-- a target that is found one way and another is the same
pub same_target : {s u : SurfaceId} {i j : Site} {d e : Dc} → on s i d ≡ on u j e → (s ≡ u) × (i ≡ j) × (d ≡ e)
same_target {s} {u} {i} {j} {d} {e} f =
    let t : ◌≡◌ {A = Target} (record { id = s; site = i; dc = d }) (record { id = u; site = j; dc = e }) = cc in
    (ap (λ (x : Target). x.id) t, ap (λ (x : Target). x.site) t, ap (λ (x : Target). x.dc) t)

-- the site of the surface that a DC paints
pub target_placed : (b : GdiState) → is_sound b ≡ true → (dc : ℕ) {t : Result Target NoTarget} → t ≡ target_of b dc → {s : SurfaceId} {i : Site} {d : Dc} → t ≡ on s i d → SiteFound b s i
unfolding target_of
target_placed b sound dc e {s} {i} {d} f = by (dc_of b dc) (sym e ∙ f)
  where
    whole : (u : SurfaceId) → SiteFound b u (site_of b u)
    whole u = record { same = refl; within = places b sound u }

    placed : (u : SurfaceId) (o : Dc) → on u (site_of b u) o ≡ on s i d → SiteFound b s i
    placed u o g = let same = same_target g in subst₂ (SiteFound b) same.0 same.1 (whole u)

    chosen : (h : ℕ) (o : Dc) (z : Place) → unless_nowhere z (on (Bitmap h) (site_of b (Bitmap h)) o) ≡ on s i d → SiteFound b s i
    chosen h o Nowhere g = let z : ◌≡◌ {A = ℕ} 0 1 = cc in absurd (omega arith)
    chosen h o (At m p w k) g = placed (Bitmap h) o g

    selected : (o : Dc) (x : Option ℕ) → on_selected b o x ≡ on s i d → SiteFound b s i
    selected o None g = let z : ◌≡◌ {A = ℕ} 0 1 = cc in absurd (omega arith)
    selected o (Some h) g = chosen h o (where_is b (Bitmap h)) g

    by : (q : Option (Spot × Dc)) → target_found b q ≡ on s i d → SiteFound b s i
    by (Some (Screen, o)) g = placed Panel o g
    by (Some (Created k, o)) g = selected o o.selected_bitmap g
    by None g = let z : ◌≡◌ {A = ℕ} 0 1 = cc in absurd (omega arith)

-- a target has the DC that was found
abbrev Has : Dc → Result Target NoTarget → Type 0
Has d (Err NoDc) = Unit
Has d (Err NoSurface) = Unit
Has d (Ok t) = t.dc ≡ d

pub target_dc : (b : GdiState) (p : Spot) (d : Dc) {t : Result Target NoTarget} → t ≡ target_found b (Some (p, d)) → {s : SurfaceId} {i : Site} {e : Dc} → t ≡ on s i e → e ≡ d
target_dc b p d f g = subst (λ (t : Result Target NoTarget). Has d t) (sym f ∙ g) (by p)
  where
    chosen : (h : ℕ) (z : Place) → Has d (unless_nowhere z (on (Bitmap h) (site_of b (Bitmap h)) d))
    chosen h Nowhere = tt
    chosen h (At m a x y) = refl

    selected : (x : Option ℕ) → Has d (on_selected b d x)
    selected None = tt
    selected (Some h) = chosen h (where_is b (Bitmap h))

    by : (q : Spot) → Has d (target_found b (Some (q, d)))
    by Screen = refl
    by (Created k) = selected d.selected_bitmap
