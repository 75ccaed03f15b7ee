-- Laws of the scan for a handle: its steps, and what it finds. Assumes nothing.
use Rattle.std.specs.Prelude.{Option, Some, None}
use mathlib.Core.Bool.{Bool, true, false, cond}
use mathlib.Core.List.{List}
use mathlib.Core.Path.{◌≡◌, refl, sym, ◌∙◌, ap}
use Prim.Native.Nat.{ℕ, zero, suc, ◌+◌, ◌-◌, ◌<◌, ◌≤◌}
use native.Mathlib.Numerals.{add-one}
use native.Mathlib.Omega.{arith}
use lib.Dec.{eqb}
use borrow.Author.Tests.{eq-eqb, ne_eqb, eqb-true}
use Rattle.gdi.specs.declared.Dc.{Dc}
use Rattle.gdi.specs.declared.Slot.{Slot}
use Rattle.gdi.specs.declared.GdiObject.{GdiObject}
use Rattle.gdi.specs.declared.GdiObject.TheVariants.{Dc as DcOf, Bitmap, Brush, Pen, Font}
use Rattle.gdi.specs.declared.GdiState.{GdiState}
use Rattle.gdi.specs.declared.Spot.{Spot}
use Rattle.gdi.specs.declared.Spot.TheVariants.{Screen, Created}
use Rattle.gdi.specs.Lookup.{handle_at, object_at, scan, find_of, dc_at, dc_found, dc_of}

-- the steps of the scan, as the loop of `find` makes them
module _ (l : List Slot) (h i n : ℕ) where
  pub hit : i < n → handle_at l i ≡ h → scan l h i (n - i) ≡ Some i
  unfolding scan
  hit lt e = let m : n - i ≡ suc (n - (i + 1)) = omega arith in rw (m, eq-eqb _ _ e)

  pub miss : i < n → (handle_at l i ≡ h → ⊥) → scan l h i (n - i) ≡ scan l h (i + 1) (n - (i + 1))
  unfolding scan
  miss lt e = let m : n - i ≡ suc (n - (i + 1)) = omega arith in rw (m, ne_eqb _ _ e, add-one)

  pub end : n ≤ i → scan l h i (n - i) ≡ None
  unfolding scan
  end le = let m : n - i ≡ 0 = omega arith in rw m

  pub start : i ≡ 0 → scan l h 0 (n - 0) ≡ scan l h 0 n
  start z = let m : n - 0 ≡ n = omega arith in rw m

-- the scan depends on the handles alone
pub scan_same : (l l' : List Slot) (h k m : ℕ) → ((j : ℕ) → handle_at l' j ≡ handle_at l j) → scan l' h k m ≡ scan l h k m
unfolding scan
scan_same l l' h k zero e = refl
scan_same l l' h k (suc m) e = rw (e k, scan_same l l' h (suc k) m e)

-- the slot that is found is before the end
pub scan_below : (l : List Slot) (h k : ℕ) {i : ℕ} (m : ℕ) → scan l h k m ≡ Some i → i < k + m
unfolding scan
scan_below l h k {i} zero e = let z : ◌≡◌ {A = ℕ} 0 1 = cc in omega arith
scan_below l h k {i} (suc m) e = by (eqb (handle_at l k) h) e (λ f. scan_below l h (suc k) m f)
  where
    by : (t : Bool) → cond t (Some k) (scan l h (suc k) m) ≡ Some i → (scan l h (suc k) m ≡ Some i → i < suc k + m) → i < k + suc m
    by true f rec = let z : k ≡ i = cc in omega arith
    by false f rec = omega (arith, rec f)

-- the slot that is found has the handle
pub scan_handle : (l : List Slot) (h k m : ℕ) {i : ℕ} → scan l h k m ≡ Some i → handle_at l i ≡ h
unfolding scan
scan_handle l h k zero e = let z : ◌≡◌ {A = ℕ} 0 1 = cc in absurd (omega arith)
scan_handle l h k (suc m) {i} e = by (eqb (handle_at l k) h) refl e (λ f. scan_handle l h (suc k) m f)
  where
    by : (t : Bool) → eqb (handle_at l k) h ≡ t → cond t (Some k) (scan l h (suc k) m) ≡ Some i → (scan l h (suc k) m ≡ Some i → handle_at l i ≡ h) → handle_at l i ≡ h
    by true q f rec = let z : k ≡ i = cc in rw (← z) (eqb-true _ _ q)
    by false q f rec = rec f

pub found_count : (b : GdiState) (h : ℕ) {i : ℕ} → find_of b h ≡ Some i → i < b.count
found_count b h e = omega (arith, scan_below b.objects h 0 b.count e)

-- a DC that is found one way and another is the same DC, in the same place
pub same_found : {p q : Spot} {d x : Dc} → ◌≡◌ {A = Option (Spot × Dc)} (Some (p, d)) (Some (q, x)) → (p ≡ q) × (d ≡ x)
same_found {p} {q} {d} {x} e =
    let f : ◌≡◌ {A = Spot × Dc} (p, d) (q, x) = cc in
    (ap (λ (z : Spot × Dc). z.0) f, ap (λ (z : Spot × Dc). z.1) f)

-- a created DC is in the slot of its handle
pub dc_found_lem : (b : GdiState) (h : ℕ) {i : ℕ} {d : Dc} → dc_of b h ≡ Some (Created i, d) → (find_of b h ≡ Some i) × (object_at b i ≡ DcOf d)
unfolding dc_of
dc_found_lem b h {i} {d} e = by_test (eqb h 0xDEAD_0DC0) e
  where
    by_object : (j : ℕ) (o : GdiObject) → dc_at j o ≡ Some (Created i, d) → (j ≡ i) × (o ≡ DcOf d)
    by_object j (DcOf x) f = let r = same_found f in (let g = r.0 in cc, let g = r.1 in cc)
    by_object j (Bitmap x) f = let z : ◌≡◌ {A = ℕ} 0 1 = cc in absurd (omega arith)
    by_object j (Brush x) f = let z : ◌≡◌ {A = ℕ} 0 1 = cc in absurd (omega arith)
    by_object j (Pen x) f = let z : ◌≡◌ {A = ℕ} 0 1 = cc in absurd (omega arith)
    by_object j (Font x) f = let z : ◌≡◌ {A = ℕ} 0 1 = cc in absurd (omega arith)

    by_found : (q : Option ℕ) → find_of b h ≡ q → dc_found b q ≡ Some (Created i, d) → (find_of b h ≡ Some i) × (object_at b i ≡ DcOf d)
    by_found (Some j) g f =
        let r = by_object j (object_at b j) f in
        (g ∙ ap Some r.0, ap (object_at b) (sym r.0) ∙ r.1)
    by_found None g f = let z : ◌≡◌ {A = ℕ} 0 1 = cc in absurd (omega arith)

    by_test : (t : Bool) → cond t (Some (Screen, b.screen)) (dc_found b (find_of b h)) ≡ Some (Created i, d)
        → (find_of b h ≡ Some i) × (object_at b i ≡ DcOf d)
    by_test true f = let g = (same_found f).0 in let z : ◌≡◌ {A = ℕ} 0 1 = cc in absurd (omega arith)
    by_test false f = by_found (find_of b h) refl f

-- the screen DC is the record's own
pub screen_found : (b : GdiState) (h : ℕ) {d : Dc} → dc_of b h ≡ Some (Screen, d) → b.screen ≡ d
unfolding dc_of
screen_found b h {d} e = by_test (eqb h 0xDEAD_0DC0) e
  where
    by_object : (j : ℕ) (o : GdiObject) → dc_at j o ≡ Some (Screen, d) → ⊥
    by_object j (DcOf x) f = let g = (same_found f).0 in let z : ◌≡◌ {A = ℕ} 0 1 = cc in omega arith
    by_object j (Bitmap x) f = let z : ◌≡◌ {A = ℕ} 0 1 = cc in omega arith
    by_object j (Brush x) f = let z : ◌≡◌ {A = ℕ} 0 1 = cc in omega arith
    by_object j (Pen x) f = let z : ◌≡◌ {A = ℕ} 0 1 = cc in omega arith
    by_object j (Font x) f = let z : ◌≡◌ {A = ℕ} 0 1 = cc in omega arith

    by_found : (q : Option ℕ) → dc_found b q ≡ Some (Screen, d) → ⊥
    by_found (Some j) f = by_object j (object_at b j) f
    by_found None f = let z : ◌≡◌ {A = ℕ} 0 1 = cc in omega arith

    by_test : (t : Bool) → cond t (Some (Screen, b.screen)) (dc_found b (find_of b h)) ≡ Some (Screen, d) → b.screen ≡ d
    by_test true f = (same_found f).1
    by_test false f = absurd (by_found (find_of b h) f)
