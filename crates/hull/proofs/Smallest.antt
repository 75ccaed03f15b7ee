-- A region has one smallest box, and the hull is it. Assumes nothing.
use mathlib.Core.Bool.{Bool, true, false, true≢false}
use mathlib.Core.Path.{◌≡◌, refl, sym, ◌∙◌}
use Prim.Native.Nat.{ℕ, ◌-◌, ◌≤◌}
use native.Mathlib.Omega.{arith}
use Rattle.arithmetic.specs.Test.{any_below}
use Rattle.arithmetic.proofs.Test.{any_at, any_some}
use Rattle.hull.specs.declared.Bounds.{Bounds}
use Rattle.hull.specs.Hull.{first_where, end, in_column, in_row, corners, hull}
use Rattle.hull.specs.Smallest.{Pixel, HoldsAll, Touched, Smallest, none, some}
use Rattle.hull.proofs.Axis.{At, first_at, last_at}

-- a reaches no further than b on any side
pub record Within (a b : Bounds) : Type 0 where
  pub left : b.left ≤ a.left
  pub top : b.top ≤ a.top
  pub right : a.right ≤ b.right
  pub bottom : a.bottom ≤ b.bottom

equal_boxes : (a b : Bounds) → Within a b → Within b a → a ≡ b
equal_boxes a b p q =
    let l : a.left ≡ b.left = omega arith in
    let t : a.top ≡ b.top = omega arith in
    let r : a.right ≡ b.right = omega arith in
    let e : a.bottom ≡ b.bottom = omega arith in
    let same : corners a.left a.top a.right a.bottom ≡ corners b.left b.top b.right b.bottom = rw (l, t, r, e) in
    same

-- pixels of one region that are pixels of another
module _ {p q : ℕ → ℕ → Bool} {w h : ℕ} where
  pub pixel_as : {c r : ℕ} → Pixel p w h c r → q c r ≡ true → Pixel q w h c r
  pixel_as x e = record { on_column = x.on_column; on_row = x.on_row; drawn = e }

  pub touched_as : {b : Bounds} → ((c r : ℕ) → Pixel p w h c r → q c r ≡ true) → Touched p w h b → Touched q w h b
  touched_as {b} f t =
      record {
        on_left = column b.left t.on_left;
        on_top = row b.top t.on_top;
        on_right = column (b.right - 1) t.on_right;
        on_bottom = row (b.bottom - 1) t.on_bottom;
      }
    where
      column : (c : ℕ) → ((r : ℕ) × Pixel p w h c r) → (r : ℕ) × Pixel q w h c r
      column c x = (x.0, pixel_as x.1 (f c x.0 x.1))

      row : (r : ℕ) → ((c : ℕ) × Pixel p w h c r) → (c : ℕ) × Pixel q w h c r
      row r x = (x.0, pixel_as x.1 (f x.0 r x.1))

module _ {region : ℕ → ℕ → Bool} {w h : ℕ} where
  -- a box with a pixel on each side lies in every box that holds all pixels
  pub touched_within : (a b : Bounds) → Touched region w h a → HoldsAll region w h b → Within a b
  touched_within a b t all =
      let l = all.at a.left t.on_left.0 t.on_left.1 in
      let u = all.at t.on_top.0 a.top t.on_top.1 in
      let r = all.at (a.right - 1) t.on_right.0 t.on_right.1 in
      let e = all.at t.on_bottom.0 (a.bottom - 1) t.on_bottom.1 in
      record { left = l.from_left; top = u.from_top; right = omega (arith, r.to_right); bottom = omega (arith, e.to_bottom) }

  pub one_smallest : {a b : Bounds} → Smallest region w h a → Smallest region w h b → a ≡ b
  one_smallest (none p e) (none q f) = e ∙ sym f
  one_smallest {a} {b} (none p e) (some all t) = absurd (p b.left t.on_left.0 t.on_left.1)
  one_smallest {a} {b} (some all t) (none q f) = absurd (q a.left t.on_left.0 t.on_left.1)
  one_smallest {a} {b} (some all t) (some all' t') = equal_boxes a b (touched_within a b t all') (touched_within b a t' all)

module _ (region : ℕ → ℕ → Bool) (w h : ℕ) where
  -- the column and the row of a pixel
  pixel_column : {c r : ℕ} → Pixel region w h c r → At w (in_column region h) c
  pixel_column {c} {r} p = (p.on_column, any_at h (λ y. region c y) r p.on_row p.drawn)

  pixel_row : {c r : ℕ} → Pixel region w h c r → At h (in_row region w) r
  pixel_row {c} {r} p = (p.on_row, any_at w (λ x. region x r) c p.on_column p.drawn)

  -- and a pixel in them
  column_pixel : (c : ℕ) → At w (in_column region h) c → (r : ℕ) × Pixel region w h c r
  column_pixel c a =
      let p = any_some h (λ y. region c y) a.1 in
      (p.0, record { on_column = a.0; on_row = p.1.0; drawn = p.1.1 })

  row_pixel : (r : ℕ) → At h (in_row region w) r → (c : ℕ) × Pixel region w h c r
  row_pixel r a =
      let p = any_some w (λ x. region x r) a.1 in
      (p.0, record { on_column = p.1.0; on_row = a.0; drawn = p.1.1 })

  abbrev around : Bounds
  around = corners (first_where w (in_column region h)) (first_where h (in_row region w)) (end w (in_column region h)) (end h (in_row region w))

  around_holds : HoldsAll region w h around
  around_holds = record {
    at = λ c r p. record {
      from_left = (first_at w (in_column region h) c (pixel_column p)).0;
      from_top = (first_at h (in_row region w) r (pixel_row p)).0;
      to_right = (last_at w (in_column region h) c (pixel_column p)).0;
      to_bottom = (last_at h (in_row region w) r (pixel_row p)).0;
    };
  }

  around_touched : {c r : ℕ} → Pixel region w h c r → Touched region w h around
  around_touched {c} {r} p = record {
    on_left = column_pixel (first_where w (in_column region h)) (first_at w (in_column region h) c (pixel_column p)).1;
    on_top = row_pixel (first_where h (in_row region w)) (first_at h (in_row region w) r (pixel_row p)).1;
    on_right = column_pixel (end w (in_column region h) - 1) (last_at w (in_column region h) c (pixel_column p)).1;
    on_bottom = row_pixel (end h (in_row region w) - 1) (last_at h (in_row region w) r (pixel_row p)).1;
  }

  pub hull_smallest : Smallest region w h (hull region w h)
  unfolding hull
  hull_smallest = by (any_below w (in_column region h)) refl
    where
      by : (t : Bool) → any_below w (in_column region h) ≡ t → Smallest region w h (hull region w h)
      by true e =
          let s = any_some w (in_column region h) e in
          let p = column_pixel s.0 s.1 in
          rw e (some around_holds (around_touched p.1))
      by false e = rw e (none (λ c r p. true≢false (sym (any_at w (in_column region h) c (pixel_column p).0 (pixel_column p).1) ∙ e)) refl)

  -- so a box that is the smallest is the hull
  pub is_hull : {b : Bounds} → Smallest region w h b → b ≡ hull region w h
  is_hull s = one_smallest s hull_smallest
