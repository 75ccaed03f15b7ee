-- The hulls of what a loop draws: rows of pixels, single pixels, regions one after another, and a line by its ends. Assumes nothing.
use mathlib.Core.Bool.{Bool, true, ◌&&◌}
use mathlib.Core.Path.{◌≡◌}
use Prim.Native.Nat.{ℕ, ◌+◌, ◌-◌, ◌≤◌, ◌<◌, min, max}
use native.Mathlib.Omega.{arith}
use Rattle.arithmetic.specs.Interval.{between}
use Rattle.arithmetic.specs.Test.{any_below}
use Rattle.arithmetic.proofs.Interval.{between_yes, bounds}
use Rattle.arithmetic.proofs.Test.{both, together, any_more}
use Rattle.hull.specs.declared.Bounds.{Bounds}
use Rattle.hull.specs.Hull.{first_where, end, corners, hull}
use Rattle.hull.specs.Inner.{join, spanning}
use Rattle.hull.specs.Smallest.{Pixel, Touched, some}
use Rattle.hull.proofs.Axis.{At, first_at, last_at}
use Rattle.hull.proofs.Smallest.{is_hull}
use Rattle.hull.proofs.Union.{of_min, of_max}
use Rattle.hull.proofs.Hull.{hull_part}

-- Pixels of row y alone, of which the first is at column x0 and the last before x1; there may be gaps between them.
pub record Row (part : ℕ → ℕ → Bool) (w h x0 x1 y : ℕ) : Type 0 where
  pub fits : x1 ≤ w
  pub on : y < h
  pub order : x0 < x1
  pub starts : part x0 y ≡ true
  pub ends : part (x1 - 1) y ≡ true
  pub only : (c r : ℕ) → Pixel part w h c r → ((x0 ≤ c) × (c < x1)) × (r ≡ y)

module _ {part : ℕ → ℕ → Bool} {w h x0 x1 y : ℕ} (row : Row part w h x0 x1 y) where
  pub hull_row : corners x0 y x1 (y + 1) ≡ hull part w h
  hull_row = is_hull part w h
      (some
      (record { at = λ c r x. let i = row.only c r x in omega arith })
      (record {
        on_left = (y, start);
        on_top = (x0, start);
        on_right = (y, record { on_column = omega arith; on_row = row.on; drawn = row.ends });
        on_bottom = (x0, rw below start);
      }))
    where
      start : Pixel part w h x0 y
      start = record { on_column = omega arith; on_row = row.on; drawn = row.starts }

      below : y + 1 - 1 ≡ y
      below = omega arith

-- pixels at x0 + k of row y for each k below n at which f holds, as in a row of a glyph
abbrev pub dotted : (x0 n y : ℕ) → (f : ℕ → Bool) → (c r : ℕ) → Bool
dotted x0 n y f c r = (between x0 (x0 + n) c && f (c - x0)) && between y (y + 1) r

module _ (w h x0 n y : ℕ) (f : ℕ → Bool) (k : ℕ) (at : At n f k) where
  pub dotted_row : x0 + n ≤ w → y < h → Row (dotted x0 n y f) w h (x0 + first_where n f) (x0 + end n f) y
  dotted_row p q =
      let a = first_at n f k at in
      let b = last_at n f k at in
      record {
        fits = omega arith;
        on = q;
        order = omega arith;
        starts = dot (x0 + first_where n f) (first_where n f) (omega arith) a.1;
        ends = dot (x0 + end n f - 1) (end n f - 1) (omega arith) b.1;
        only = λ c r x. only c r x.drawn;
      }
    where
      dot : (c j : ℕ) → c ≡ x0 + j → At n f j → dotted x0 n y f c y ≡ true
      dot c j e i =
          let from : c - x0 ≡ j = omega arith in
          together (together (between_yes x0 (x0 + n) c (omega arith) (omega arith)) (rw from i.1)) (between_yes y (y + 1) y (omega arith) (omega arith))

      only : (c r : ℕ) → dotted x0 n y f c r ≡ true → ((x0 + first_where n f ≤ c) × (c < x0 + end n f)) × (r ≡ y)
      only c r e =
          let s = both (between x0 (x0 + n) c && f (c - x0)) (between y (y + 1) r) e in
          let t = both (between x0 (x0 + n) c) (f (c - x0)) s.0 in
          let u = bounds x0 (x0 + n) c t.0 in
          let v = bounds y (y + 1) r s.1 in
          let i : At n f (c - x0) = (omega arith, t.1) in
          let a = first_at n f (c - x0) i in
          let b = last_at n f (c - x0) i in
          ((omega arith, omega arith), omega arith)

-- one region more of a row of regions, as one glyph more of a text
pub add_next
    : (w h k : ℕ) (f : ℕ → ℕ → ℕ → Bool) {a b : Bounds} → a ≡ hull (λ c r. any_below k (λ j. f j c r)) w h → b ≡ hull (f k) w h
    → join a b ≡ hull (λ c r. any_below (k + 1) (λ j. f j c r)) w h
add_next w h k f e g = hull_part (λ c r. any_below k (λ j. f j c r)) (f k) (λ c r. any_below (k + 1) (λ j. f j c r)) w h e g (λ c r p q. any_more k (λ j. f j c r))

-- a region between two of its pixels, as a line between its ends
module _ (region : ℕ → ℕ → Bool) (w h c0 r0 c1 r1 : ℕ) (at0 : Pixel region w h c0 r0) (at1 : Pixel region w h c1 r1) where
  abbrev InColumn : ℕ → Type 0
  InColumn c = (r : ℕ) × Pixel region w h c r

  abbrev InRow : ℕ → Type 0
  InRow r = (c : ℕ) × Pixel region w h c r

  ends : Touched region w h (spanning c0 r0 c1 r1)
  ends = record {
    on_left = of_min InColumn c0 c1 (r0, at0) (r1, at1);
    on_top = of_min InRow r0 r1 (c0, at0) (c1, at1);
    on_right = of_max (λ n. InColumn (n + 1 - 1)) c0 c1 (r0, rw (less c0) at0) (r1, rw (less c1) at1);
    on_bottom = of_max (λ n. InRow (n + 1 - 1)) r0 r1 (c0, rw (less r0) at0) (c1, rw (less r1) at1);
  }
    where
      less : (n : ℕ) → n + 1 - 1 ≡ n
      less n = omega arith

  pub hull_ends
      : ((c r : ℕ) → Pixel region w h c r → ((min c0 c1 ≤ c) × (c ≤ max c0 c1)) × ((min r0 r1 ≤ r) × (r ≤ max r0 r1)))
      → spanning c0 r0 c1 r1 ≡ hull region w h
  hull_ends within = is_hull region w h (some (record { at = λ c r x. let i = within c r x in omega arith }) ends)
