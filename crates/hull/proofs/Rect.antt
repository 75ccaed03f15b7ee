-- The hulls of rectangles: a fill's is its clipped box. Assumes nothing.
use mathlib.Core.Bool.{Bool, true}
use mathlib.Core.Path.{◌≡◌, refl, sym, ◌∙◌}
use Prim.Native.Nat.{ℕ, ◌-◌, ◌≤◌, ◌<◌}
use native.Mathlib.Decide.{dec_lt}
use native.Mathlib.Omega.{arith}
use lib.Dec.{ltb}
use lib.IntN.{ℤ}
use borrow.Author.Tests.{lt-ltb, le-ltb}
use Rattle.arithmetic.specs.Interval.{between}
use Rattle.arithmetic.proofs.Interval.{between_yes, bounds}
use Rattle.arithmetic.proofs.Test.{both, together, not_right}
use Rattle.clip.specs.declared.Rect.{Rect}
use Rattle.clip.specs.Clip.{clipped_rect}
use Rattle.clip.proofs.Clip.{rect_covers, rect_within}
use Rattle.surface.specs.Region.{box, nonempty}
use Rattle.surface.proofs.Rows.{rect}
use Rattle.hull.specs.Hull.{corners, nowhere, hull}
use Rattle.hull.specs.Inner.{holds_any, rect_bounds}
use Rattle.hull.specs.Smallest.{Pixel, Smallest, none, some}
use Rattle.hull.proofs.Smallest.{is_hull}
use Rattle.hull.proofs.Hull.{hull_cong}

-- where the pixels of a rectangle lie
pub rect_bounds_lem : (x0 x1 y0 y1 c r : ℕ) → rect x0 x1 y0 y1 c r ≡ true → ((x0 ≤ c) × (c < x1)) × ((y0 ≤ r) × (r < y1))
rect_bounds_lem x0 x1 y0 y1 c r e =
    let s = both (between x0 x1 c) (between y0 y1 r) e in
    (bounds x0 x1 c s.0, bounds y0 y1 r s.1)

-- the box of a rectangle with a pixel, and of one without columns or without rows
module _ (x0 y0 x1 y1 : ℕ) where
  pub some_box : x0 < x1 → y0 < y1 → corners x0 y0 x1 y1 ≡ rect_bounds x0 y0 x1 y1
  unfolding rect_bounds
  some_box p q = rw (lt-ltb x0 x1 p, lt-ltb y0 y1 q)

  pub no_columns : x1 ≤ x0 → nowhere ≡ rect_bounds x0 y0 x1 y1
  unfolding rect_bounds
  no_columns p = rw (le-ltb x0 x1 p)

  pub no_rows : y1 ≤ y0 → nowhere ≡ rect_bounds x0 y0 x1 y1
  unfolding rect_bounds
  no_rows p = rw (not_right (ltb x0 x1) (le-ltb y0 y1 p))

  -- it holds a pixel exactly if the rectangle does
  pub rect_any : holds_any (rect_bounds x0 y0 x1 y1) ≡ nonempty x0 x1 y0 y1
  rect_any = by (dec_lt x0 x1) (dec_lt y0 y1)
    where
      by : Dec (x0 < x1) → Dec (y0 < y1) → holds_any (rect_bounds x0 y0 x1 y1) ≡ nonempty x0 x1 y0 y1
      by (yes p) (yes q) = rw (← some_box p q, lt-ltb x0 x1 p, lt-ltb y0 y1 q) (lt-ltb 0 x1 (omega arith))
      by (yes p) (no q) = rw (← no_rows (omega arith), not_right (ltb x0 x1) (le-ltb y0 y1 (omega arith)))
      by (no p) d = rw (← no_columns (omega arith), le-ltb x0 x1 (omega arith))

-- a rectangle on the surface
module _ (x0 x1 y0 y1 w h : ℕ) (wide : x1 ≤ w) (high : y1 ≤ h) where
  rect_pixel : (c r : ℕ) → x0 ≤ c → c < x1 → y0 ≤ r → r < y1 → Pixel (rect x0 x1 y0 y1) w h c r
  rect_pixel c r p q s t = record { on_column = omega arith; on_row = omega arith; drawn = together (between_yes x0 x1 c p q) (between_yes y0 y1 r s t) }

  some_rect : x0 < x1 → y0 < y1 → Smallest (rect x0 x1 y0 y1) w h (corners x0 y0 x1 y1)
  some_rect p q =
      some
      (record { at = λ c r x. let i = rect_bounds_lem x0 x1 y0 y1 c r x.drawn in omega arith })
      (record {
        on_left = (y0, rect_pixel x0 y0 (omega arith) p (omega arith) q);
        on_top = (x0, rect_pixel x0 y0 (omega arith) p (omega arith) q);
        on_right = (y0, rect_pixel (x1 - 1) y0 (omega arith) (omega arith) (omega arith) q);
        on_bottom = (x0, rect_pixel x0 (y1 - 1) (omega arith) p (omega arith) (omega arith));
      })

  no_rect : ((c r : ℕ) → ((x0 ≤ c) × (c < x1)) × ((y0 ≤ r) × (r < y1)) → ⊥) → Smallest (rect x0 x1 y0 y1) w h nowhere
  no_rect f = none (λ c r x. f c r (rect_bounds_lem x0 x1 y0 y1 c r x.drawn)) refl

  rect_smallest : Smallest (rect x0 x1 y0 y1) w h (rect_bounds x0 y0 x1 y1)
  rect_smallest = by (dec_lt x0 x1) (dec_lt y0 y1)
    where
      by : Dec (x0 < x1) → Dec (y0 < y1) → Smallest (rect x0 x1 y0 y1) w h (rect_bounds x0 y0 x1 y1)
      by (yes p) (yes q) = rw (← some_box x0 y0 x1 y1 p q) (some_rect p q)
      by (yes p) (no q) = rw (← no_rows x0 y0 x1 y1 (omega arith)) (no_rect (λ c r i. omega arith))
      by (no p) d = rw (← no_columns x0 y0 x1 y1 (omega arith)) (no_rect (λ c r i. omega arith))

  -- a region that is the rectangle on the surface has its box
  pub hull_rect : (region : ℕ → ℕ → Bool) → ((c r : ℕ) → c < w → r < h → region c r ≡ rect x0 x1 y0 y1 c r) → hull region w h ≡ rect_bounds x0 y0 x1 y1
  hull_rect region same = hull_cong region (rect x0 x1 y0 y1) w h same ∙ sym (is_hull (rect x0 x1 y0 y1) w h rect_smallest)

-- the hull of a fill is the clipped box
pub hull_box : (x y bw bh : ℤ) (w h : ℕ) {r : Rect} → r ≡ clipped_rect x y bw bh w h → hull (box x y bw bh) w h ≡ rect_bounds r.x0 r.y0 r.x1 r.y1
hull_box x y bw bh w h {r} is =
    hull_rect r.x0 r.x1 r.y0 r.y1 w h
    (rw is (rect_within x y bw bh w h).0.1) (rw is (rect_within x y bw bh w h).1.1)
    (box x y bw bh) (λ c l p q. rw is (sym (rect_covers x y bw bh w h p q)))

-- the hull of all of a surface
pub hull_all : (w h : ℕ) → 0 < w → 0 < h → hull (λ _ _. true) w h ≡ corners 0 0 w h
hull_all w h wide high =
    hull_rect 0 w 0 h w h (omega arith) (omega arith) (λ _ _. true)
    (λ c r p q. sym (together (between_yes 0 w c (omega arith) p) (between_yes 0 h r (omega arith) q)))
    ∙ sym (some_box 0 0 w h wide high)
