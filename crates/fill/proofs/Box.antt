-- The code's clipped rectangle is the box of the definitions, and PATCOPY's table gives one colour. Assumes nothing.
use mathlib.Core.Path.{◌≡◌, refl, sym, ◌∙◌, ap}
use mathlib.Core.Bool.{Bool, true, false}
use mathlib.Core.List.{List}
use Prim.Native.Nat.{ℕ, ◌*◌, ◌≤◌, ◌<◌}
use native.Mathlib.Nat.{mul-le-mul_right}
use native.Mathlib.Omega.{arith}
use lib.Dec.{ltb}
use lib.IntN.{ℤ}
use lib.ListN.{length}
use Rattle.std.specs.Prelude.{Ok}
use Rattle.rop3.specs.Rop3.{table_of}
use borrow.Author.Tests.{lt-ltb, le-ltb}
use Rattle.arithmetic.proofs.Test.{together, not_left, not_right}
use Rattle.words.proofs.Painted.{painted_none, painted_cong}
use Rattle.raster.specs.Raster.{ropped}
use Rattle.raster.proofs.Plain.{pattern_ropped}
use Rattle.clip.specs.declared.Rect.{Rect}
use Rattle.clip.specs.Clip.{clipped_rect}
use Rattle.clip.proofs.Clip.{rect_covers, rect_within}
use Rattle.surface.specs.declared.Drawn.{Drawn}
use Rattle.surface.specs.Region.{words_of, box, nonempty}
use Rattle.surface.specs.Refusal.{refusal, drawn}
use Rattle.surface.proofs.Accepted.{InOrder, in_order}
use Rattle.surface.proofs.Answers.{drawn_done}
use Rattle.surface.proofs.Rows.{rect, column_lt, row_lt, no_rows, no_columns}
use Rattle.fill.specs.Fill.{filled_rop, FillRect, FillRectRop}
use Rattle.fill.specs.Inner.{ropped_rect}

-- a rectangle with a pixel, and rectangles without columns or without rows
module _ (x0 x1 y0 y1 : ℕ) where
  pub some_pixels : x0 < x1 → y0 < y1 → true ≡ nonempty x0 x1 y0 y1
  some_pixels p q = sym (together (lt-ltb x0 x1 p) (lt-ltb y0 y1 q))

  module _ (W table pat : ℕ) (m : List ℕ) where
    abbrev Untouched : Type 0
    Untouched = (false ≡ nonempty x0 x1 y0 y1) × (m ≡ ropped_rect W x0 x1 y0 y1 table pat m)

    pub without_columns : x1 ≤ x0 → Untouched
    without_columns p = (sym (not_left (ltb y0 y1) (le-ltb x0 x1 p)), painted_none (words_of W (rect x0 x1 y0 y1)) (ropped table pat (λ _. 0) m) m (λ i lt. no_columns W x0 x1 y0 y1 i p))

    pub without_rows : y1 ≤ y0 → Untouched
    without_rows p = (sym (not_right (ltb x0 x1) (le-ltb y0 y1 p)), painted_none (words_of W (rect x0 x1 y0 y1)) (ropped table pat (λ _. 0) m) m (λ i lt. no_rows W x0 x1 y0 y1 i p))

-- the clipped box lies on the surface of an accepted fill, and has the pixels of the box
module _ (x y w h : ℤ) (rop pat width height : ℕ) (m : List ℕ) (accepted : 0 ≡ refusal width height (length m)) {r : Rect} (is : r ≡ clipped_rect x y w h width height) where
  order : InOrder width height (length m)
  order = in_order width height (length m) accepted

  pub box_fits : (0 < width) × ((r.x1 ≤ width) × (2 * (r.y1 * width) ≤ length m))
  box_fits =
      let k : r.y1 ≤ height = rw is (rect_within x y w h width height).1.1 in
      (order.some, (rw is (rect_within x y w h width height).0.1, omega (arith, order.long, mul-le-mul_right width k)))

  box_filled : ropped_rect width r.x0 r.x1 r.y0 r.y1 (table_of rop) pat m ≡ filled_rop width x y w h (table_of rop) pat m
  box_filled =
      painted_cong (words_of width (rect r.x0 r.x1 r.y0 r.y1)) (words_of width (box x y w h)) (ropped (table_of rop) pat (λ _. 0) m) m
      (λ i lt. rw is (rect_covers x y w h width height (column_lt width height i order.some) (row_lt width height i order.some (omega (arith, order.long)))))

  pub box_done : {marked : Bool} {m' : List ℕ} → marked ≡ nonempty r.x0 r.x1 r.y0 r.y1 → m' ≡ ropped_rect width r.x0 r.x1 r.y0 r.y1 (table_of rop) pat m → FillRectRop x y w h pat rop width height m (drawn (Ok marked)) m'
  box_done p q = drawn_done accepted (p ∙ ap (λ (b : Rect). nonempty b.x0 b.x1 b.y0 b.y1) is) (q ∙ box_filled)

-- PATCOPY's table gives the pattern
pub patcopy_filled : (x y w h : ℤ) (color width height : ℕ) (m : List ℕ) {r : Drawn} {m' : List ℕ} → color < 65536 → FillRectRop x y w h color 0xF00021 width height m r m' → FillRect x y w h color width height m r m'
patcopy_filled x y w h color width height m small d =
    record { answer = d.answer; bytes = d.bytes ∙ rw (sym (pattern_ropped 0xF0 (words_of width (box x y w h)) color (λ _. 0) m refl small)) }
