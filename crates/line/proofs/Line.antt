-- The pixels of a line, as the sentence says them; and what the code's loop draws on a surface is the line. Assumes nothing.
use mathlib.Core.Bool.{Bool, true, false}
use mathlib.Core.List.{List}
use mathlib.Core.Logic.{◌↔◌}
use mathlib.Core.Path.{◌≡◌, refl, sym, ◌∙◌, ap}
use Prim.Native.Nat.{ℕ, ◌+◌, ◌*◌, ◌/◌, ◌%◌, ◌≤◌, ◌<◌}
use native.Mathlib.Nat.{div-add-mod'}
use native.Mathlib.Omega.{arith}
use lib.Arith.{digits_div, digits_mod}
use lib.Dec.{leb}
use lib.IntN.{ℤ, pos}
use lib.ListN.{length}
use borrow.Author.Tests.{leb-true, leb-false, le-leb, lt-leb}
use Rattle.arithmetic.specs.Test.{any_below}
use Rattle.arithmetic.proofs.Test.{same_test, any_at, any_some}
use Rattle.words.specs.Words.{painted}
use Rattle.words.proofs.Painted.{painted_cong}
use Rattle.surface.specs.Region.{words_of}
use Rattle.surface.proofs.Accepted.{InOrder}
use Rattle.surface.proofs.Rows.{column_lt, row_lt, row_fits}
use Rattle.line.specs.declared.Axis.{Axis}
use Rattle.line.specs.declared.Slope.{Slope}
use Rattle.line.specs.Line.{extent, steps, line, line_marks}
use Rattle.line.specs.Pixel.{OnLine, flat, steep}
use Rattle.line.specs.Inner.{Seen, is_shown, dots, StepsFit}
use Rattle.line.proofs.Steps.{is_step, step_of, dots_steps, mark_pixel, pixel_mark}

module _ (x0 y0 x1 y1 : ℤ) where
  -- the larger extent decides
  line_flat : extent y0 y1 ≤ extent x0 x1 → (c r : ℕ) → line x0 y0 x1 y1 c r ≡ steps x0 x1 y0 y1 c r
  unfolding line
  line_flat h c r = rw (le-leb (extent y0 y1) (extent x0 x1) h)

  line_steep : extent x0 x1 < extent y0 y1 → (c r : ℕ) → line x0 y0 x1 y1 c r ≡ steps y0 y1 x0 x1 r c
  unfolding line
  line_steep h c r = rw (lt-leb (extent y0 y1) (extent x0 x1) h)

  -- a pixel is in the line exactly if it is one of its steps
  pub line_pixel : (c r : ℕ) → (line x0 y0 x1 y1 c r ≡ true) ↔ OnLine x0 y0 x1 y1 c r
  line_pixel c r = (by (leb (extent y0 y1) (extent x0 x1)) refl, back)
    where
      by : (t : Bool) → leb (extent y0 y1) (extent x0 x1) ≡ t → line x0 y0 x1 y1 c r ≡ true → OnLine x0 y0 x1 y1 c r
      by true e l = let h = leb-true (extent y0 y1) (extent x0 x1) e in flat h (extent x0 (pos c)) (step_of x0 x1 y0 y1 c r (sym (line_flat h c r) ∙ l))
      by false e l = let h = leb-false (extent y0 y1) (extent x0 x1) e in steep h (extent y0 (pos r)) (step_of y0 y1 x0 x1 r c (sym (line_steep h c r) ∙ l))

      back : OnLine x0 y0 x1 y1 c r → line x0 y0 x1 y1 c r ≡ true
      back (flat h i t) = line_flat h c r ∙ is_step t
      back (steep h i t) = line_steep h c r ∙ is_step t

  -- a line makes a mark exactly if one of its pixels is on the surface
  module _ (W H : ℕ) where
    marked : (c r : ℕ) → c < W → r < H → line x0 y0 x1 y1 c r ≡ true → line_marks W H x0 y0 x1 y1 ≡ true
    unfolding line_marks
    marked c r lc lr e = any_at H (λ s. any_below W (λ p. line x0 y0 x1 y1 p s)) r lr (any_at W (λ p. line x0 y0 x1 y1 p r) c lc e)

    mark_of : {t : Bool} → line_marks W H x0 y0 x1 y1 ≡ true → ((c r : ℕ) → c < W → r < H → line x0 y0 x1 y1 c r ≡ true → t ≡ true) → t ≡ true
    unfolding line_marks
    mark_of e then =
        let down = any_some H (λ s. any_below W (λ p. line x0 y0 x1 y1 p s)) e in
        let across = any_some W (λ p. line x0 y0 x1 y1 p down.0) down.1.1 in
        then across.0 down.0 across.1.0 down.1.0 across.1.1

-- the word of a column and a row
module _ (W c r j : ℕ) (lt : c < W) (is : j ≡ r * W + c) where
  word_row : r ≡ j / W
  word_row = sym (ap (λ (n : ℕ). n / W) is ∙ digits_div r lt)

  word_column : c ≡ j % W
  word_column = sym (ap (λ (n : ℕ). n % W) is ∙ digits_mod r lt)

-- the mark and the memory of a line on a surface whose memory was m
abbrev pub Lined : (x0 y0 x1 y1 : ℤ) (W H : ℕ) (color : ℕ) (m : List ℕ) → Bool → List ℕ → Type 0
Lined x0 y0 x1 y1 W H color m t next = (t ≡ line_marks W H x0 y0 x1 y1) × (next ≡ painted (words_of W (line x0 y0 x1 y1)) (λ _. color) m)

abbrev slope_of : (long short : ℕ) → Slope
slope_of long short = record { long = long; short = short }

-- a surface in order
module _ {W H : ℕ} (m : List ℕ) (o : InOrder W H (length m)) where
  in_memory : (c r : ℕ) → c < W → r < H → 2 * (r * W + c) + 1 < length m
  in_memory c r lc lr = omega (arith, row_fits W H c 1 r H (omega arith) lr (omega arith), o.long)

  -- what the loop draws is the line if it has the same pixels on the surface
  lined : (x0 y0 x1 y1 : ℤ) (color : ℕ) (u v : Axis) (s : Slope) {t : Bool} {next : List ℕ}
      → t ≡ any_below u.end (is_shown u v s) → next ≡ painted (dots u v s u.end) (λ _. color) m
      → (any_below u.end (is_shown u v s) ≡ true → line_marks W H x0 y0 x1 y1 ≡ true)
      → (line_marks W H x0 y0 x1 y1 ≡ true → any_below u.end (is_shown u v s) ≡ true)
      → ((j : ℕ) → j % W < W → j / W < H → dots u v s u.end j ≡ words_of W (line x0 y0 x1 y1) j)
      → Lined x0 y0 x1 y1 W H color m t next
  lined x0 y0 x1 y1 color u v s mark bytes there back words = (
    mark ∙ same_test (any_below u.end (is_shown u v s)) (line_marks W H x0 y0 x1 y1) there back,
    bytes
        ∙ painted_cong (dots u v s u.end) (words_of W (line x0 y0 x1 y1)) (λ _. color) m
        (λ j lt. words j (column_lt W H j o.some) (row_lt W H j o.some (omega (arith, o.long)))),
  )

  module _ {x0 y0 x1 y1 : ℤ} {a b : ℕ} (is_a : a ≡ extent x0 x1) (is_b : b ≡ extent y0 y1) {columns rows : Axis} where
    -- a pixel for each column
    module _ (most : b ≤ a) (small : a < 65536) (across : Seen x0 x1 a W 1 columns) (down : Seen y0 y1 (b + 1) H W rows) where
      pub flat_steps_fit : StepsFit columns rows (slope_of a b) (length m)
      flat_steps_fit = record {
        few = across.few;
        less = most;
        small = small;
        on_u = across.on;
        on_v = down.on;
        room = λ i q h k l n. rw (across.apart, down.apart) (omega (arith, in_memory _ _ (across.within i h k) (down.within q l n)));
      }

      pub flat_lined : (color : ℕ) {t : Bool} {next : List ℕ} → t ≡ any_below columns.end (is_shown columns rows (slope_of a b)) → next ≡ painted (dots columns rows (slope_of a b) columns.end) (λ _. color) m
          → Lined x0 y0 x1 y1 W H color m t next
      flat_lined color mark bytes =
          let flat-is = line_flat x0 y0 x1 y1 (omega (arith, is_a, is_b)) in
          let U : Seen x0 x1 (extent x0 x1) W 1 columns = rw is_a at across in
          let D : Seen y0 y1 (extent y0 y1 + 1) H W rows = rw is_b at down in
          lined x0 y0 x1 y1 color columns rows (slope_of (extent x0 x1) (extent y0 y1)) (rw (is_a, is_b) at mark) (rw (is_a, is_b) at bytes)
          (λ e. mark_pixel x0 x1 y0 y1 U D e (λ c r lc lr t. marked x0 y0 x1 y1 W H c r lc lr (flat-is c r ∙ t)))
          (λ e. mark_of x0 y0 x1 y1 W H e (λ c r lc lr t. pixel_mark x0 x1 y0 y1 U D c r lc lr (sym (flat-is c r) ∙ t)))
          (λ j lc lr. dots_steps x0 x1 y0 y1 U D j (j % W) (j / W) lc lr
          (λ c r h k e. let is : j ≡ r * W + c = omega arith in (word_column W c r j h is, word_row W c r j h is)) (omega (arith, div-add-mod' j W))
          ∙ sym (flat-is (j % W) (j / W)))

    -- a pixel for each row
    module _ (most : a < b) (small : b < 65536) (down : Seen y0 y1 b H W rows) (across : Seen x0 x1 (a + 1) W 1 columns) where
      pub steep_steps_fit : StepsFit rows columns (slope_of b a) (length m)
      steep_steps_fit = record {
        few = down.few;
        less = omega arith;
        small = small;
        on_u = down.on;
        on_v = across.on;
        room = λ i q h k l n. rw (down.apart, across.apart) (omega (arith, in_memory _ _ (across.within q l n) (down.within i h k)));
      }

      pub steep_lined : (color : ℕ) {t : Bool} {next : List ℕ} → t ≡ any_below rows.end (is_shown rows columns (slope_of b a)) → next ≡ painted (dots rows columns (slope_of b a) rows.end) (λ _. color) m
          → Lined x0 y0 x1 y1 W H color m t next
      steep_lined color mark bytes =
          let steep-is = line_steep x0 y0 x1 y1 (omega (arith, is_a, is_b)) in
          let D : Seen y0 y1 (extent y0 y1) H W rows = rw is_b at down in
          let U : Seen x0 x1 (extent x0 x1 + 1) W 1 columns = rw is_a at across in
          lined x0 y0 x1 y1 color rows columns (slope_of (extent y0 y1) (extent x0 x1)) (rw (is_a, is_b) at mark) (rw (is_a, is_b) at bytes)
          (λ e. mark_pixel y0 y1 x0 x1 D U e (λ r c lr lc t. marked x0 y0 x1 y1 W H c r lc lr (steep-is c r ∙ t)))
          (λ e. mark_of x0 y0 x1 y1 W H e (λ c r lc lr t. pixel_mark y0 y1 x0 x1 D U r c lr lc (sym (steep-is c r) ∙ t)))
          (λ j lc lr. dots_steps y0 y1 x0 x1 D U j (j / W) (j % W) lr lc
          (λ r c k h e. let is : j ≡ r * W + c = omega arith in (word_row W c r j h is, word_column W c r j h is)) (omega (arith, div-add-mod' j W))
          ∙ sym (steep-is (j % W) (j / W)))
