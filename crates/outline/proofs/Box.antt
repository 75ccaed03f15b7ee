-- The code's edges give the outline of the definitions. Assumes nothing.
use mathlib.Core.Path.{◌≡◌, refl, sym, ◌∙◌}
use mathlib.Core.Bool.{Bool, true, false, not, true≢false}
use mathlib.Core.List.{List}
use Prim.Native.Nat.{ℕ, ◌/◌, ◌%◌, ◌≤◌}
use native.Mathlib.Nat.{mul-le-mul_right}
use native.Mathlib.Omega.{arith}
use lib.IntN.{ℤ, pos, ◌+ℤ◌, ◌-ℤ◌}
use lib.ListN.{length}
use lib.Signed.{le_z, lt_z}
use Rattle.std.specs.Prelude.{Ok}
use Rattle.std.proofs.lemmas.Bool.Decides.{nat_tests}
use Rattle.arithmetic.specs.Integer.{positive}
use Rattle.arithmetic.proofs.Integer.{is_positive}
use Rattle.arithmetic.proofs.Test.{both, together, not_left, not_right}
use Rattle.words.specs.Words.{painted}
use Rattle.words.proofs.Painted.{painted_none, painted_cong}
use Rattle.clip.specs.Clip.{covers}
use Rattle.clip.proofs.Clip.{no_extent_covered}
use Rattle.surface.specs.Region.{words_of, box}
use Rattle.surface.specs.Refusal.{refusal, drawn}
use Rattle.surface.proofs.Accepted.{InOrder, in_order}
use Rattle.surface.proofs.Answers.{drawn_done}
use Rattle.surface.proofs.Rows.{column_lt, row_lt}
use Rattle.outline.specs.declared.Edges.{Edges}
use Rattle.outline.specs.Outline.{rim, outlined, outline_marks, StrokeRect}
use Rattle.outline.specs.Inner.{edges_of, sides, EdgesFit}
use Rattle.outline.proofs.Rim.{sides_rim, edges_within}

-- a positive extent is a natural
as_positive : (z : ℤ) → lt_z (pos 0) z ≡ true → (z ≡ pos (positive z)) × (1 ≤ positive z)
as_positive z e = grind (arith, nat_tests)

module _ (x y w h : ℤ) (color width height : ℕ) (m : List ℕ) (accepted : 0 ≡ refusal width height (length m)) where
  order : InOrder width height (length m)
  order = in_order width height (length m) accepted

  abbrev inner : (c r : ℕ) → Bool
  inner = box (x +ℤ pos 1) (y +ℤ pos 1) (w -ℤ pos 2) (h -ℤ pos 2)

  -- a box without columns or without rows has no rim
  none_outlined : outline_marks w h ≡ false → m ≡ outlined width x y w h color m
  none_outlined e = by (le_z w (pos 0)) (le_z h (pos 0)) refl refl
    where
      off : ((c r : ℕ) → box x y w h c r ≡ false) → m ≡ outlined width x y w h color m
      off k = painted_none (words_of width (rim x y w h)) (λ _. color) m (λ i lt. not_left (not (inner (i % width) (i / width))) (k (i % width) (i / width)))

      by : (s t : Bool) → le_z w (pos 0) ≡ s → le_z h (pos 0) ≡ t → m ≡ outlined width x y w h color m
      by true t p q = off (λ c r. not_left (covers y h r) (no_extent_covered x w p c))
      by false true p q = off (λ c r. not_right (covers x w c) (no_extent_covered y h q r))
      by false false p q = absurd (true≢false (sym (together (is_positive w p) (is_positive h q)) ∙ e))

  pub none_done : outline_marks w h ≡ false → StrokeRect x y w h color width height m (drawn (Ok false)) m
  none_done e = drawn_done accepted (sym e) (none_outlined e)

  -- a box with columns and rows
  module _ (some : outline_marks w h ≡ true) {columns rows : Edges} (is-columns : columns ≡ edges_of x w width) (is-rows : rows ≡ edges_of y h height) where
    pub edges_fit : EdgesFit width (length m) columns rows
    edges_fit =
        let c = edges_within x w width in
        let r = edges_within y h height in
        rw (is-columns, is-rows)
        (record {
          some = order.some;
          second_column = c.0;
          last_column = c.1;
          second_row = omega (arith, order.long, mul-le-mul_right width r.0);
          last_row = omega (arith, order.long, mul-le-mul_right width r.1);
        })

    sides_outlined : painted (words_of width (sides columns rows)) (λ _. color) m ≡ outlined width x y w h color m
    sides_outlined =
        let e = both (lt_z (pos 0) w) (lt_z (pos 0) h) some in
        let p = as_positive w e.0 in
        let q = as_positive h e.1 in
        painted_cong (words_of width (sides columns rows)) (words_of width (rim x y w h)) (λ _. color) m
        (λ i lt. rw (is-columns, is-rows, p.0, q.0)
        (sides_rim x y (positive w) (positive h) width height (i % width) (i / width) p.1 q.1 (column_lt width height i order.some) (row_lt width height i order.some (omega (arith, order.long)))))

    pub outline_done : {m' : List ℕ} → m' ≡ painted (words_of width (sides columns rows)) (λ _. color) m → StrokeRect x y w h color width height m (drawn (Ok true)) m'
    outline_done e = drawn_done accepted (sym some) (e ∙ sides_outlined)
