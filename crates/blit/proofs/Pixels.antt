-- The clipped box, pixel by pixel: it holds the blit's pixels, each drawn from its own source pixel. Assumes nothing.
use mathlib.Core.Path.{◌≡◌, sym, ◌∙◌, ap}
use mathlib.Core.Bool.{Bool, true, false}
use Prim.Native.Nat.{ℕ, ◌+◌, ◌*◌, ◌-◌, ◌/◌, ◌%◌, ◌≤◌, ◌<◌}
use native.Mathlib.Omega.{arith}
use lib.Dec.{leb}
use borrow.Author.Tests.{le-leb}
use Rattle.std.proofs.lemmas.Bool.Decides.{nat_tests}
use Rattle.arithmetic.specs.Interval.{between}
use Rattle.arithmetic.specs.Integer.{positive}
use Rattle.arithmetic.proofs.Interval.{bounds}
use Rattle.arithmetic.proofs.Test.{both}
use Rattle.clip_blit.specs.declared.BlitRect.{BlitRect}
use Rattle.clip_blit.specs.Blit.{blit_axis}
use Rattle.clip_blit.proofs.Blit.{Clipped, blit_clipped, blit_region}
use Rattle.surface.specs.Region.{words_of, nonempty}
use Rattle.surface.proofs.Rows.{rect, column_lt, row_lt, row_fits}
use Rattle.blit.specs.declared.Blit.{Blit}
use Rattle.blit.specs.Blit.{clipped, region, source_word, row_held}
use Rattle.blit.specs.Inner.{source_for, held}

-- a box without a pixel
abbrev pub Empty : BlitRect → Type 0
Empty box = nonempty box.x0 box.x1 box.y0 box.y1 ≡ false

module _ (b : Blit) where
  -- its columns and its rows
  pub across : Clipped b.dx b.sx b.w b.width b.src_w (blit_axis b.dx b.sx b.w b.width b.src_w)
  across = blit_clipped b.dx b.sx b.w b.width b.src_w

  pub down : Clipped b.dy b.sy b.h b.height b.src_h (blit_axis b.dy b.sy b.h b.height b.src_h)
  down = blit_clipped b.dy b.sy b.h b.height b.src_h

  -- the box, as the code holds it
  pub is_empty : {box : BlitRect} → box ≡ clipped b → Empty box → Empty (clipped b)
  is_empty is h = rw is at h

  -- the loops test a row as the definition does
  pub held_same : (len y : ℕ) → held (clipped b) b.src_w len y ≡ row_held b len y
  held_same len y = ap (λ (x : ℕ). leb (2 * x) len) (omega arith)

  -- word j of the surface
  module _ (some : 0 < b.width) (j : ℕ) (lt : j < b.width * b.height) where
    abbrev covered : Bool
    covered = words_of b.width (rect (clipped b).x0 (clipped b).x1 (clipped b).y0 (clipped b).y1) j

    abbrev pixel : Bool
    pixel = words_of b.width (region b) j

    -- it is in the box exactly if it is a pixel of the blit
    pub boxed : covered ≡ pixel
    boxed =
        blit_region b.dx b.dy b.sx b.sy b.w b.h b.width b.height b.src_w b.src_h
        (column_lt b.width b.height j some)
        (row_lt b.width b.height j some lt)

    pub none_drawn : Empty (clipped b) → pixel ≡ false
    none_drawn h = sym boxed ∙ grind (arith, nat_tests)

    module _ (e : pixel ≡ true) where
      in_column_lem : ((clipped b).x0 ≤ j % b.width) × (j % b.width < (clipped b).x1)
      in_column_lem = bounds (clipped b).x0 (clipped b).x1 (j % b.width) (both _ (between (clipped b).y0 (clipped b).y1 (j / b.width)) (boxed ∙ e)).0

      in_line : ((clipped b).y0 ≤ j / b.width) × (j / b.width < (clipped b).y1)
      in_line = bounds (clipped b).y0 (clipped b).y1 (j / b.width) (both (between (clipped b).x0 (clipped b).x1 (j % b.width)) _ (boxed ∙ e)).1

      -- the loops read the source word of the definition
      pub taken_same : source_for (clipped b) b.width b.src_w j ≡ source_word b (j % b.width) (j / b.width)
      taken_same =
          let x = ap positive (across.taken (j % b.width) in_column_lem.0 in_column_lem.1) in
          let y = ap positive (down.taken (j / b.width) in_line.0 in_line.1) in
          rw (← x, ← y) (omega arith)

      -- bytes for the whole source hold every row
      pub row_in_source : (len : ℕ) → len ≡ 2 * (b.src_w * b.src_h) → row_held b len (j / b.width) ≡ true
      row_in_source len long =
          le-leb _ len
          (omega (arith, in_line, down.source, row_fits b.src_w b.src_h (clipped b).src_x0 ((clipped b).x1 - (clipped b).x0) ((clipped b).src_y0 + (j / b.width - (clipped b).y0)) b.src_h across.source (omega (arith, in_line, down.source)) (omega arith)))
