-- The ink of a text, unit by unit, and on a surface. Assumes nothing.
use mathlib.Core.Bool.{Bool, true, false, ◌||◌}
use mathlib.Core.List.{List}
use mathlib.Core.Path.{◌≡◌, ◌∙◌}
use Prim.Native.Nat.{ℕ, ◌+◌, ◌-◌, ◌*◌, ◌≤◌, ◌<◌}
use native.Mathlib.Omega.{arith}
use lib.IntN.{ℤ, pos, ◌+ℤ◌}
use lib.ListN.{get_or}
use Rattle.arithmetic.specs.Integer.{positive}
use Rattle.arithmetic.specs.Inner.{negative}
use Rattle.arithmetic.proofs.Integer.{sum, one_part}
use Rattle.arithmetic.proofs.Interval.{between_no}
use Rattle.arithmetic.proofs.Test.{any_end, any_more, any_none, not_left, not_right}
use Rattle.clip.specs.Clip.{covers}
use Rattle.clip.specs.declared.Span.{Span}
use Rattle.clip.proofs.Clip.{covers_parts}
use Rattle.font.specs.Font.{inked}
use Rattle.font.proofs.Columns.{five_columns}
use Rattle.surface.specs.Region.{box}
use Rattle.text.specs.Ink.{printable, glyph_ink, char_ink, glyph_for, text_ink}
use Rattle.text.specs.Inner.{Reached}
use Rattle.glyph.specs.Past.{past}
use Rattle.glyph.proofs.Reach.{plus_zero, past_parts}

-- a character
pub char_in : (x y : ℤ) (ch c r : ℕ) → printable ch ≡ true → glyph_ink (x +ℤ pos 0) y (ch - 0x20) c r ≡ char_ink x y ch c r
char_in x y ch c r e = rw (plus_zero x, e)

pub char_out : (x y : ℤ) (ch c r : ℕ) → printable ch ≡ false → char_ink x y ch c r ≡ false
char_out x y ch c r e = not_left (glyph_ink x y (ch - 0x20) c r) e

-- a glyph that lies left of the surface, right of it, above or below it
module _ (x y : ℤ) (g k c r : ℕ) where
  abbrev z : ℤ
  z = x +ℤ pos (6 * k)

  unit_left : positive x + 6 * (k + 1) ≤ negative x → glyph_ink z y g c r ≡ false
  unit_left h =
      not_right (box z y (pos 8) (pos 8) c r)
      (five_columns g (past z c) (past y r) (omega (arith, past_parts z c, sum x (pos (6 * k)), one_part z)))

  unit_right : (w : ℕ) → w + negative x ≤ positive x + 6 * k → c < w → glyph_ink z y g c r ≡ false
  unit_right w h lt =
      let none : covers z (pos 8) c ≡ false = covers_parts z 8 c ∙ between_no (positive z) (positive z + 8) (c + negative z) (λ p q. omega (arith, sum x (pos (6 * k)))) in
      not_left (inked g (past z c) (past y r)) (not_left (covers y (pos 8) r) none)

  unit_off : covers y (pos 8) r ≡ false → glyph_ink z y g c r ≡ false
  unit_off none = not_left (inked g (past z c) (past y r)) (not_right (covers z (pos 8) c) none)

-- the units that reach the surface
module _ (us : List ℕ) (x y : ℤ) (c r : ℕ) where
  abbrev unit : ℕ → Bool
  unit k = glyph_ink (x +ℤ pos (6 * k)) y (glyph_for (get_or us k 0)) c r

  pub text_more : (k g : ℕ) → g ≡ glyph_for (get_or us k 0) → text_ink us (k + 1) x y c r ≡ (glyph_ink (x +ℤ pos (6 * k)) y g c r || text_ink us k x y c r)
  text_more k g e = rw e (any_more k unit)

  pub text_off : (n : ℕ) → covers y (pos 8) r ≡ false → text_ink us n x y c r ≡ false
  text_off n none = any_none n unit (λ k lt. unit_off x y (glyph_for (get_or us k 0)) k c r none)

  module _ (w n : ℕ) (s : Span) (reach : Reached x w n s) where
    pub text_first : text_ink us s.from x y c r ≡ false
    text_first = any_none s.from unit (λ k lt. unit_left x y (glyph_for (get_or us k 0)) k c r (reach.left k lt))

    pub text_last : (k : ℕ) → s.to ≤ k → k ≤ n → c < w → text_ink us k x y c r ≡ text_ink us n x y c r
    text_last k le few lt = any_end k n unit few (λ j p q. unit_right x y (glyph_for (get_or us j 0)) j c r w (reach.right j (omega arith) q) lt)
