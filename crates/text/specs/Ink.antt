-- The ink of glyphs and of text, pixel by pixel.
use Rattle.std.specs.Prelude.{Bool, false, ◌&&◌, cond, List, [], ◌∷◌, ℕ, suc, ◌-◌, ◌*◌, leb, eqb, ℤ, pos, ◌+ℤ◌, get_or, length}
use Rattle.arithmetic.specs.Test.{any_below}
use Rattle.font.specs.Font.{inked}
use Rattle.words.specs.Words.{painted}
use Rattle.surface.specs.declared.Drawn.{Drawn}
use Rattle.surface.specs.declared.Advance.{Advance}
use Rattle.surface.specs.Region.{words_of, box}
use Rattle.surface.specs.Refusal.{refusal, Drew, Advanced}
use Rattle.glyph.specs.Past.{past}

-- the ink of glyph g with its upper left corner at x, y: eight rows, bit 7 leftmost
abbrev pub glyph_ink : (x y : ℤ) → (g c r : ℕ) → Bool
glyph_ink x y g c r = box x y (pos 8) (pos 8) c r && inked g (past x c) (past y r)

-- 0x20 to 0x7E
abbrev pub printable : ℕ → Bool
printable u = leb 0x20 u && leb u 0x7E

-- the ink of a character: nothing outside that range
abbrev pub char_ink : (x y : ℤ) → (ch c r : ℕ) → Bool
char_ink x y ch c r = printable ch && glyph_ink x y (ch - 0x20) c r

-- the units before unit 0 or the end
abbrev pub unit_count : List ℕ → ℕ
unit_count [] = 0
unit_count (u ∷ us) = cond (eqb u 0) 0 (suc (unit_count us))

-- the glyph of a unit; outside that range it is that of '?'
abbrev pub glyph_for : ℕ → ℕ
glyph_for u = cond (printable u) (u - 0x20) (0x3F - 0x20)

-- the ink of the first n units, each 6 columns right of the one before
abbrev pub text_ink : (units : List ℕ) → (n : ℕ) → (x y : ℤ) → (c r : ℕ) → Bool
text_ink units n x y c r = any_below n (λ k. glyph_ink (x +ℤ pos (6 * k)) y (glyph_for (get_or units k 0)) c r)

-- the number of a text's refusal: as for other operations, and last 10 if there are more than 65,535 units
unfoldable pub text_refusal : (number n : ℕ) → ℕ
text_refusal number n = cond (eqb number 0) (cond (leb n 65535) 0 10) number

-- draw_char on a surface of these sides with the bytes m: its answer, which has no mark, and the bytes afterwards
abbrev pub DrawChar : (x y : ℤ) → (ch color width height : ℕ) → (m : List ℕ) → Drawn → (m' : List ℕ) → Type 0
DrawChar x y ch color width height m = Drew (refusal width height (length m)) false (painted (words_of width (char_ink x y ch)) (λ _. color) m) m

-- the same for draw_str_u16, which answers the advance of its n units
abbrev pub DrawStr : (x y : ℤ) → (units : List ℕ) → (color width height : ℕ) → (m : List ℕ) → Advance → (m' : List ℕ) → Type 0
DrawStr x y units color width height m =
    let n = unit_count units in Advanced (text_refusal (refusal width height (length m)) n) (6 * n) (painted (words_of width (text_ink units n x y)) (λ _. color) m) m
