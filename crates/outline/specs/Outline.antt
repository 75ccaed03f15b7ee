-- The outline of a box.
use Rattle.std.specs.Prelude.{Bool, ◌&&◌, not, List, ℕ, ℤ, pos, ◌+ℤ◌, ◌-ℤ◌, length}
use Rattle.std.specs.Int.Signed.{lt_z}
use Rattle.words.specs.Words.{painted}
use Rattle.surface.specs.declared.Drawn.{Drawn}
use Rattle.surface.specs.Region.{words_of, box}
use Rattle.surface.specs.Refusal.{refusal, Drew}

-- one pixel thick: in the box, and not in the box that is a pixel smaller on each side
abbrev pub rim : (x y w h : ℤ) → (c r : ℕ) → Bool
rim x y w h c r = box x y w h c r && not (box (x +ℤ pos 1) (y +ℤ pos 1) (w -ℤ pos 2) (h -ℤ pos 2) c r)

-- memory m with a colour at each pixel of the rim
abbrev pub outlined : (width : ℕ) → (x y w h : ℤ) → (color : ℕ) → (m : List ℕ) → List ℕ
outlined width x y w h color m = painted (words_of width (rim x y w h)) (λ _. color) m

-- one dirty mark whenever w and h are positive
abbrev pub outline_marks : (w h : ℤ) → Bool
outline_marks w h = lt_z (pos 0) w && lt_z (pos 0) h

-- stroke_rect on a surface of these sides with the bytes m: its answer, and the bytes afterwards
abbrev pub StrokeRect : (x y w h : ℤ) → (color width height : ℕ) → (m : List ℕ) → Drawn → (m' : List ℕ) → Type 0
StrokeRect x y w h color width height m = Drew (refusal width height (length m)) (outline_marks w h) (outlined width x y w h color m) m
