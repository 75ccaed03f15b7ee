-- Fills of a box: which pixels, which colours, and when a dirty mark is made.
use Rattle.std.specs.Prelude.{Bool, List, ℕ, ℤ, length}
use Rattle.words.specs.Words.{painted}
use Rattle.rop3.specs.Rop3.{table_of}
use Rattle.raster.specs.Raster.{ropped}
use Rattle.clip.specs.Clip.{clipped_rect}
use Rattle.surface.specs.declared.Drawn.{Drawn}
use Rattle.surface.specs.Region.{words_of, box, nonempty}
use Rattle.surface.specs.Refusal.{refusal, Drew}

-- memory m with a colour at each pixel of the box
abbrev pub filled : (width : ℕ) → (x y w h : ℤ) → (color : ℕ) → (m : List ℕ) → List ℕ
filled width x y w h color m = painted (words_of width (box x y w h)) (λ _. color) m

-- memory m with pattern and destination under a table at each pixel of the box; the source operand is 0
abbrev pub filled_rop : (width : ℕ) → (x y w h : ℤ) → (table pat : ℕ) → (m : List ℕ) → List ℕ
filled_rop width x y w h table pat m = painted (words_of width (box x y w h)) (ropped table pat (λ _. 0) m) m

-- one dirty mark, unless the clipped box is empty, as it is for w ≤ 0 or h ≤ 0
abbrev pub fill_marks : (width height : ℕ) → (x y w h : ℤ) → Bool
fill_marks width height x y w h = let r = clipped_rect x y w h width height in nonempty r.x0 r.x1 r.y0 r.y1

-- fill_rect on a surface of these sides with the bytes m: its answer, and the bytes afterwards
abbrev pub FillRect : (x y w h : ℤ) → (color width height : ℕ) → (m : List ℕ) → Drawn → (m' : List ℕ) → Type 0
FillRect x y w h color width height m = Drew (refusal width height (length m)) (fill_marks width height x y w h) (filled width x y w h color m) m

-- the same for fill_rect_rop
abbrev pub FillRectRop : (x y w h : ℤ) → (pat rop width height : ℕ) → (m : List ℕ) → Drawn → (m' : List ℕ) → Type 0
FillRectRop x y w h pat rop width height m = Drew (refusal width height (length m)) (fill_marks width height x y w h) (filled_rop width x y w h (table_of rop) pat m) m
