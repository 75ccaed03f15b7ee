-- Lines on small surfaces: each is what the definitions compute.
use Rattle.std.specs.Prelude.{Bool, true, false, cond, List, [], ◌∷◌, ◌++◌, ◌≡◌, refl, ℕ, zero, suc, ◌+◌, ℤ, pos, negsuc}
use Rattle.line.specs.Line.{line, line_marks}

-- the pixels of a region in n columns from c on of row r
abbrev region_row : (n c r : ℕ) → (ℕ → ℕ → Bool) → List (ℕ × ℕ)
region_row zero c r region = []
region_row (suc n) c r region = cond (region c r) ((c, r) ∷ region_row n (c + 1) r region) (region_row n (c + 1) r region)

-- the same in n rows from r on
abbrev region_rows : (n r width : ℕ) → (ℕ → ℕ → Bool) → List (ℕ × ℕ)
region_rows zero r width region = []
region_rows (suc n) r width region = region_row width 0 r region ++ region_rows n (r + 1) width region

-- the pixels, column and row, that a line draws on a surface, in reading order
abbrev pub line_pixels : (width height : ℕ) → (x0 y0 x1 y1 : ℤ) → List (ℕ × ℕ)
line_pixels width height x0 y0 x1 y1 = region_rows height 0 width (line x0 y0 x1 y1)

-- (0, 0) to (5, 2): the end is left out
pub flat_line : line_pixels 6 3 (pos 0) (pos 0) (pos 5) (pos 2) ≡ (0, 0) ∷ (1, 0) ∷ (2, 1) ∷ (3, 1) ∷ (4, 2) ∷ []
unfolding line
flat_line = refl

-- (3, 6) to (1, 1): drawn from (3, 6) on, a pixel for each row
pub steep_line : line_pixels 4 7 (pos 3) (pos 6) (pos 1) (pos 1) ≡ (1, 2) ∷ (2, 3) ∷ (2, 4) ∷ (3, 5) ∷ (3, 6) ∷ []
unfolding line
steep_line = refl

-- the same from (0, 0) to (-2, -5): only its start is on the surface
pub steep_line_off : line_pixels 4 7 (pos 0) (pos 0) (negsuc 1) (negsuc 4) ≡ (0, 0) ∷ []
unfolding line
steep_line_off = refl

-- (0, 0) to (2, 1): a tie rounds away from the start
pub tie : line_pixels 3 3 (pos 0) (pos 0) (pos 2) (pos 1) ≡ (0, 0) ∷ (1, 1) ∷ []
unfolding line
tie = refl

-- and (2, 1) to (0, 0), so that a line and the line back differ
pub tie_back : line_pixels 3 3 (pos 2) (pos 1) (pos 0) (pos 0) ≡ (1, 0) ∷ (2, 1) ∷ []
unfolding line
tie_back = refl

-- (3, 3) to (3, 3): no pixel, and no mark
pub point : line_pixels 5 5 (pos 3) (pos 3) (pos 3) (pos 3) ≡ []
unfolding line
point = refl

pub point_unmarked : line_marks 5 5 (pos 3) (pos 3) (pos 3) (pos 3) ≡ false
unfolding line_marks line
point_unmarked = refl

-- one line in each octant, from (4, 4)
pub right_down : line_pixels 9 9 (pos 4) (pos 4) (pos 7) (pos 5) ≡ (4, 4) ∷ (5, 4) ∷ (6, 5) ∷ []
unfolding line
right_down = refl

pub down_right : line_pixels 9 9 (pos 4) (pos 4) (pos 5) (pos 7) ≡ (4, 4) ∷ (4, 5) ∷ (5, 6) ∷ []
unfolding line
down_right = refl

pub down_left : line_pixels 9 9 (pos 4) (pos 4) (pos 3) (pos 7) ≡ (4, 4) ∷ (4, 5) ∷ (3, 6) ∷ []
unfolding line
down_left = refl

pub left_down : line_pixels 9 9 (pos 4) (pos 4) (pos 1) (pos 5) ≡ (3, 4) ∷ (4, 4) ∷ (2, 5) ∷ []
unfolding line
left_down = refl

pub left_up : line_pixels 9 9 (pos 4) (pos 4) (pos 1) (pos 3) ≡ (2, 3) ∷ (3, 4) ∷ (4, 4) ∷ []
unfolding line
left_up = refl

pub up_left : line_pixels 9 9 (pos 4) (pos 4) (pos 3) (pos 1) ≡ (3, 2) ∷ (4, 3) ∷ (4, 4) ∷ []
unfolding line
up_left = refl

pub up_right : line_pixels 9 9 (pos 4) (pos 4) (pos 5) (pos 1) ≡ (5, 2) ∷ (4, 3) ∷ (4, 4) ∷ []
unfolding line
up_right = refl

pub right_up : line_pixels 9 9 (pos 4) (pos 4) (pos 7) (pos 3) ≡ (6, 3) ∷ (4, 4) ∷ (5, 4) ∷ []
unfolding line
right_up = refl

-- (-3, 1) to (3, 3): steps 3 to 5 are on the surface, and they are those of the whole line
pub from_outside : line_pixels 4 4 (negsuc 2) (pos 1) (pos 3) (pos 3) ≡ (0, 2) ∷ (1, 2) ∷ (2, 3) ∷ []
unfolding line
from_outside = refl

pub from_outside_marked : line_marks 4 4 (negsuc 2) (pos 1) (pos 3) (pos 3) ≡ true
unfolding line_marks line
from_outside_marked = refl

-- (-5, -1) to (5, -4): no pixel on the surface, and no mark
pub outside : line_pixels 4 4 (negsuc 4) (negsuc 0) (pos 5) (negsuc 3) ≡ []
unfolding line
outside = refl

pub outside_unmarked : line_marks 4 4 (negsuc 4) (negsuc 0) (pos 5) (negsuc 3) ≡ false
unfolding line_marks line
outside_unmarked = refl

-- (-32768, -16384) to (32767, 16384): the longest extent of an i16 coordinate
pub far_ends : line_pixels 3 3 (negsuc 32767) (negsuc 16383) (pos 32767) (pos 16384) ≡ (0, 0) ∷ (1, 1) ∷ (2, 1) ∷ []
unfolding line
far_ends = refl
