-- A reader of the P6 picture format, as Netpbm's page on PPM has it. Each part reads its bytes and passes the bytes after them to k.
-- Decision 49 lists what it accepts beyond the page, and what it does not accept.
use Rattle.std.specs.Prelude.{Bool, false, ◌&&◌, ◌||◌, cond, List, [], ◌∷◌, ℕ, ◌+◌, ◌*◌, ◌-◌, eqb, leb, ltb, length, drop}

-- What reading a file gives: no picture, or one with its sides, its maxval and its samples.
pub data Picture : Type 0 where
  none : Picture
  picture : (width height maxval : ℕ) → (samples : List ℕ) → Picture

-- white space: TAB, LF, VT, FF, CR, space
abbrev pub is_space : ℕ → Bool
is_space b = (leb 9 b && leb b 13) || eqb b 32

-- a decimal digit in ASCII
abbrev pub is_digit : ℕ → Bool
is_digit b = leb 48 b && leb b 57

-- there is a first byte, and t holds of it
abbrev pub first : (ℕ → Bool) → List ℕ → Bool
first t [] = false
first t (b ∷ s) = t b

-- the magic number, `P6`
abbrev pub magic : (List ℕ → Picture) → List ℕ → Picture
magic k s = cond (first (eqb 80) s && first (eqb 54) (drop 1 s)) (k (drop 2 s)) none

-- the bytes from the first one that is not white space
unfoldable pub past_space : List ℕ → List ℕ
past_space [] = []
past_space (b ∷ s) = cond (is_space b) (past_space s) (b ∷ s)

-- white space, one character or more
abbrev pub whitespace : (List ℕ → Picture) → List ℕ → Picture
whitespace k s = cond (first is_space s) (k (past_space s)) none

-- exactly one character of white space
abbrev pub one_space : (List ℕ → Picture) → List ℕ → Picture
one_space k s = cond (first is_space s) (k (drop 1 s)) none

-- the number whose digits are those of n and the digits that follow
unfoldable pub more_digits : (ℕ → List ℕ → Picture) → ℕ → List ℕ → Picture
more_digits k n [] = k n []
more_digits k n (b ∷ s) = cond (is_digit b) (more_digits k (10 * n + (b - 48)) s) (k n (b ∷ s))

-- a number in ASCII decimal, one digit or more
abbrev pub number : (ℕ → List ℕ → Picture) → List ℕ → Picture
number k s = cond (first is_digit s) (more_digits k 0 s) none

-- a raster of height rows of width pixels of three samples, to the file's end; a sample is one byte, as maxval is below 256
abbrev pub raster : (width height maxval : ℕ) → List ℕ → Picture
raster w h maxval s = cond ((ltb 0 maxval && ltb maxval 256) && eqb (length s) (3 * (w * h))) (picture w h maxval s) none

abbrev pub read : List ℕ → Picture
read =
    magic (whitespace
    (number λ width. whitespace
    (number λ height. whitespace
    (number λ maxval. one_space
    (raster width height maxval)))))
