-- A picture's sides and pixels as bytes, and what the program `ppm` writes for them.
use Rattle.std.specs.Prelude.{Bool, ◌&&◌, cond, List, [], ◌∷◌, ℕ, ◌+◌, ◌*◌, eqb, leb, length, drop}
use Rattle.bigendian.specs.BigEndian.{be16}
use Rattle.samples.specs.Samples.{ppm_of}

-- a side: 1 to 144
abbrev pub served : ℕ → Bool
served n = leb 1 n && leb n 144

-- width and height, 16 bits each, most significant byte first, each 1 to 144, then exactly 2·w·h pixel bytes
unfoldable pub is_picture : List ℕ → Bool
is_picture s = served (be16 s 0) && (served (be16 s 2) && eqb (length s) (4 + 2 * (be16 s 0 * be16 s 2)))

-- `no picture` and a newline
abbrev pub no_picture : List ℕ
no_picture = 110 ∷ 111 ∷ 32 ∷ 112 ∷ 105 ∷ 99 ∷ 116 ∷ 117 ∷ 114 ∷ 101 ∷ 10 ∷ []

-- the PPM; any other input gives `no picture`
unfoldable pub picture_of : List ℕ → List ℕ
picture_of s = cond (is_picture s) (ppm_of (be16 s 0) (be16 s 2) (drop 4 s)) no_picture
