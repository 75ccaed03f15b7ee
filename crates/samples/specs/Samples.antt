-- Pixels as bytes: their samples, their RGBA bytes, and their P6 picture.
use Rattle.std.specs.Prelude.{List, [], ◌∷◌, ℕ, ◌*◌}
use Rattle.words.specs.Words.{word}
use Rattle.color.specs.Color.{wide_red, wide_green, wide_blue}
use Rattle.p6.specs.P6.{p6}
use Rattle.p6.specs.Joined.{joined}

-- R, G and B of a word, widened
abbrev pub rgb : ℕ → List ℕ
rgb v = wide_red v ∷ wide_green v ∷ wide_blue v ∷ []

-- R, G, B, 255
abbrev pub rgba : ℕ → List ℕ
rgba v = wide_red v ∷ wide_green v ∷ wide_blue v ∷ 255 ∷ []

-- the samples of the first n words of a memory
abbrev pub samples_of : List ℕ → ℕ → List ℕ
samples_of m n = joined (λ i. rgb (word m i)) n

-- their RGBA bytes
abbrev pub rgba_of : List ℕ → ℕ → List ℕ
rgba_of m n = joined (λ i. rgba (word m i)) n

-- the picture of the surface at the start of a memory
abbrev pub ppm_of : (width height : ℕ) → List ℕ → List ℕ
ppm_of w h m = p6 w h (samples_of m (w * h))

-- the length of those bytes
abbrev pub rgba_length : (width height : ℕ) → ℕ
rgba_length w h = 4 * (w * h)
