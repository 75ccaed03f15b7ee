-- Regions, sets of pixels by column and row. Word i of a surface is the pixel at column i % width and row i / width.
use Rattle.std.specs.Prelude.{Bool, ◌&&◌, ℕ, ◌/◌, ◌%◌, ltb, ℤ}
use Rattle.clip.specs.Clip.{covers}

-- the words whose pixels are in a region
abbrev pub words_of : ℕ → (ℕ → ℕ → Bool) → ℕ → Bool
words_of width region i = region (i % width) (i / width)

-- the box at x, y, w wide and h high, over the integers
abbrev pub box : (x y w h : ℤ) → (c r : ℕ) → Bool
box x y w h c r = covers x w c && covers y h r

-- columns x0 .. x1 and rows y0 .. y1 hold a pixel
abbrev pub nonempty : (x0 x1 y0 y1 : ℕ) → Bool
nonempty x0 x1 y0 y1 = ltb x0 x1 && ltb y0 y1
