-- Colours as numbers: the COLORREF, the RGB565 word and the RGB555 word, and the conversions between them.
use Rattle.std.specs.Prelude.{ℕ, ◌+◌, ◌*◌, ◌/◌, ◌%◌}

-- the red channel of a COLORREF, 0x00BBGGRR
abbrev pub red : ℕ → ℕ
red c = c % 256

-- its green channel
abbrev pub green : ℕ → ℕ
green c = c / 256 % 256

-- its blue channel
abbrev pub blue : ℕ → ℕ
blue c = c / 65536 % 256

-- packing keeps the top 5, 6, 5 bits of R, G, B
abbrev pub packed_channels : ℕ → ℕ → ℕ → ℕ
packed_channels r g b = r / 8 * 2048 + g / 4 * 32 + b / 8

-- the RGB565 word of a COLORREF, whose top byte is ignored
unfoldable pub packed : ℕ → ℕ
packed c = packed_channels (red c) (green c) (blue c)

-- the 5 bits of red of an RGB565 word, RRRRRGGGGGGBBBBB
abbrev pub red5 : ℕ → ℕ
red5 p = p / 2048

-- its 6 bits of green
abbrev pub green6 : ℕ → ℕ
green6 p = p / 32 % 64

-- its 5 bits of blue
abbrev pub blue5 : ℕ → ℕ
blue5 p = p % 32

-- widening repeats the high bits: red is 8·r + r/4, quotients rounded down
unfoldable pub wide_red : ℕ → ℕ
wide_red p = 8 * red5 p + red5 p / 4

-- widened green is 4·g + g/16
unfoldable pub wide_green : ℕ → ℕ
wide_green p = 4 * green6 p + green6 p / 16

-- widened blue is 8·b + b/4
unfoldable pub wide_blue : ℕ → ℕ
wide_blue p = 8 * blue5 p + blue5 p / 4

-- the COLORREF of the widened channels, whose top byte is 0
unfoldable pub widened : ℕ → ℕ
widened p = wide_red p + 256 * wide_green p + 65536 * wide_blue p

-- the red channel of an RGB555 word, 0RRRRRGGGGGBBBBB, whose top bit has no effect
abbrev pub red555 : ℕ → ℕ
red555 p = p / 1024 % 32

-- its green channel
abbrev pub green555 : ℕ → ℕ
green555 p = p / 32 % 32

-- its blue channel
abbrev pub blue555 : ℕ → ℕ
blue555 p = p % 32

-- the RGB565 word of an RGB555 word: green's high bit is repeated below it
unfoldable pub from555 : ℕ → ℕ
from555 p = red555 p * 2048 + green555 p * 64 + green555 p / 16 * 32 + blue555 p

-- the RGB555 word of an RGB565 word: green's low bit is dropped
unfoldable pub to555 : ℕ → ℕ
to555 p = red5 p * 1024 + p / 64 % 32 * 32 + blue5 p
