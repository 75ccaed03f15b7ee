-- The CRC-32 of zlib and PNG over a list of bytes, bit by bit.
use Rattle.std.specs.Prelude.{List, [], ◌∷◌, ℕ, zero, suc, ◌*◌, ◌/◌, ◌%◌}
use Rattle.std.specs.Int.Bits.{bit_xor}

-- one shift: the low bit is shifted out, and if it is 1 the reflected polynomial is added
unfoldable pub bit_step : ℕ → ℕ
bit_step c = bit_xor (c / 2) (c % 2 * 0xEDB88320)

-- n shifts
unfoldable pub bit_steps : ℕ → ℕ → ℕ
bit_steps zero c = c
bit_steps (suc n) c = bit_steps n (bit_step c)

-- a byte is added at the low end, then eight shifts
unfoldable pub byte_step : ℕ → ℕ → ℕ
byte_step c b = bit_steps 8 (bit_xor c b)

-- the bytes in order
unfoldable pub byte_steps : ℕ → List ℕ → ℕ
byte_steps c [] = c
byte_steps c (b ∷ bs) = byte_steps (byte_step c b) bs

-- all bits are 1 at the start, and are inverted at the end
unfoldable pub crc32 : List ℕ → ℕ
crc32 bytes = bit_xor (byte_steps 0xFFFFFFFF bytes) 0xFFFFFFFF
