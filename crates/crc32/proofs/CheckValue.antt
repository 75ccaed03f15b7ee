-- The definition is the CRC-32 of zlib and PNG: it gives the CRC catalogue's check value, that of the nine bytes `123456789`, and the
-- CRC of PNG's last chunk, `IEND`. Assumes nothing.
use mathlib.Core.Path.{◌≡◌, refl}
use mathlib.Core.List.{[], ◌∷◌}
use Rattle.crc32.specs.Crc32.{bit_step, bit_steps, byte_step, byte_steps, crc32}

pub check_value : crc32 (0x31 ∷ 0x32 ∷ 0x33 ∷ 0x34 ∷ 0x35 ∷ 0x36 ∷ 0x37 ∷ 0x38 ∷ 0x39 ∷ []) ≡ 0xCBF43926
unfolding bit_step bit_steps byte_step byte_steps crc32
check_value = refl

pub last_chunk : crc32 (0x49 ∷ 0x45 ∷ 0x4E ∷ 0x44 ∷ []) ≡ 0xAE426082
unfolding bit_step bit_steps byte_step byte_steps crc32
last_chunk = refl
