-- Numbers in a list of bytes, most significant byte first; signed ones are two's complement.
use Rattle.std.specs.Prelude.{cond, List, ℕ, ◌+◌, ◌*◌, ◌^◌, ltb, ℤ, pos, ◌-ℤ◌, get_or}

-- the 16 bits at `at`
abbrev pub be16 : List ℕ → ℕ → ℕ
be16 s at = 256 * get_or s at 0 + get_or s (at + 1) 0

-- the 32 bits at `at`
abbrev pub be32 : List ℕ → ℕ → ℕ
be32 s at = 65536 * be16 s at + be16 s (at + 2)

-- the integer whose two's complement is n; numbers from half on are negative
abbrev pub signed : ℕ → ℕ → ℤ
signed half n = cond (ltb n half) (pos n) (pos n -ℤ pos (2 * half))

-- in 16 bits
abbrev pub signed16 : ℕ → ℤ
signed16 n = signed (2 ^ 15) n

-- in 32 bits
abbrev pub signed32 : ℕ → ℤ
signed32 n = signed (2 ^ 31) n
