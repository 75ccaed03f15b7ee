-- Ternary raster operations: the result of a raster code for pattern, source and destination, bit by bit.
use Rattle.std.specs.Prelude.{Bool, not, ℕ, zero, suc, ◌+◌, ◌*◌, ◌/◌, ◌%◌, eqb}
use Rattle.arithmetic.specs.Test.{any_below}

-- bit n of v, 0 or 1
abbrev pub bit : ℕ → ℕ → ℕ
bit v zero = v % 2
bit v (suc n) = bit (v / 2) n

-- the number whose k bits are f 0, f 1, .. , f (k - 1), the last the highest
abbrev pub from_bits : ℕ → (ℕ → ℕ) → ℕ
from_bits zero f = 0
from_bits (suc k) f = f 0 + 2 * from_bits k (λ n. f (suc n))

-- the table byte of a raster code is bits 16 to 23
abbrev pub table_of : ℕ → ℕ
table_of rop = rop / 65536 % 256

-- the table's result for one bit each of P, S and D: table bit 4P + 2S + D
abbrev pub result : ℕ → ℕ → ℕ → ℕ → ℕ
result t p s d = bit t (4 * p + 2 * s + d)

-- each of the 16 result bits is the table's bit 4P + 2S + D
unfoldable pub applied : ℕ → ℕ → ℕ → ℕ → ℕ
applied t pat src dst = from_bits 16 (λ n. result t (bit pat n) (bit src n) (bit dst n))

-- two results are different
abbrev pub differ : ℕ → ℕ → Bool
differ a b = not (eqb a b)

-- some a and b give different results for x = 0 and 1
abbrev pub uses : (ℕ → ℕ → ℕ → ℕ) → Bool
uses f = any_below 2 (λ a. any_below 2 (λ b. differ (f a b 0) (f a b 1)))

-- some P and D give different results for S = 0 and 1
abbrev pub uses_src : ℕ → Bool
uses_src t = uses (λ p d s. result t p s d)

-- some P and S give different results for D = 0 and 1
abbrev pub uses_dst : ℕ → Bool
uses_dst t = uses (λ p s d. result t p s d)
