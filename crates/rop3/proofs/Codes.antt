-- The result of a code: its bits, its range, and the three tables that have a loop of their own. Assumes nothing.
use mathlib.Core.Path.{◌≡◌, refl, ◌∙◌, ap}
use Prim.Native.Nat.{ℕ, zero, suc, ◌+◌, ◌*◌, ◌-◌, ◌/◌, ◌^◌, ◌<◌}
use native.Mathlib.Omega.{arith}
use Rattle.rop3.specs.Rop3.{bit, result, applied}
use Rattle.rop3.proofs.Bits.{Digit, off, on, bit_digit, bit_lt, from_bits_lem, from_bits_lt, bit_from_bits}

-- bit n of the result is bit 4P + 2S + D of the table
pub applied_bit : (t p s d n : ℕ) → n < 16 → bit (applied t p s d) n ≡ result t (bit p n) (bit s n) (bit d n)
unfolding applied
applied_bit t p s d n l = bit_from_bits 16 (λ m. result t (bit p m) (bit s m) (bit d m)) (λ m. bit_lt (4 * bit p m + 2 * bit s m + bit d m) t) n l

pub applied_lt : (t p s d : ℕ) → applied t p s d < 65536
unfolding applied
applied_lt t p s d = from_bits_lt 16 (λ m. result t (bit p m) (bit s m) (bit d m)) (λ m. bit_lt (4 * bit p m + 2 * bit s m + bit d m) t)

-- table CC (hex), SRCCOPY's, is the source
copies : {p s d : ℕ} → Digit p → Digit s → Digit d → s ≡ result 0xCC p s d
copies off off off = refl
copies off off on = refl
copies off on off = refl
copies off on on = refl
copies on off off = refl
copies on off on = refl
copies on on off = refl
copies on on on = refl

pub applied_copy : (p s d : ℕ) → s < 65536 → s ≡ applied 0xCC p s d
unfolding applied
applied_copy p s d h = from_bits_lem 16 s (λ n. result 0xCC (bit p n) (bit s n) (bit d n)) h (λ n l. copies (bit_digit n p) (bit_digit n s) (bit_digit n d))

-- table F0 (hex), PATCOPY's, is the pattern
patterns : {p s d : ℕ} → Digit p → Digit s → Digit d → p ≡ result 0xF0 p s d
patterns off off off = refl
patterns off off on = refl
patterns off on off = refl
patterns off on on = refl
patterns on off off = refl
patterns on off on = refl
patterns on on off = refl
patterns on on on = refl

pub applied_pattern : (p s d : ℕ) → p < 65536 → p ≡ applied 0xF0 p s d
unfolding applied
applied_pattern p s d h = from_bits_lem 16 p (λ n. result 0xF0 (bit p n) (bit s n) (bit d n)) h (λ n l. patterns (bit_digit n p) (bit_digit n s) (bit_digit n d))

-- table 55 (hex), DSTINVERT's, is the destination with each bit inverted
inverts : {p s d : ℕ} → Digit p → Digit s → Digit d → 1 - d ≡ result 0x55 p s d
inverts off off off = refl
inverts off off on = refl
inverts off on off = refl
inverts off on on = refl
inverts on off off = refl
inverts on off on = refl
inverts on on off = refl
inverts on on on = refl

-- the k bits of all ones less a number
inverted_bit : (k n d : ℕ) → d < 2 ^ k → n < k → bit (2 ^ k - 1 - d) n ≡ 1 - bit d n
inverted_bit zero n d h l = absurd (omega arith)
inverted_bit (suc k) zero d h l = let e : 2 ^ suc k ≡ 2 * 2 ^ k = omega arith in omega arith
inverted_bit (suc k) (suc n) d h l =
    let e : (2 ^ suc k - 1 - d) / 2 ≡ 2 ^ k - 1 - d / 2 = omega arith in
    ap (λ (v : ℕ). bit v n) e ∙ inverted_bit k n (d / 2) (omega arith) (omega arith)

pub applied_invert : (p s d : ℕ) → d < 65536 → 65535 - d ≡ applied 0x55 p s d
unfolding applied
applied_invert p s d h =
    from_bits_lem 16 (65535 - d) (λ n. result 0x55 (bit p n) (bit s n) (bit d n)) (omega arith)
    (λ n l. inverted_bit 16 n d h l ∙ inverts (bit_digit n p) (bit_digit n s) (bit_digit n d))
