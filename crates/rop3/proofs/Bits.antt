-- Laws of the bits of a number and of the code's masks. Assumes nothing.
use mathlib.Core.Path.{◌≡◌, refl, ◌∙◌, ap}
use Prim.Native.Nat.{ℕ, zero, suc, ◌+◌, ◌*◌, ◌/◌, ◌%◌, ◌^◌, ◌<◌, min}
use native.Mathlib.Omega.{arith}
use lib.Bits.{bit_and, bit_xor, and_step, xor_step, differ as xor_bit}
use lib.Dec.{eqb}
use borrow.Author.Tests.{eqb-true}
use Rattle.arithmetic.proofs.Test.{each}
use Rattle.rop3.specs.Rop3.{bit, from_bits}
use Rattle.rop3.specs.Inner.{pick}

-- a bit is 0 or 1
pub data Digit : ℕ → Type 0 where
  off : Digit 0
  on : Digit 1

digit : (x : ℕ) → x < 2 → Digit x
digit zero h = off
digit (suc zero) h = on
digit (suc (suc x)) h = absurd (omega arith)

pub bit_digit : (n v : ℕ) → Digit (bit v n)
bit_digit zero v = digit (v % 2) (omega arith)
bit_digit (suc n) v = bit_digit n (v / 2)

digit_lt : {x : ℕ} → Digit x → x < 2
digit_lt off = omega arith
digit_lt on = omega arith

pub bit_lt : (n v : ℕ) → bit v n < 2
bit_lt n v = digit_lt (bit_digit n v)

-- one step of a mask: its last bit, and its half
last : (x y a : ℕ) → x ≡ y * 2 + a → a < 2 → x % 2 ≡ a
last x y a e h = omega arith

rest : (x y a : ℕ) → x ≡ y * 2 + a → a < 2 → x / 2 ≡ y
rest x y a e h = omega arith

xor_digits : {x y : ℕ} → Digit x → Digit y → xor_bit x y < 2
xor_digits off off = omega arith
xor_digits off on = omega arith
xor_digits on off = omega arith
xor_digits on on = omega arith

bit_and_lem : (n a b : ℕ) → bit (bit_and a b) n ≡ min (bit a n) (bit b n)
bit_and_lem zero a b = last (bit_and a b) (bit_and (a / 2) (b / 2)) (min (a % 2) (b % 2)) (and_step a b) (omega arith)
bit_and_lem (suc n) a b =
    ap (λ (x : ℕ). bit x n) (rest (bit_and a b) (bit_and (a / 2) (b / 2)) (min (a % 2) (b % 2)) (and_step a b) (omega arith))
    ∙ bit_and_lem n (a / 2) (b / 2)

bit_xor_lem : (n a b : ℕ) → bit (bit_xor a b) n ≡ xor_bit (bit a n) (bit b n)
bit_xor_lem zero a b = last (bit_xor a b) (bit_xor (a / 2) (b / 2)) (xor_bit (a % 2) (b % 2)) (xor_step a b) (xor_digits (bit_digit 0 a) (bit_digit 0 b))
bit_xor_lem (suc n) a b =
    ap (λ (x : ℕ). bit x n) (rest (bit_xor a b) (bit_xor (a / 2) (b / 2)) (xor_bit (a % 2) (b % 2)) (xor_step a b) (xor_digits (bit_digit 0 a) (bit_digit 0 b)))
    ∙ bit_xor_lem n (a / 2) (b / 2)

select : {a b c : ℕ} → Digit a → Digit b → Digit c → xor_bit b (min c (xor_bit a b)) ≡ pick c a b
select off off off = refl
select off off on = refl
select off on off = refl
select off on on = refl
select on off off = refl
select on off on = refl
select on on off = refl
select on on on = refl

-- the multiplexer b ^ (c & (a ^ b)), bit by bit
pub bit_mux : (n a b c : ℕ) → bit (bit_xor b (bit_and c (bit_xor a b))) n ≡ pick (bit c n) (bit a n) (bit b n)
bit_mux n a b c =
    bit_xor_lem n b (bit_and c (bit_xor a b))
    ∙ ap (xor_bit (bit b n)) (bit_and_lem n c (bit_xor a b) ∙ ap (min (bit c n)) (bit_xor_lem n a b))
    ∙ select (bit_digit n a) (bit_digit n b) (bit_digit n c)

-- a number is made of its bits
pub from_bits_lem : (k v : ℕ) (f : ℕ → ℕ) → v < 2 ^ k → ((n : ℕ) → n < k → bit v n ≡ f n) → v ≡ from_bits k f
from_bits_lem zero v f h e = omega arith
from_bits_lem (suc k) v f h e =
    let low : v % 2 ≡ f 0 = e 0 (omega arith) in
    let high : v / 2 ≡ from_bits k (λ n. f (suc n)) = from_bits_lem k (v / 2) (λ n. f (suc n)) (omega arith) (λ n l. e (suc n) (omega arith)) in
    omega arith

pub from_bits_cong : (k : ℕ) (f g : ℕ → ℕ) → ((n : ℕ) → f n ≡ g n) → from_bits k f ≡ from_bits k g
from_bits_cong zero f g h = refl
from_bits_cong (suc k) f g h = rw (h 0, from_bits_cong k (λ n. f (suc n)) (λ n. g (suc n)) (λ n. h (suc n)))

pub from_bits_lt : (k : ℕ) (f : ℕ → ℕ) → ((n : ℕ) → f n < 2) → from_bits k f < 2 ^ k
from_bits_lt zero f h = omega arith
from_bits_lt (suc k) f h = omega (arith, h 0, from_bits_lt k (λ n. f (suc n)) (λ n. h (suc n)))

pub bit_from_bits : (k : ℕ) (f : ℕ → ℕ) → ((n : ℕ) → f n < 2) → (n : ℕ) → n < k → bit (from_bits k f) n ≡ f n
bit_from_bits zero f h n l = absurd (omega arith)
bit_from_bits (suc k) f h zero l = omega (arith, h 0)
bit_from_bits (suc k) f h (suc n) l =
    ap (λ (x : ℕ). bit x n) (half (from_bits k (λ m. f (suc m))) (f 0) (h 0)) ∙ bit_from_bits k (λ m. f (suc m)) (λ m. h (suc m)) n (omega arith)
  where
    half : (x a : ℕ) → a < 2 → (a + 2 * x) / 2 ≡ x
    half x a q = omega arith

-- a bit times 65,535 is that bit sixteen times
zero_bit : (n : ℕ) → bit 0 n ≡ 0
zero_bit zero = refl
zero_bit (suc n) = zero_bit n

pub spread_bit : (b n : ℕ) → b < 2 → n < 16 → bit (b * 65535) n ≡ b
spread_bit zero n h l = zero_bit n
spread_bit (suc zero) n h l = eqb-true (bit 65535 n) 1 (each 16 (λ k. eqb (bit 65535 k) 1) refl n l)
spread_bit (suc (suc b)) n h l = absurd (omega arith)

-- the tree of multiplexers: the entry of a table of D, of S and D, of P, S and D
pub by_d_lem : (t : ℕ) {d : ℕ} → Digit d → pick d (t / 2 % 2) (t % 2) ≡ bit t d
by_d_lem t off = refl
by_d_lem t on = refl

pub by_s_lem : (t : ℕ) {s d : ℕ} → Digit s → Digit d → pick s (bit (t / 4) d) (bit t d) ≡ bit t (2 * s + d)
by_s_lem t off off = refl
by_s_lem t off on = refl
by_s_lem t on off = omega arith
by_s_lem t on on = omega arith

pub by_p : (t : ℕ) {p s d : ℕ} → Digit p → Digit s → Digit d → pick p (bit (t / 16) (2 * s + d)) (bit t (2 * s + d)) ≡ bit t (4 * p + 2 * s + d)
by_p t off off off = refl
by_p t off off on = refl
by_p t off on off = refl
by_p t off on on = refl
by_p t on off off = omega arith
by_p t on off on = omega arith
by_p t on on off = omega arith
by_p t on on on = omega arith
