-- `bits::put_bits` meets its contract: the byte stored is the old one with the bits of v in their place. Assumes nothing.
use mathlib.Core.Path.{◌≡◌, sym, ◌∙◌, ap}
use mathlib.Core.List.{List}
use Prim.Native.Nat.{ℕ, ◌+◌, ◌*◌, ◌-◌, ◌/◌, ◌%◌, ◌≤◌, ◌<◌, ◌^◌}
use native.Mathlib.Nat.{mod-lt, mod-eq_of_lt, div-mul-le_self}
use native.Mathlib.Omega.{arith}
use lib.ListN.{get_or, set}
use lib.Pow.{pow_pos, pow_mono, shr_le, shl_exact}
use borrow.Author.Rules.{rules}
use Rattle.words.specs.Parts.{with_part}
use Rattle.bits.specs.Bits.{bits_of}
use Rattle.bits.proofs.Fields.{with_bits, field_mod}
use Rattle.bits.proofs.Bytes.{part_with, byte_with}
use Rattle.bits.proofs.put_bits.Goals as goal

-- shifts within a byte lose no bit
module _ (m c x v : ℕ) (byte : m + c ≤ 8) (small : x < 256) where
  kept : (x / 2 ^ c / 2 ^ m * 2 ^ m) % 2 ^ 32 ≡ x / 2 ^ c / 2 ^ m * 2 ^ m
  kept = mod-eq_of_lt (omega (arith, div-mul-le_self (x / 2 ^ c) (2 ^ m), shr_le x c))

  high_fits : x / 2 ^ c / 2 ^ m * 2 ^ m + v % 2 ^ m < 2 ^ 9
  high_fits =
      let p : 2 ^ m ≤ 2 ^ 8 = pow_mono {j = 8} (omega arith) in
      omega (arith, div-mul-le_self (x / 2 ^ c) (2 ^ m), shr_le x c, mod-lt v (pow_pos m))

  stored : {r s : ℕ} → r ≡ v % 2 ^ m → s ≡ x % 2 ^ c → ((x / 2 ^ c / 2 ^ m * 2 ^ m) % 2 ^ 32 + r) * 2 ^ c % 2 ^ 32 + s ≡ with_bits m c x (v % 2 ^ m)
  stored e f = rw (e, f, kept, shl_exact {a = x / 2 ^ c / 2 ^ m * 2 ^ m + v % 2 ^ m} 9 c 32 high_fits (omega arith))

pub overflow_add-high : goal.overflow_add-high
overflow_add-high c =
    let a = c.args in
    let x = c.from-byte.result in
    let b = 8 - a.at % 8 - a.n in
    let small : x < 256 = search rules in
    rw (kept a.n b x a.v (omega arith) small, c.low_bits.ensures) (omega (arith, high_fits a.n b x a.v (omega arith) small))

-- the byte that is stored
pub overflow_cast-out : goal.overflow_cast-out
overflow_cast-out c =
    let a = c.args in
    let x = c.from-byte.result in
    let b = 8 - a.at % 8 - a.n in
    let byte : x ≡ get_or a.out.now (a.at / 8) 0 = search rules in
    let small : x < 256 = search rules in
    let is = stored a.n b x a.v (omega arith) small c.low_bits.ensures c.low_bits-2.ensures in
    rw (is, byte) (omega (arith, byte_with a.out.now a.at a.n b (omega arith) (omega arith) (a.v % 2 ^ a.n) (mod-lt a.v (pow_pos a.n)) (rw byte at small)))

pub returns : goal.returns
returns c =
    let a = c.args in
    let x = c.from-byte.result in
    let b = 8 - a.at % 8 - a.n in
    let byte : x ≡ get_or a.out.now (a.at / 8) 0 = search rules in
    let is = stored a.n b x a.v (omega arith) (search rules) c.low_bits.ensures c.low_bits-2.ensures in
    ap (λ (y : ℕ). bits_of (set a.out.now (a.at / 8) y)) (is ∙ ap (λ (y : ℕ). with_bits a.n b y (a.v % 2 ^ a.n)) byte)
    ∙ part_with a.out.now a.at a.n b (omega arith) (omega arith) (a.v % 2 ^ a.n) (mod-lt a.v (pow_pos a.n))
    ∙ ap (λ (bs : List ℕ). with_part (bits_of a.out.now) a.at a.n bs) (sym (field_mod a.n a.v))
