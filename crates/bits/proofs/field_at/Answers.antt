-- `bits::field_at` meets its contract. The invariant: r is the number in the k bits read. Assumes nothing.
use mathlib.Core.List.{List}
use mathlib.Core.Path.{◌≡◌, sym}
use Prim.Native.Nat.{ℕ, ◌+◌, ◌*◌, ◌%◌, ◌≤◌, ◌<◌, ◌^◌}
use native.Mathlib.Omega.{arith}
use lib.ListN.{length}
use lib.Pow.{pow_mono, shl_exact}
use Rattle.words.specs.Parts.{part}
use Rattle.bits.specs.Bits.{bits_of, number_of}
use Rattle.bits.proofs.Fields.{number_none}
use Rattle.bits.proofs.Bytes.{length_bits, bits_of_bytes}
use Rattle.bits.proofs.Runs.{part_small, part_more}
use Rattle.bits.proofs.field_at.Goals as goal

-- the next bits are read
module _ (s : List ℕ) (at k m r b : ℕ) (few : k + m ≤ 32) (fits : at + k + m ≤ 8 * length s) (e : r ≡ number_of (part (bits_of s) at k)) (f : b ≡ number_of (part (bits_of s) (at + k) m)) where
  small : (j : ℕ) → at + j ≤ 8 * length s → number_of (part (bits_of s) at j) < 2 ^ j
  small j h = part_small (bits_of s) at j (bits_of_bytes s) (omega (arith, length_bits s))

  next : r * 2 ^ m % 2 ^ 32 + b ≡ number_of (part (bits_of s) at (k + m))
  next =
      let l : r < 2 ^ k = rw e (small k (omega arith)) in
      rw (shl_exact {a = r} k m 32 l few, e, f) (sym (part_more (bits_of s) at k m (omega (arith, length_bits s))))

  fits_word : r * 2 ^ m % 2 ^ 32 + b < 2 ^ 32
  fits_word = let p : 2 ^ (k + m) ≤ 2 ^ 32 = pow_mono {j = 32} few in rw next (omega (arith, small (k + m) (omega arith)))

pub loop-k-init : goal.loop-k-init
loop-k-init c =
    (omega arith, sym number_none)

pub overflow_add-r : goal.overflow_add-r
overflow_add-r c =
    let l = c.loop-k in
    let a = c.args in
    let m = c.share-m.result in
    let w = fits_word a.s.now a.at l.k m l.r c.bits_at.result (omega arith) (omega arith) l.invariant.1 c.bits_at.ensures in
    omega arith

pub loop-k-smaller : goal.loop-k-smaller
loop-k-smaller c =
    omega (arith, c.share-m.ensures.1.1 (omega arith))

pub loop-k-preserved : goal.loop-k-preserved
loop-k-preserved c =
    let l = c.loop-k in
    let a = c.args in
    let m = c.share-m.result in
    (omega arith, next a.s.now a.at l.k m l.r c.bits_at.result (omega arith) (omega arith) l.invariant.1 c.bits_at.ensures)

pub returns : goal.returns
returns c =
    let e : c.loop-k.k ≡ c.args.n = omega arith in
    rw e at c.loop-k.invariant.1
