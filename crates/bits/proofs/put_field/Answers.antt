-- `bits::put_field` meets its contract. The invariant: the k bits left to put, from p on, lead to the result. Assumes nothing.
use mathlib.Core.Path.{◌≡◌, refl, sym, ◌∙◌, ap}
use Prim.Native.Nat.{ℕ, ◌+◌, ◌-◌, ◌/◌, ◌^◌}
use native.Mathlib.Omega.{arith}
use borrow.Author.Rules.{rules}
use Rattle.words.specs.Parts.{with_part}
use Rattle.bits.specs.Bits.{bits_of, field}
use Rattle.bits.proofs.Bytes.{length_bits}
use Rattle.bits.proofs.Runs.{put_more, put_none}
use Rattle.bits.proofs.put_field.Goals as goal

pub loop-k-init : goal.loop-k-init
loop-k-init c =
    (refl, (omega arith, (refl, refl)))

pub overflow_shr-v : goal.overflow_shr-v
overflow_shr-v c =
    omega (arith, c.share-m.ensures.1.1 (omega arith))

pub loop-k-smaller : goal.loop-k-smaller
loop-k-smaller c =
    omega (arith, c.share-m.ensures.1.1 (omega arith))

pub loop-k-preserved : goal.loop-k-preserved
loop-k-preserved c =
    let l = c.loop-k in
    let v = c.args.v in
    let m = c.share-m.result in
    let k = l.k - m in
    let e : m + k ≡ l.k = omega arith in
    let put : bits_of c.put_bits.new.out ≡ with_part (bits_of l.out) l.p m (field m (v / 2 ^ k)) = c.put_bits.ensures in (
      omega arith,
      (
        omega arith,
        (
          search rules,
          rw put (put_more (bits_of l.out) l.p m k v (omega (arith, length_bits l.out)))
              ∙ ap (λ (j : ℕ). with_part (bits_of l.out) l.p j (field j v)) e
              ∙ l.invariant.1.1.1,
        ),
      ),
    )

pub returns : goal.returns
returns c =
    let l = c.loop-k in
    let e : l.k ≡ 0 = omega arith in
    sym (put_none (bits_of l.out) l.p c.args.v) ∙ (rw e at l.invariant.1.1.1)
