-- `unpack::is_complete` meets its contract. The invariant: the next object begins at bit `at`. Assumes nothing.
use mathlib.Core.Bool.{not}
use mathlib.Core.List.{List}
use mathlib.Core.Path.{◌≡◌, sym, ◌∙◌, ap}
use Prim.Native.Nat.{ℕ, ◌≤◌}
use native.Mathlib.Omega.{arith}
use lib.Dec.{leb}
use lib.ListN.{length}
use Rattle.bits.specs.Bits.{bits_of, field_at, total}
use Rattle.saved_table.specs.Table.{widths_of}
use Rattle.saved_table.specs.Held.{start_held}
use Rattle.saved_table.proofs.Lengths.{kind_total}
use Rattle.unpack.proofs.Starts.{bits_there, bits_missing, field_there, start_none, start_more, start_few, start_first, start_next, too_many, too_short, by_end}
use Rattle.unpack.proofs.is_complete.Goals as goal

pub returns-then-not-has_bits : goal.returns-then-not-has_bits
returns-then-not-has_bits c =
    let s = c.args.bytes.now in
    too_short (bits_of s) (omega (arith, bits_missing s c.has_bits.ensures (ap not c.if-not-has_bits.true), start_first (bits_of s) (field_at (bits_of s) 62 9)))

pub field_at-n-requires : goal.field_at-n-requires
field_at-n-requires c =
    let s = c.args.bytes.now in
    let h = bits_there s c.has_bits.ensures (ap not c.if-not-has_bits.false) in
    field_there s (omega arith) (omega arith) (omega arith)

pub returns-then-n-gt256 : goal.returns-then-n-gt256
returns-then-n-gt256 c =
    too_many (bits_of c.args.bytes.now) (omega (arith, c.field_at-n.ensures))

pub loop-init : goal.loop-init
loop-init c =
    sym (start_none (bits_of c.args.bytes.now))

-- where the loop stands is not far
near : (bs : List ℕ) (i p : ℕ) → i ≤ 256 → p ≡ start_held bs i → p ≤ 100009
near bs i p h e = omega (arith, start_few bs i)

pub overflow_add-at : goal.overflow_add-at
overflow_add-at c =
    omega (arith, near (bits_of c.args.bytes.now) c.loop.counter c.loop.at (omega arith) c.loop.invariant)

pub has_bits-requires-in-loop : goal.has_bits-requires-in-loop
has_bits-requires-in-loop c =
    omega (arith, near (bits_of c.args.bytes.now) c.loop.counter c.loop.at (omega arith) c.loop.invariant)

pub returns-then-not-has_bits-2 : goal.returns-then-not-has_bits-2
returns-then-not-has_bits-2 c =
    let s = c.args.bytes.now in
    too_short (bits_of s) (omega (
      arith,
      bits_missing s c.has_bits-in-loop.ensures (ap not c.if-not-has_bits-2.true),
      c.loop.invariant,
      start_next (bits_of s) c.loop.counter (field_at (bits_of s) 62 9) (omega (arith, c.field_at-n.ensures)),
    ))

pub field_at-requires : goal.field_at-requires
field_at-requires c =
    let s = c.args.bytes.now in
    let h = bits_there s c.has_bits-in-loop.ensures (ap not c.if-not-has_bits-2.false) in
    let g = near (bits_of c.args.bytes.now) c.loop.counter c.loop.at (omega arith) c.loop.invariant in
    field_there s (omega arith) (omega arith) (omega arith)

pub overflow_add-at-in-loop : goal.overflow_add-at-in-loop
overflow_add-at-in-loop c =
    omega (arith, c.object_bits.ensures, kind_total c.field_at.result)

pub overflow_add-at-in-loop-2 : goal.overflow_add-at-in-loop-2
overflow_add-at-in-loop-2 c =
    omega (arith, c.object_bits.ensures, kind_total c.field_at.result, near (bits_of c.args.bytes.now) c.loop.counter c.loop.at (omega arith) c.loop.invariant)

pub loop-preserved : goal.loop-preserved
loop-preserved c =
    let s = c.args.bytes.now in
    let e = c.loop.invariant in
    let kind : c.field_at.result ≡ field_at (bits_of s) (start_held (bits_of s) c.loop.counter) 3 = c.field_at.ensures ∙ ap (λ p. field_at (bits_of s) p 3) e in
    let wide : c.object_bits.result ≡ total (widths_of (field_at (bits_of s) (start_held (bits_of s) c.loop.counter) 3)) = c.object_bits.ensures ∙ ap (λ k. total (widths_of k)) kind in
    omega (arith, wide, e, start_more (bits_of s) c.loop.counter)

pub has_bits-requires-2 : goal.has_bits-requires-2
has_bits-requires-2 c =
    omega (arith, start_few (bits_of c.args.bytes.now) c.loop.counter)

pub returns : goal.returns
returns c =
    let s = c.args.bytes.now in
    let e : c.loop.counter ≡ field_at (bits_of s) 62 9 = omega (arith, c.field_at-n.ensures) in
    by_end (bits_of s) (omega (arith, c.field_at-n.ensures)) (c.has_bits-2.ensures ∙ ap (λ p. leb p (length (bits_of s))) (c.loop.invariant ∙ ap (start_held (bits_of s)) e))
