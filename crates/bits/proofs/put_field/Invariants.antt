use mathlib.Core.Path.{◌≡◌}
use Prim.Native.Nat.{◌+◌, ◌≤◌}
use lib.ListN.{length}
use Rattle.words.specs.Parts.{with_part}
use Rattle.bits.specs.Bits.{bits_of, field}
use Rattle.bits.proofs.put_field.Given as goal

abbrev pub invariant-loop-k : goal.invariant-loop-k
invariant-loop-k l = (l.p + l.k ≡ l.at + l.n) × ((l.k ≤ l.n) × ((length l.out ≡ length l.initial.out) × (with_part (bits_of l.out) l.p l.k (field l.k l.v) ≡ with_part (bits_of l.initial.out) l.at l.n (field l.n l.v))))

abbrev pub decreases-loop-k : goal.decreases-loop-k
decreases-loop-k l = l.k
