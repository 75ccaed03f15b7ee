use mathlib.Core.Path.{◌≡◌}
use Prim.Native.Nat.{◌+◌, ◌-◌, ◌≤◌}
use lib.ListN.{length, drop}
use lib.Seq.{paste}
use Rattle.numbers.specs.Layout.{slot_size, record_size, slot_place}
use Rattle.removal.proofs.remove_slot.Given as goal

abbrev pub invariant-loop-k : goal.invariant-loop-k
invariant-loop-k l = (l.numbers ≡ paste l.initial.numbers (slot_place l.i) (drop (slot_place l.i + slot_size) l.initial.numbers) (l.k - (slot_place l.i)))
    × ((length l.numbers ≡ length l.initial.numbers) × ((l.end + slot_size ≤ length l.initial.numbers) × ((length l.initial.numbers ≡ record_size) × ((slot_place l.i ≤ l.k) × (l.k ≤ l.end)))))

abbrev pub decreases-loop-k : goal.decreases-loop-k
decreases-loop-k l = l.end - l.k
