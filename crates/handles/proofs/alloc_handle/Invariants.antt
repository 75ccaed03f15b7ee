use Rattle.std.proofs.Common.{◌≡◌, ◌-◌, ◌≤◌}
use Rattle.numbers.specs.Layout.{next_handle_place}
use Rattle.numbers.specs.Block.{at}
use Rattle.numbers.specs.View.{view}
use Rattle.handles.specs.Handles.{ahead, first_free, tries, new_handle}
use Rattle.handles.proofs.alloc_handle.Given as goal

abbrev pub invariant-loop-k : goal.invariant-loop-k
invariant-loop-k l = first_free (view l.numbers).objects (view l.numbers).count (at l.numbers next_handle_place) l.k (tries - l.k) ≡ new_handle (view l.numbers)
