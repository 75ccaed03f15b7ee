use mathlib.Core.Path.{◌≡◌}
use Prim.Native.Nat.{◌≤◌, ◌-◌}
use lib.ListN.{length}
use Rattle.gdi.specs.Lookup.{scan, find_of}
use Rattle.numbers.specs.Layout.{record_size}
use Rattle.numbers.specs.View.{view}
use Rattle.lookup.proofs.find.Given as goal

abbrev pub invariant-loop-i : goal.invariant-loop-i
invariant-loop-i l = (l.i ≤ l.n) × ((l.n ≤ 256) × ((length l.numbers ≡ record_size) × (scan (view l.numbers).objects l.handle l.i (l.n - l.i) ≡ find_of (view l.numbers) l.handle)))

abbrev pub decreases-loop-i : goal.decreases-loop-i
decreases-loop-i l = l.n - l.i
