use mathlib.Core.Path.{◌≡◌}
use Prim.Native.Nat.{◌≤◌}
use lib.ListN.{length}
use Rattle.numbers.specs.Layout.{record_size}
use Rattle.place.proofs.Numbers.{Sought}
use Rattle.place.proofs.locate.Given as goal

abbrev pub invariant-loop-i : goal.invariant-loop-i
invariant-loop-i l = (l.i ≤ l.n) × ((l.n ≤ 256) × ((length l.numbers ≡ record_size) × Sought l.numbers l.handle l.i l.start))
