-- The first k units are there.
use Rattle.std.proofs.Common.{◌++◌, ◌≡◌, drop}
use Rattle.script.specs.Script.{units_in}
use Rattle.script.proofs.read_units.Given as goal

abbrev pub invariant-loop-k : goal.invariant-loop-k
invariant-loop-k l = l.unit-items ≡ units_in l.s l.p l.k ++ drop l.k l.initial.unit-items
