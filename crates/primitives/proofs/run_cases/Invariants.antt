-- `primitives::run_cases` meets its contract. The invariant: the memory keeps its length, and the state is sound. The measure is the rest of the script.
use Rattle.std.proofs.Common.{◌≡◌, ◌-◌, length}
use Rattle.primitives.specs.Cases.{Sound}
use Rattle.primitives.proofs.run_cases.Given as goal

abbrev pub invariant-loop-at : goal.invariant-loop-at
invariant-loop-at g l = (length l.mem ≡ 153600) × Sound l.state

abbrev pub decreases-loop-at : goal.decreases-loop-at
decreases-loop-at g l = length l.s - l.at
