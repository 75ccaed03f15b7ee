use mathlib.Core.Path.{◌≡◌}
use Prim.Native.Nat.{◌+◌, ◌*◌, ◌≤◌}
use Rattle.numbers.specs.View.{view}
use Rattle.sound.specs.Sound.{start_of}
use Rattle.sound.proofs.start_of.Given as goal

abbrev pub invariant-loop-i : goal.invariant-loop-i
invariant-loop-i l = (l.end ≡ start_of (view l.numbers) l.i) × (l.end ≤ 2 + 33554432 * l.i)
