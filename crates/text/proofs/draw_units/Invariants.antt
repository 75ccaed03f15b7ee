use Rattle.text.proofs.Drawn.{AtUnit}
use Rattle.text.proofs.draw_units.Given as goal

abbrev pub invariant-loop-k : goal.invariant-loop-k
invariant-loop-k l = AtUnit l.width l.height l.s l.n l.x l.y l.color.0 l.initial.pixels l.k l.pixels
