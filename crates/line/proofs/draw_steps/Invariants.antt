-- The steps before i are drawn, and the quotient is that of step i.
use Rattle.line.specs.Inner.{Carried}
use Rattle.line.proofs.Dots.{Drawn}
use Rattle.line.proofs.draw_steps.Given as goal

abbrev pub invariant-loop-i : goal.invariant-loop-i
invariant-loop-i l = record {
  drawn : Drawn l.u l.v l.slope l.color l.initial.pixels l.i l.drawn l.pixels;
  quotient : Carried l.slope l.i l.at;
}
