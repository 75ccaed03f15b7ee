-- `line::draw_steps` meets its contract. Assumes nothing.
use mathlib.Core.Bool.{false}
use mathlib.Core.Path.{◌≡◌, ◌∙◌}
use Prim.Native.Nat.{◌+◌, ◌≤◌, ◌<◌}
use native.Mathlib.Omega.{arith}
use Rattle.line.specs.Line.{along}
use Rattle.line.proofs.Along.{along_is}
use Rattle.line.proofs.Dots.{Drawn, none_along_u, none_along_v, drawn_more, drawn_past, drawn_behind}
use Rattle.line.proofs.draw_steps.Goals as goal
use Rattle.line.proofs.draw_steps.Goals.{then-u-via-then-u, then-u-via-else-u+then-v, then-v-at-2, else-v-at-2}

-- no step lies on one of the sides
pub returns-then-u : goal.returns-then-u
returns-then-u c =
    let a = c.args in
    let d : Drawn a.u a.v a.slope a.color a.pixels.now a.u.end false a.pixels.now =
    elim c.then-u.branch [
      | then-u-via-then-u w ↦ none_along_u a.u a.v a.slope a.color a.pixels.now a.u.end w.if-u.true
      | then-u-via-else-u+then-v w ↦ none_along_v a.u a.v a.slope a.color a.pixels.now a.u.end w.if-v.true
    ] in
    record { value = d.mark; bytes = d.bytes }

-- no step before the first lies on the side
pub loop-i-init : goal.loop-i-init
loop-i-init c =
    let a = c.args in
    record { drawn = none_along_u a.u a.v a.slope a.color a.pixels.now a.u.begin (omega arith); quotient = c.quotient_at-at.ensures }

-- this step and all after it lie behind the other side
pub returns-then-v-at : goal.returns-then-v-at
returns-then-v-at c =
    let a = c.args in
    let l = c.loop-i in
    let below : l.i < a.slope.long = omega (arith, c.loop-i-test.true, c.requires.few) in
    let d = drawn_behind l.invariant.drawn (along_is a.slope.long a.slope.short l.invariant.quotient) (omega arith) (omega arith) c.if-v-at.true in
    record { value = d.mark; bytes = d.bytes }

-- the step is drawn, or it lies before the side
pub loop-i-preserved : goal.loop-i-preserved
loop-i-preserved c =
    let a = c.args in
    let l = c.loop-i in
    let before = l.invariant.drawn in
    let quotient : along a.slope.long a.slope.short l.i ≡ l.at.q = along_is a.slope.long a.slope.short l.invariant.quotient in
    let from : a.u.begin ≤ l.i = omega arith in
    let test = c.loop-i-test.true in
    let high = c.if-v-at.false in
    let next : Drawn a.u a.v a.slope a.color a.pixels.now (l.i + 1) c.if-v-at-2.drawn c.if-v-at-2.pixels =
    elim c.if-v-at-2.branch [
      | then-v-at-2 w ↦
          let low = w.if-v-at-2.true in
          drawn_more before quotient from test low high w.word.ensures (omega (arith, w.word.ensures, c.requires.room l.i l.at.q from test low high)) w.drawn-is (w.pixels-is ∙ w.set_word.ensures)
      | else-v-at-2 w ↦ drawn_past before quotient w.if-v-at-2.false w.drawn-is w.pixels-is
    ] in
    record { drawn = next; quotient = c.next_quotient-at.ensures l.i l.invariant.quotient }
