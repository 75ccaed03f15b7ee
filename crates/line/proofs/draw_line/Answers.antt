-- `line::draw_line` meets its contract: a pixel for each column, or one for each row. Assumes nothing.
use mathlib.Core.Path.{◌≡◌}
use Prim.Native.Nat.{ℕ}
use native.Mathlib.Omega.{arith}
use lib.IntN.{ℤ, ◌-ℤ◌, nat_abs}
use mir.Syntax.{w32}
use mir.Val.{SFits}
use Rattle.arithmetic.proofs.Machine.{held32, stored32}
use Rattle.line.specs.declared.Axis.{Axis}
use Rattle.line.specs.Line.{extent}
use Rattle.line.specs.Inner.{Seen}
use Rattle.line.proofs.Line.{flat_steps_fit, flat_lined, steep_steps_fit, steep_lined}
use Rattle.line.proofs.draw_line.Goals as goal

-- an extent and an axis, at the coordinates that were passed
module _ {from to : ℤ} (f : SFits w32 from) (t : SFits w32 to) where
  extent_passed : {n : ℕ} → n ≡ nat_abs (held32 to -ℤ held32 from) → n ≡ extent from to
  extent_passed e = rw (stored32 from f, stored32 to t) at e

  axis_passed : (n side stride : ℕ) {x : Axis} → Seen (held32 from) (held32 to) n side stride x → Seen from to n side stride x
  axis_passed n side stride s = rw (stored32 from f, stored32 to t) at s

pub draw_steps-requires : goal.draw_steps-requires
draw_steps-requires c =
    let r = c.ranges in
    let a = extent_passed r.x0 r.x1 c.abs_diff-a.ensures in
    let b = extent_passed r.y0 r.y1 c.abs_diff-b.ensures in
    flat_steps_fit c.args.pixels.now c.requires.in_order a b c.if-b-a.true (omega (arith, c.requires.x1_bound))
    (axis_passed r.x0 r.x1 _ _ _ c.axis_of-columns.ensures) (axis_passed r.y0 r.y1 _ _ _ c.axis_of-rows.ensures)

pub returns-then-b-a : goal.returns-then-b-a
returns-then-b-a c =
    let r = c.ranges in
    let a = extent_passed r.x0 r.x1 c.abs_diff-a.ensures in
    let b = extent_passed r.y0 r.y1 c.abs_diff-b.ensures in
    let drawn = flat_lined c.args.pixels.now c.requires.in_order a b c.if-b-a.true (omega (arith, c.requires.x1_bound))
    (axis_passed r.x0 r.x1 _ _ _ c.axis_of-columns.ensures) (axis_passed r.y0 r.y1 _ _ _ c.axis_of-rows.ensures) c.args.color c.draw_steps.ensures.value c.draw_steps.ensures.bytes in
    record { value = drawn.0; bytes = drawn.1 }

pub draw_steps-requires-else-b-a : goal.draw_steps-requires-else-b-a
draw_steps-requires-else-b-a c =
    let r = c.ranges in
    let a = extent_passed r.x0 r.x1 c.abs_diff-a.ensures in
    let b = extent_passed r.y0 r.y1 c.abs_diff-b.ensures in
    steep_steps_fit c.args.pixels.now c.requires.in_order a b c.if-b-a.false (omega (arith, c.requires.x1_bound))
    (axis_passed r.y0 r.y1 _ _ _ c.axis_of-rows-else-b-a.ensures) (axis_passed r.x0 r.x1 _ _ _ c.axis_of-columns-else-b-a.ensures)

pub returns-else-b-a : goal.returns-else-b-a
returns-else-b-a c =
    let r = c.ranges in
    let a = extent_passed r.x0 r.x1 c.abs_diff-a.ensures in
    let b = extent_passed r.y0 r.y1 c.abs_diff-b.ensures in
    let drawn = steep_lined c.args.pixels.now c.requires.in_order a b c.if-b-a.false (omega (arith, c.requires.x1_bound))
    (axis_passed r.y0 r.y1 _ _ _ c.axis_of-rows-else-b-a.ensures) (axis_passed r.x0 r.x1 _ _ _ c.axis_of-columns-else-b-a.ensures) c.args.color c.draw_steps-else-b-a.ensures.value c.draw_steps-else-b-a.ensures.bytes in
    record { value = drawn.0; bytes = drawn.1 }
