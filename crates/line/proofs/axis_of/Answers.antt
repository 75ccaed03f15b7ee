-- `line::axis_of` meets its contract: `visible` in the direction of the line. Assumes nothing.
use mathlib.Core.Bool.{true, false}
use mathlib.Core.Path.{◌≡◌, ◌∙◌, ap}
use native.Mathlib.Omega.{arith}
use lib.IntN.{ℤ, pos, ◌-ℤ◌}
use lib.Signed.{le_z}
use Rattle.std.proofs.lemmas.Int.{ints}
use Rattle.arithmetic.proofs.Integer.{difference}
use Rattle.arithmetic.proofs.Machine.{stored32}
use Rattle.line.specs.Inner.{visible_of}
use Rattle.line.proofs.Toward.{seen_up, seen_down}
use Rattle.line.proofs.axis_of.Goals as goal

-- up, from `from`
pub returns-then-from-to : goal.returns-then-from-to
returns-then-from-to c =
    let a = c.args in
    let way : le_z a.from a.to ≡ true = rw (stored32 a.from c.ranges.from, stored32 a.to c.ranges.to) at c.if-from-to.true in
    seen_up a.from a.to a.from a.n a.side a.stride c.requires.1.0 c.requires.1.1 way (omega arith)
    (c.visible.ensures ∙ ap (λ (start : ℤ). visible_of start true a.n a.side a.stride) (omega (arith, ints)))

-- down, from the side's last coordinate less `from`
pub returns-else-from-to : goal.returns-else-from-to
returns-else-from-to c =
    let a = c.args in
    let last : ℤ = pos a.side -ℤ pos 1 in
    let way : le_z a.from a.to ≡ false = rw (stored32 a.from c.ranges.from, stored32 a.to c.ranges.to) at c.if-from-to.false in
    seen_down a.from a.to (last -ℤ a.from) a.n a.side a.stride c.requires.1.0 c.requires.1.1 way
    (omega (arith, difference (pos a.side) (pos 1), difference last a.from))
    (c.visible-else-from-to.ensures ∙ ap (λ (start : ℤ). visible_of start false a.n a.side a.stride) (omega (arith, ints)))
