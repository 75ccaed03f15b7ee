-- Positions are less than 65,536 apart. Assumes nothing.
use mathlib.Core.Bool.{Bool, true}
use mathlib.Core.Path.{◌≡◌, sym, ◌∙◌}
use Prim.Native.Nat.{◌+◌, ◌≤◌, ◌<◌}
use native.Mathlib.Omega.{arith}
use lib.IntN.{ℤ, pos, negsuc, ◌-ℤ◌}
use lib.Signed.{le_z}
use mir.Val.{SFits}
use mir.Syntax.{w32}
use borrow.Author.Tests.{leb-true}
use Rattle.arithmetic.specs.Integer.{positive}
use Rattle.arithmetic.specs.Inner.{negative}
use Rattle.arithmetic.proofs.Integer.{difference, le_parts, one_part, abs_parts}
use Rattle.arithmetic.proofs.Machine.{held32, stored32}
use Rattle.arithmetic.proofs.Test.{both}
use Rattle.line.specs.Line.{extent}
use Rattle.gdi.specs.declared.Dc.{Dc}
use Rattle.gdi.specs.Record.{in_range, is_position}
use Rattle.sound.specs.Sound.{positioned}
use Rattle.plan.specs.declared.Point.{Point}
use Rattle.plan.specs.Lines.{position_of}

-- a point that the code tested
pub tested : (to : Point) {t u : Bool} → SFits w32 to.x → SFits w32 to.y → t ≡ is_position (held32 to.x) (held32 to.y) → t ≡ u → is_position to.x to.y ≡ u
tested to fx fy e f = rw (stored32 to.x fx, stored32 to.y fy) at (sym e ∙ f)

in_parts : (z : ℤ) → in_range z ≡ true → (negative z ≤ positive z + 32768) × (positive z ≤ negative z + 32767)
in_parts z e =
    let (low, high) = both (le_z (negsuc 32767) z) (le_z z (pos 32767)) e in (
      omega (arith, leb-true (0 + negative z) (positive z + 32768) (sym (le_parts (negsuc 32767) z) ∙ low)),
      omega (arith, leb-true (positive z + 0) (32767 + negative z) (sym (le_parts z (pos 32767)) ∙ high)),
    )

near : (a b : ℤ) → in_range a ≡ true → in_range b ≡ true → extent a b < 65536
near a b e f =
    let x = in_parts a e in
    let y = in_parts b f in
    omega (arith, abs_parts (b -ℤ a), difference b a, one_part (b -ℤ a), one_part a, one_part b, x.0, x.1, y.0, y.1)

-- a line from the position of a DC to a point
pub ends_near : (d : Dc) (to : Point) → positioned d ≡ true → is_position to.x to.y ≡ true
    → (extent (position_of d).x to.x < 65536) × (extent (position_of d).y to.y < 65536)
ends_near d to e f =
    let (a, b) = both (in_range d.pos_x) (in_range d.pos_y) e in
    let (p, q) = both (in_range to.x) (in_range to.y) f in
    (near d.pos_x to.x a p, near d.pos_y to.y b q)
