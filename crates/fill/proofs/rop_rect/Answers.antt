-- `fill::rop_rect` meets its contract: the rows of a rectangle that has a pixel. Assumes nothing.
use mathlib.Core.Path.{◌≡◌, ◌∙◌, ap}
use Prim.Native.Nat.{ℕ, ◌+◌, ◌-◌}
use native.Mathlib.Omega.{arith}
use Rattle.fill.specs.Inner.{ropped_rect}
use Rattle.fill.proofs.Box.{some_pixels, without_columns, without_rows}
use Rattle.fill.proofs.rop_rect.Goals as goal

pub returns-then-r : goal.returns-then-r
returns-then-r c =
    let a = c.args in
    record {
      value = (without_columns a.r.x0 a.r.x1 a.r.y0 a.r.y1 a.width a.table a.pat a.pixels.now (omega (arith, c.if-r.true))).0;
      bytes = (without_columns a.r.x0 a.r.x1 a.r.y0 a.r.y1 a.width a.table a.pat a.pixels.now (omega (arith, c.if-r.true))).1;
    }

pub returns-then-r-2 : goal.returns-then-r-2
returns-then-r-2 c =
    let a = c.args in
    record {
      value = (without_rows a.r.x0 a.r.x1 a.r.y0 a.r.y1 a.width a.table a.pat a.pixels.now (omega (arith, c.if-r-2.true))).0;
      bytes = (without_rows a.r.x0 a.r.x1 a.r.y0 a.r.y1 a.width a.table a.pat a.pixels.now (omega (arith, c.if-r-2.true))).1;
    }

pub returns : goal.returns
returns c =
    let a = c.args in
    let wide = c.if-r.false in
    let high = c.if-r-2.false in
    let e : a.r.x0 + (a.r.x1 - a.r.x0) ≡ a.r.x1 = omega arith in
    record {
      value = some_pixels a.r.x0 a.r.x1 a.r.y0 a.r.y1 (omega arith) (omega arith);
      bytes = c.rop_rows.ensures ∙ ap (λ (x1 : ℕ). ropped_rect a.width a.r.x0 x1 a.r.y0 a.r.y1 a.table a.pat a.pixels.now) e;
    }
