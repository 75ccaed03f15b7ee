-- `fill::rop_rows` meets its contract. The invariant: start is row r times the width, and the rows from y0 up to r are done. Assumes
-- nothing.
use Prim.Native.Nat.{◌+◌, ◌*◌, ◌≤◌}
use native.Mathlib.Nat.{mul-le-mul_right}
use native.Mathlib.Omega.{arith}
use lib.ListN.{length}
use Rattle.fill.proofs.Rows.{rows_first, next_start, rows_next, rows_done}
use Rattle.fill.proofs.Box.{without_rows}
use Rattle.fill.proofs.rop_rows.Goals as goal

pub returns-then-y1-y0 : goal.returns-then-y1-y0
returns-then-y1-y0 c =
    let a = c.args in
    (without_rows a.x0 (a.x0 + a.columns) a.y0 a.y1 a.width a.table a.pat a.pixels.now c.if-y1-y0.true).1

pub overflow_mul-start : goal.overflow_mul-start
overflow_mul-start c =
    let above : c.args.y0 ≤ c.args.y1 = omega (arith, c.if-y1-y0.false) in
    omega (arith, mul-le-mul_right c.args.width above, c.requires.1.1)

pub loop-r-init : goal.loop-r-init
loop-r-init c =
    let a = c.args in
    rows_first a.width a.x0 a.columns a.y0 a.y1 a.table a.pat a.pixels.now (omega (arith, c.if-y1-y0.false))

pub overflow_add-start : goal.overflow_add-start
overflow_add-start c =
    let a = c.args in
    let next : 2 * (c.loop-r.start + a.width) ≤ length a.pixels.now =
    next_start a.width a.x0 a.columns a.y0 a.y1 a.table a.pat a.pixels.now c.requires.0 c.requires.1.0 c.requires.1.1 c.loop-r.invariant c.loop-r-test.true in
    omega (arith, next, c.requires.1.0)

pub rop_run-requires : goal.rop_run-requires
rop_run-requires c =
    let a = c.args in
    let next : 2 * (c.loop-r.start + a.width) ≤ length a.pixels.now =
    next_start a.width a.x0 a.columns a.y0 a.y1 a.table a.pat a.pixels.now c.requires.0 c.requires.1.0 c.requires.1.1 c.loop-r.invariant c.loop-r-test.true in
    omega (arith, next, c.requires.1.0, c.loop-r.invariant.size)

pub overflow_add-start-in-loop-r : goal.overflow_add-start-in-loop-r
overflow_add-start-in-loop-r c =
    let a = c.args in
    let next : 2 * (c.loop-r.start + a.width) ≤ length a.pixels.now =
    next_start a.width a.x0 a.columns a.y0 a.y1 a.table a.pat a.pixels.now c.requires.0 c.requires.1.0 c.requires.1.1 c.loop-r.invariant c.loop-r-test.true in
    omega (arith, next)

pub loop-r-preserved : goal.loop-r-preserved
loop-r-preserved c =
    let a = c.args in
    let l = c.loop-r in
    let run = c.rop_run in
    rows_next a.width a.x0 a.columns a.y0 a.y1 a.table a.pat a.pixels.now c.requires.0 c.requires.1.0 c.requires.1.1 l.invariant c.loop-r-test.true
    (omega (arith, l.invariant.row_start)) run.ensures run.auto.mem

pub shape_of-pixels : goal.shape_of-pixels
shape_of-pixels c =
    c.loop-r.invariant.size

pub returns : goal.returns
returns c =
    let a = c.args in
    rows_done a.width a.x0 a.columns a.y0 a.y1 a.table a.pat a.pixels.now c.loop-r.invariant (omega (arith, c.loop-r-test.false))
