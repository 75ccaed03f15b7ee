-- `encode::unsigned` meets its contract. Assumes nothing.
use native.Mathlib.Omega.{arith}
use Rattle.arithmetic.proofs.Machine.{cast_fits}
use Rattle.encode.proofs.Complement.{turned_fits, turned_cast, turned_back, kept_cast, kept_back}
use Rattle.encode.proofs.unsigned.Goals as goal

pub overflow_cast-result : goal.overflow_cast-result
overflow_cast-result c =
    cast_fits c.ranges.z

pub overflow_add-result : goal.overflow_add-result
overflow_add-result c =
    turned_fits c.args.z c.ranges.z c.if-z-lt0.true (omega arith) (omega arith)

pub overflow_cast-result-then-z-lt0 : goal.overflow_cast-result-then-z-lt0
overflow_cast-result-then-z-lt0 c =
    turned_cast c.args.z c.ranges.z c.if-z-lt0.true (omega arith) (omega arith)

pub returns-then-z-lt0 : goal.returns-then-z-lt0
returns-then-z-lt0 c =
    turned_back c.args.z c.ranges.z c.if-z-lt0.true

pub overflow_cast-result-2 : goal.overflow_cast-result-2
overflow_cast-result-2 c =
    kept_cast c.args.z c.ranges.z c.if-z-lt0.false

pub returns : goal.returns
returns c =
    kept_back c.args.z c.ranges.z c.if-z-lt0.false
