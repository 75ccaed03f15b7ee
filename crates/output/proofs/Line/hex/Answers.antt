-- A number below 16 ^ n has n digits at most, and n with the zeros in front.
use Rattle.std.proofs.Common.{arith}
use Rattle.output.proofs.Powers.{as_wide}
use Rattle.output.proofs.Line.hex.Goals as goal

pub text-requires : goal.text-requires
text-requires c =
    let p = c.requires in
    omega (arith, as_wide c.args.n c.args.v c.hex-k.result p.le_n.0 p.le_n.1 p.v_bound c.hex-k.ensures.len)

pub returns : goal.returns
returns c =
    let p = c.requires in
    let h = c.hex-k in
    let e = as_wide c.args.n c.args.v h.result p.le_n.0 p.le_n.1 p.v_bound h.ensures.len in
    record { len = omega arith; text = rw (← e, ← h.ensures.digits) c.text.ensures.text }
