-- `p6::put_header` meets its contract: five pieces, one after the other. Assumes nothing.
use Rattle.p6.proofs.Decimal.{put_pieces}
use Rattle.p6.proofs.put_header.Goals as goal

pub returns-clause-bytes : goal.returns-clause-bytes
returns-clause-bytes c =
    let first = c.put_bytes-width_at in
    let second = c.put_decimal-space_at in
    let third = c.put_bytes-height_at in
    let fourth = c.put_decimal-end in
    put_pieces c.args.out.now c.args.width c.args.height first.result second.result third.result fourth.result c.requires
    first.ensures.bytes first.ensures.value second.ensures.bytes second.ensures.value
    third.ensures.bytes third.ensures.value fourth.ensures.bytes fourth.ensures.value
    c.put_bytes.ensures.bytes
