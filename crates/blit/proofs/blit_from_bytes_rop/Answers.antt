-- `blit::blit_from_bytes_rop` meets its contract: drawn by `blit_from`. Assumes nothing.
use Rattle.std.proofs.Common.{length}
use Rattle.surface.proofs.Accepted.{in_order_from}
use Rattle.blit.proofs.blit_from_bytes_rop.Goals as goal

-- the surface was checked
pub blit_from-requires : goal.blit_from-requires
blit_from-requires c =
    let a = c.args in
    in_order_from a.width a.height (length a.pixels.now) a.src_w a.src_h c.in_ok-check_from.ensures
