-- `fill::fill_rect` meets its contract: that of `fill_rect_rop` at PATCOPY's code. Assumes nothing.
use Rattle.std.proofs.Common.{rules, arith}
use Rattle.surface.specs.Refusal.{drawn}
use Rattle.fill.specs.Fill.{FillRectRop}
use Rattle.fill.proofs.Box.{patcopy_filled}
use Rattle.fill.proofs.fill_rect.Goals as goal

-- PATCOPY's table gives the colour, whatever was there
pub returns : goal.returns
returns c =
    let a = c.args in
    let rop : FillRectRop a.x a.y a.w a.h a.color.0 0xF00021 a.width a.height a.pixels.now (drawn c.fill_rect_rop.result) c.fill_rect_rop.new.pixels = search rules in
    patcopy_filled a.x a.y a.w a.h a.color.0 a.width a.height a.pixels.now (omega arith) rop
