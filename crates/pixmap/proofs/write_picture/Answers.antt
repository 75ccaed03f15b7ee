-- `pixmap::write_picture` meets its contract: a picture, or none. Assumes nothing.
use mathlib.Core.Path.{sym, ◌∙◌}
use native.Mathlib.Omega.{arith}
use lib.Seq.{length-take-le}
use Rattle.pixmap.proofs.Picture.{picture_short, picture_length_lem, picture_put}
use Rattle.pixmap.proofs.write_picture.Goals as goal

-- the picture's part of the output has its length
pub slice_bounds-write_ppm-end-3 : goal.slice_bounds-write_ppm-end-3
slice_bounds-write_ppm-end-3 c =
    sym (length-take-le c.ppm_len-n.result c.args.out.now (omega (arith, picture_short c.in-Some.ensures c.ppm_len-n.ensures)))

pub write_ppm-requires-clause-out_len : goal.write_ppm-requires-clause-out_len
write_ppm-requires-clause-out_len c =
    length-take-le c.ppm_len-n.result c.args.out.now (omega (arith, picture_short c.in-Some.ensures c.ppm_len-n.ensures)) ∙ c.ppm_len-n.ensures

pub returns-clause-value : goal.returns-clause-value
returns-clause-value c = picture_length_lem c.in-Some.ensures c.ppm_len-n.ensures

pub returns-clause-bytes : goal.returns-clause-bytes
returns-clause-bytes c = picture_put c.in-Some.ensures c.ppm_len-n.ensures c.args.out.now c.write_ppm.ensures
