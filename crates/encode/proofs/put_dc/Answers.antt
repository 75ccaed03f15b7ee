-- `encode::put_dc` meets its contract. Assumes nothing.
use Rattle.encode.proofs.Coded.{dc_coded}
use Rattle.encode.proofs.put_dc.Goals as goal

pub returns : goal.returns
returns c =
    let told = c.struct_told-1.given.1.1.1.1.1.1.1.1.1.1.1 in
    rw (c.copy_from_slice.ensures.after, c.surface_number.ensures, c.present_number.ensures, c.bitmap_number.ensures, c.flag_number.ensures)
    (dc_coded c.args.d (record { sfits = told.0.1 }) (record { sfits = told.1.0.1 }) c.unsigned.ensures c.unsigned-2.ensures)
