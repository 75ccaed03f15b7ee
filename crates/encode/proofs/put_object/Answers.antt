-- `encode::put_object` meets its contract. Assumes nothing.
use Rattle.numbers.proofs.Block.{dc_object}
use Rattle.encode.proofs.Coded.{bitmap_coded, brush_coded, pen_coded, font_coded}
use Rattle.encode.proofs.put_object.Goals as goal

pub returns-in-Dc : goal.returns-in-Dc
returns-in-Dc c =
    rw c.in-Dc.is (dc_object c.put_dc.ensures)

pub returns-in-Bitmap : goal.returns-in-Bitmap
returns-in-Bitmap c =
    rw (c.in-Bitmap.is, c.put_few.ensures, c.flag_number-dirty.ensures) (bitmap_coded _)

pub returns-in-Brush : goal.returns-in-Brush
returns-in-Brush c =
    rw (c.in-Brush.is, c.put_few-in-Brush.ensures) (brush_coded _)

pub returns-in-Pen : goal.returns-in-Pen
returns-in-Pen c =
    rw (c.in-Pen.is, c.put_few-in-Pen.ensures) (pen_coded _)

pub returns-in-Font : goal.returns-in-Font
returns-in-Font c =
    rw (c.in-Font.is, c.put_few-in-Font.ensures) (font_coded _ _ (record { sfits = c.struct_told-1.given.0.1 }) c.unsigned.ensures)
