-- The layout of a record's numbers: how many numbers each part has, and where it begins. The constants in src/ are the same.
use Rattle.std.specs.Prelude.{ℕ, ◌+◌, ◌*◌}

-- how many numbers a DC has; every object has as many as the largest kind, the DC
abbrev pub dc_size : ℕ
dc_size = 14

abbrev pub object_size : ℕ
object_size = dc_size

-- in a slot: the handle, the kind, the object
abbrev pub handle_place : ℕ
handle_place = 0

abbrev pub kind_place : ℕ
kind_place = 1

abbrev pub object_place : ℕ
object_place = 2

abbrev pub slot_size : ℕ
slot_size = object_place + object_size

-- how many numbers a record has before its screen DC; the 256 slots follow the DC
abbrev pub head_size : ℕ
head_size = 9

abbrev pub record_size : ℕ
record_size = head_size + dc_size + slot_size * 256

-- in a record: the memories' lengths, the panel's sides, the frame counter's low and high half, the next handle, the stock
-- bitmap's dirty mark, the count, the screen DC, the first slot
abbrev pub panel_len_place : ℕ
panel_len_place = 0

abbrev pub store_len_place : ℕ
store_len_place = 1

abbrev pub width_place : ℕ
width_place = 2

abbrev pub height_place : ℕ
height_place = 3

abbrev pub frames_low_place : ℕ
frames_low_place = 4

abbrev pub frames_high_place : ℕ
frames_high_place = 5

abbrev pub next_handle_place : ℕ
next_handle_place = 6

abbrev pub stock_dirty_place : ℕ
stock_dirty_place = 7

abbrev pub count_place : ℕ
count_place = 8

abbrev pub screen_place : ℕ
screen_place = head_size

abbrev pub slots_place : ℕ
slots_place = screen_place + dc_size

-- where slot i begins; at i = count, where the numbers in use end
abbrev pub slot_place : ℕ → ℕ
slot_place i = slots_place + slot_size * i

-- in a DC: surface, bitmap present, bitmap, brush, pen, font, brush colour, pen colour, text colour, alignment, background colour,
-- transparent, position x, position y
abbrev pub surface_in : ℕ
surface_in = 0

abbrev pub present_in : ℕ
present_in = 1

abbrev pub bitmap_in : ℕ
bitmap_in = 2

abbrev pub brush_in : ℕ
brush_in = 3

abbrev pub pen_in : ℕ
pen_in = 4

abbrev pub font_in : ℕ
font_in = 5

abbrev pub brush_color_in : ℕ
brush_color_in = 6

abbrev pub pen_color_in : ℕ
pen_color_in = 7

abbrev pub text_color_in : ℕ
text_color_in = 8

abbrev pub text_align_in : ℕ
text_align_in = 9

abbrev pub bk_color_in : ℕ
bk_color_in = 10

abbrev pub bk_transparent_in : ℕ
bk_transparent_in = 11

abbrev pub pos_x_in : ℕ
pos_x_in = 12

abbrev pub pos_y_in : ℕ
pos_y_in = 13

-- in a bitmap: width, height, dirty mark; in a brush and a pen: colour; in a pen: width; in a font: height
abbrev pub bitmap_width_in : ℕ
bitmap_width_in = 0

abbrev pub bitmap_height_in : ℕ
bitmap_height_in = 1

abbrev pub bitmap_dirty_in : ℕ
bitmap_dirty_in = 2

abbrev pub color_in : ℕ
color_in = 0

abbrev pub pen_width_in : ℕ
pen_width_in = 1

abbrev pub font_height_in : ℕ
font_height_in = 0

-- how many numbers the other kinds have; the rest, up to an object's size, are 0
abbrev pub bitmap_size : ℕ
bitmap_size = 3

abbrev pub brush_size : ℕ
brush_size = 1

abbrev pub pen_size : ℕ
pen_size = 2

abbrev pub font_size : ℕ
font_size = 1
