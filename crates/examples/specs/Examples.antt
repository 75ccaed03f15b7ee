-- The examples marked P, one about taint, and the program's: each is what the definitions compute.
use Rattle.std.specs.Prelude.{true, false, ◌&&◌, List, [], ◌∷◌, ◌≡◌, refl, ℕ, ◌+◌, ◌*◌, ◌/◌, ◌%◌, ◌<◌, eqb, pos, negsuc, replicate}
use Rattle.std.proofs.Common.{sym, arith}
use Rattle.arithmetic.specs.Sum.{sum_below}
use Rattle.words.specs.Words.{written, word, painted}
use Rattle.color.specs.Color.{packed, wide_red, wide_green, wide_blue, from555}
use Rattle.rop3.specs.Rop3.{table_of, applied, uses_src}
use Rattle.rop3.proofs.Codes.{applied_copy}
use Rattle.clip.specs.Clip.{clipped_axis}
use Rattle.clip_blit.specs.Blit.{blit_axis, blit_rect}
use Rattle.font.specs.Font.{glyphs, ink_at}
use Rattle.surface.specs.Region.{words_of}
use Rattle.fill.specs.Fill.{filled, fill_marks}
use Rattle.outline.specs.Outline.{outlined, outline_marks}
use Rattle.blit.specs.Blit.{blit_of, blit_from}
use Rattle.text.specs.Ink.{char_ink}
use Rattle.gdi.specs.declared.GdiState.{GdiState}
use Rattle.gdi.specs.declared.GdiObject.{GdiObject}
use Rattle.gdi.specs.declared.GdiObject.TheVariants.{Bitmap as BitmapOf}
use Rattle.gdi.specs.Record.{fresh_bitmap, fresh}
use Rattle.gdi.specs.Updates.{with_objects}
use Rattle.gdi.specs.Stock.{is_stock}
use Rattle.gdi.specs.Lookup.{object_at, dc_of}
use Rattle.sound.specs.Sound.{is_sound}
use Rattle.ready.specs.Ready.{common_refusal}
use Rattle.place.specs.declared.SurfaceId.TheVariants.{Panel, Bitmap}
use Rattle.place.specs.Place.{same, target_of}
use Rattle.place.proofs.Apart.{clash}
use Rattle.handles.specs.Handles.{free, first_free, new_handle, added}
use Rattle.paint.specs.Memories.{memories}
use Rattle.paint.specs.Paint.{painted_by, after}
use Rattle.paint.specs.Taint.{Taint, by_d, by_s, tainted_by, tainted}
use Rattle.plan.specs.declared.Call.{Call}
use Rattle.plan.specs.declared.Call.TheVariants.{Blit}
use Rattle.plan.specs.Answer.{answered}
use Rattle.plan.specs.Plan.{refuse}
use Rattle.plan.specs.Stroke.{paints_of}
use Rattle.plan.specs.Create.{create_of, create_bitmap}
use Rattle.plan.specs.Drawing.{blit}
use Rattle.plan.specs.Calls.{act, call, plan}
use Rattle.noninterference.specs.Claim.{taint_after}
use Rattle.noninterference.specs.Taint.{taint_by}
use Rattle.p6.specs.P6.{header, digits}
use Rattle.p6.specs.Joined.{joined}
use Rattle.pixmap.specs.Pixmap.{is_picture, picture_of}

-- COLORREF 0x00C0C0C0 packs to 0xC618, 0xFF000000 to 0
pub light_gray : packed 0x00C0C0C0 ≡ 0xC618
unfolding packed
light_gray = refl

pub top_byte_ignored : packed 0xFF000000 ≡ 0
unfolding packed
top_byte_ignored = refl

-- 0x8410 widens to 132, 130, 132
pub gray_red : wide_red 0x8410 ≡ 132
unfolding wide_red
gray_red = refl

pub gray_green : wide_green 0x8410 ≡ 130
unfolding wide_green
gray_green = refl

pub gray_blue : wide_blue 0x8410 ≡ 132
unfolding wide_blue
gray_blue = refl

-- 555 word 0x0200 is 565 word 0x0420
pub green_repeated : from555 0x0200 ≡ 0x0420
unfolding from555
green_repeated = refl

-- table B8 (hex), P 0x00FF, S 0x0F0F, D 0x3333 gives 0x03F3
pub table_b8 : applied 0xB8 0x00FF 0x0F0F 0x3333 ≡ 0x03F3
unfolding applied
table_b8 = refl

-- 0x005A0049 ignores S
pub patinvert_ignores_source : uses_src (table_of 0x005A0049) ≡ false
patinvert_ignores_source = refl

-- on 4 by 3, a 3 by 3 source at (-1, 1) draws 2 by 2 from source (1, 0)
pub blit_cut_left : blit_rect (negsuc 0) (pos 1) (pos 0) (pos 0) (pos 3) (pos 3) 4 3 3 3 ≡ record { x0 = 0; y0 = 1; x1 = 2; y1 = 3; src_x0 = 1; src_y0 = 0 }
unfolding blit_axis clipped_axis
blit_cut_left = refl

pub blit_cut_left_pixels
    : blit_from (blit_of 4 3 (negsuc 0) (pos 1) (pos 0) (pos 0) (pos 3) (pos 3) 3 3) 0xCC 0 (0x01 ∷ 0x01 ∷ 0x02 ∷ 0x02 ∷ 0x03 ∷ 0x03 ∷ 0x04 ∷ 0x04 ∷ 0x05 ∷ 0x05 ∷ 0x06 ∷ 0x06 ∷ 0x07 ∷ 0x07 ∷ 0x08 ∷ 0x08 ∷ 0x09 ∷ 0x09 ∷ []) (replicate 24 0)
    ≡ 0 ∷ 0 ∷ 0 ∷ 0 ∷ 0 ∷ 0 ∷ 0 ∷ 0 ∷ 0x02 ∷ 0x02 ∷ 0x03 ∷ 0x03 ∷ 0 ∷ 0 ∷ 0 ∷ 0 ∷ 0x05 ∷ 0x05 ∷ 0x06 ∷ 0x06 ∷ 0 ∷ 0 ∷ 0 ∷ 0 ∷ []
unfolding blit_from blit_axis clipped_axis painted written word applied
blit_cut_left_pixels = refl

-- on 4 by 3, a fill at x = 1, y = 0, w = 2147483647, h = 3 covers from column 1
pub fill_to_the_edge : filled 4 (pos 1) (pos 0) (pos 2147483647) (pos 3) 0x1234 (replicate 24 0)
    ≡ 0 ∷ 0 ∷ 0x34 ∷ 0x12 ∷ 0x34 ∷ 0x12 ∷ 0x34 ∷ 0x12 ∷ 0 ∷ 0 ∷ 0x34 ∷ 0x12 ∷ 0x34 ∷ 0x12 ∷ 0x34 ∷ 0x12 ∷ 0 ∷ 0 ∷ 0x34 ∷ 0x12 ∷ 0x34 ∷ 0x12 ∷ 0x34 ∷ 0x12 ∷ []
unfolding painted written
fill_to_the_edge = refl

-- at x = 4 nothing, no mark
pub fill_past_the_edge : filled 4 (pos 4) (pos 0) (pos 2147483647) (pos 3) 0x1234 (replicate 24 0) ≡ replicate 24 0
unfolding painted written
fill_past_the_edge = refl

pub fill_past_the_edge_unmarked : fill_marks 4 3 (pos 4) (pos 0) (pos 2147483647) (pos 3) ≡ false
unfolding clipped_axis
fill_past_the_edge_unmarked = refl

-- outline at (10, 10), 1 by 1: no pixel, one mark
pub outline_out_of_sight : outlined 4 (pos 10) (pos 10) (pos 1) (pos 1) 0x1234 (replicate 24 0) ≡ replicate 24 0
unfolding painted written
outline_out_of_sight = refl

pub outline_out_of_sight_marked : outline_marks (pos 1) (pos 1) ≡ true
outline_out_of_sight_marked = refl

-- on 4 by 8, 'A' at x = -4, y = 0 inks only (0, 2) to (0, 6)
pub letter_at_the_edge
    : painted (words_of 4 (char_ink (negsuc 3) (pos 0) 0x41)) (λ _. 0x1234) (replicate 64 0)
    ≡ 0 ∷ 0 ∷ 0 ∷ 0 ∷ 0 ∷ 0 ∷ 0 ∷ 0 ∷ 0 ∷ 0 ∷ 0 ∷ 0 ∷ 0 ∷ 0 ∷ 0 ∷ 0 ∷ 0x34 ∷ 0x12 ∷ 0 ∷ 0 ∷ 0 ∷ 0 ∷ 0 ∷ 0 ∷ 0x34 ∷ 0x12 ∷ 0 ∷ 0 ∷ 0 ∷ 0 ∷ 0 ∷ 0 ∷ 0x34 ∷ 0x12 ∷ 0 ∷ 0 ∷ 0 ∷ 0 ∷ 0 ∷ 0 ∷ 0x34 ∷ 0x12 ∷ 0 ∷ 0 ∷ 0 ∷ 0 ∷ 0 ∷ 0 ∷ 0x34 ∷ 0x12 ∷ 0 ∷ 0 ∷ 0 ∷ 0 ∷ 0 ∷ 0 ∷ 0 ∷ 0 ∷ 0 ∷ 0 ∷ 0 ∷ 0 ∷ 0 ∷ 0 ∷ []
unfolding painted written ink_at glyphs
letter_at_the_edge = refl

-- row a b c, blit 2 wide from 0 to 1: a a b, for any three words
abbrev row : GdiState
row = fresh 6 2 3 1

abbrev row_of : (a b c : ℕ) → List ℕ
row_of a b c = a % 256 ∷ a / 256 ∷ b % 256 ∷ b / 256 ∷ c % 256 ∷ c / 256 ∷ []

abbrev moving : Call
moving = Blit 0xDEAD_0DC0 (record { x = pos 1; y = pos 0; w = pos 2; h = pos 1 }) 0xDEAD_0DC0 (record { x = pos 0; y = pos 0 }) 0x00CC_0020

pub row_moved_onto_itself : (a b c : ℕ) (store : List ℕ) → a < 65536 → b < 65536
    → after row (plan (call moving []) row 6 2).paint (memories (row_of a b c) store) ≡ memories (row_of a a b) store
unfolding plan common_refusal is_sound sum_below act blit target_of dc_of paints_of after painted_by painted written word
row_moved_onto_itself a b c store h g =
    let this : a % 256 + 256 * (a / 256) ≡ a = omega arith in
    let next : b % 256 + 256 * (b / 256) ≡ b = omega arith in
    let copied : (p s d : ℕ) → s < 65536 → applied 0xCC p s d ≡ s = λ p s d i. sym (applied_copy p s d i) in
    simp (this, next, copied)

-- of this row pixel 1 alone is tainted
abbrev second : Taint
second u x y = (same u Panel && (eqb x 1 && eqb y 0)) ≡ true

abbrev afterwards : Taint
afterwards = taint_by row 6 2 [] second moving

-- after the blit pixel 2, which read it, is tainted
pub reader_tainted : afterwards Panel 2 0
unfolding taint_after plan common_refusal is_sound sum_below act blit target_of dc_of paints_of tainted tainted_by
reader_tainted = by_s refl refl

-- pixel 1, which read pixel 0, is not
pub overwritten_untainted : afterwards Panel 1 0 → ⊥
unfolding taint_after plan common_refusal is_sound sum_below act blit target_of dc_of paints_of tainted tainted_by
overwritten_untainted (by_d e m) = clash e
overwritten_untainted (by_s e m) = clash m

-- nor is pixel 0, nor a pixel of a bitmap
pub first_untainted : afterwards Panel 0 0 → ⊥
unfolding taint_after plan common_refusal is_sound sum_below act blit target_of dc_of paints_of tainted tainted_by
first_untainted e = clash e

pub bitmaps_untainted : (h x y : ℕ) → afterwards (Bitmap h) x y → ⊥
unfolding taint_after plan common_refusal is_sound sum_below act blit target_of dc_of paints_of tainted tainted_by
bitmaps_untainted h x y e = clash e

-- a fresh device: a panel of 1 by 1, a store of 12 bytes
abbrev smallest : GdiState
smallest = fresh 2 12 1 1

-- after 0xDEAD_5700 comes 0xDEAD_570A
pub last_before_stock : new_handle (with_objects smallest 0xDEAD_5700 0 smallest.objects) ≡ 0xDEAD_5700
unfolding first_free free is_stock
last_before_stock = refl

pub stock_stepped_over : (o : GdiObject) → new_handle (added (with_objects smallest 0xDEAD_5700 0 smallest.objects) o) ≡ 0xDEAD_570A
unfolding added first_free free is_stock
stock_stepped_over o = refl

-- fresh device, store of 12 bytes: bitmap 0 by 5 fits as 1 by 5
pub bitmap_fits : (create_bitmap smallest 0 5).outcome.answer ≡ answered 0xDEAD_1000
unfolding create_bitmap create_of sum_below first_free free is_stock
bitmap_fits = refl

pub bitmap_widened : object_at (create_bitmap smallest 0 5).outcome.state 0 ≡ BitmapOf (fresh_bitmap 1 5)
unfolding create_bitmap create_of sum_below added first_free free is_stock
bitmap_widened = refl

-- 1 by 6 is 7
pub bitmap_too_long : create_bitmap smallest 1 6 ≡ refuse 7 smallest
unfolding create_bitmap create_of sum_below
bitmap_too_long = refl

-- side 4,097 is 6
pub bitmap_too_wide : (h : ℕ) → create_bitmap smallest 4097 h ≡ refuse 6 smallest
unfolding create_bitmap
bitmap_too_wide h = refl

pub bitmap_too_high : create_bitmap smallest 1 4097 ≡ refuse 6 smallest
unfolding create_bitmap
bitmap_too_high = refl

-- the example of the program `ppm`, not marked P: 00 02 00 01 00 F8 1F 00 gives the lines `P6`, `2 1`, `255`, then FF 00 00 00 00 FF
pub picture_written :
    picture_of (0x00 ∷ 0x02 ∷ 0x00 ∷ 0x01 ∷ 0x00 ∷ 0xF8 ∷ 0x1F ∷ 0x00 ∷ [])
    ≡ 80 ∷ 54 ∷ 10 ∷ 50 ∷ 32 ∷ 49 ∷ 10 ∷ 50 ∷ 53 ∷ 53 ∷ 10 ∷ 0xFF ∷ 0x00 ∷ 0x00 ∷ 0x00 ∷ 0x00 ∷ 0xFF ∷ []
unfolding picture_of is_picture header digits joined word wide_red wide_green wide_blue
picture_written = refl
