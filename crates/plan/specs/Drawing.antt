-- Drawing by a DC's handle: pattern fill, rectangle, text and blit.
use Rattle.std.specs.Prelude.{Bool, false, cond, List, [], ◌∷◌, ℕ, ◌*◌, leb, ltb, Result, Err, Ok}
use Rattle.arithmetic.specs.Integer.{positive}
use Rattle.rop3.specs.Rop3.{table_of, uses_src}
use Rattle.clip_blit.specs.Blit.{source_at, drawn_at}
use Rattle.color.specs.Color.{packed}
use Rattle.color.specs.declared.Colorref.{Colorref}
use Rattle.surface.specs.Region.{box}
use Rattle.fill.specs.Fill.{fill_marks}
use Rattle.outline.specs.Outline.{rim, outline_marks}
use Rattle.blit.specs.Blit.{blit_of, marks}
use Rattle.text.specs.Ink.{unit_count, text_ink}
use Rattle.gdi.specs.declared.GdiState.{GdiState}
use Rattle.gdi.specs.declared.Dc.{Dc}
use Rattle.place.specs.declared.Place.{Place}
use Rattle.place.specs.declared.Place.TheVariants.{Nowhere, At}
use Rattle.place.specs.declared.SurfaceId.{SurfaceId}
use Rattle.place.specs.declared.NoTarget.{NoTarget}
use Rattle.place.specs.declared.Target.{Target}
use Rattle.place.specs.declared.NoTarget.TheVariants.{NoDc, NoSurface}
use Rattle.place.specs.Place.{where_is, target_of, on}
use Rattle.plan.specs.declared.Area.{Area}
use Rattle.plan.specs.declared.Point.{Point}
use Rattle.plan.specs.Answer.{answered, done}
use Rattle.paint.specs.Memories.{width_of, height_of}
use Rattle.paint.specs.Paint.{black, sampled, Draw}
use Rattle.plan.specs.Plan.{Plan, refuse}
use Rattle.plan.specs.Stroke.{Stroke, drawn_by}

-- 1 if there is no such DC, then 2 if the DC has no surface
abbrev pub on_target : GdiState → Result Target NoTarget → (SurfaceId → Dc → Plan) → Plan
on_target b (Err NoDc) f = refuse 1 b
on_target b (Err NoSurface) f = refuse 2 b
on_target b (Ok t) f = f t.id t.dc

-- 3 and 4, the same for the source
abbrev pub on_source : GdiState → Result Target NoTarget → (SurfaceId → Plan) → Plan
on_source b (Err NoDc) f = refuse 3 b
on_source b (Err NoSurface) f = refuse 4 b
on_source b (Ok t) f = f t.id

-- the RGB565 word of a DC's colour
abbrev pub packed_of : Colorref → ℕ
packed_of c = packed c.0

-- a drawing of pattern and destination under a table; the source operand is 0
abbrev pub patterned : SurfaceId → (region : (x y : ℕ) → Bool) → (table pattern : ℕ) → Draw
patterned s region t c = record { target = s; region = region; table = t; pattern = c; source = black }

-- a drawing in one colour, without a code
abbrev pub solid : SurfaceId → (region : (x y : ℕ) → Bool) → (color : ℕ) → Draw
solid s region c = patterned s region 0xF0 c

-- the pixels of an area, and its outline
abbrev pub box_of : Area → (x y : ℕ) → Bool
box_of a = box a.x a.y a.w a.h

abbrev pub rim_of : Area → (x y : ℕ) → Bool
rim_of a = rim a.x a.y a.w a.h

-- whether a drawing makes a dirty mark, decided by the sides of the surface at this place
abbrev pub marks_at : Place → ((width height : ℕ) → Bool) → Bool
marks_at Nowhere f = false
marks_at (At m p w h) f = f w h

-- the dirty marks of a fill, an outline and a text
abbrev pub filled_at : Place → Area → Bool
filled_at at a = marks_at at (λ width height. fill_marks width height a.x a.y a.w a.h)

abbrev pub outlined_at : Place → Area → Bool
outlined_at at a = marks_at at (λ width height. outline_marks a.w a.h)

abbrev pub written_at : Place → (n : ℕ) → Bool
written_at at n = marks_at at (λ width height. ltb 0 n)

-- the strokes on the surface s: a fill under a table; an outline and a text, each in one colour
abbrev pub fill_stroke : GdiState → SurfaceId → Area → (table pattern : ℕ) → Stroke
fill_stroke b s a t c = record { drawing = patterned s (box_of a) t c; due = filled_at (where_is b s) a }

abbrev pub outline_stroke : GdiState → SurfaceId → Area → (color : ℕ) → Stroke
outline_stroke b s a c = record { drawing = solid s (rim_of a) c; due = outlined_at (where_is b s) a }

abbrev pub text_stroke : GdiState → SurfaceId → (units : List ℕ) → (n : ℕ) → Point → (color : ℕ) → Stroke
text_stroke b s units n at c = record { drawing = solid s (text_ink units n at.x at.y) c; due = written_at (where_is b s) n }

-- pattern fill: the pattern is the packed brush colour
abbrev pub pattern_fill_on : GdiState → Area → (table : ℕ) → SurfaceId → Dc → Plan
pattern_fill_on b a t s d = drawn_by b (fill_stroke b s a t (packed_of d.brush_color) ∷ []) done

unfoldable pub pattern_fill : GdiState → (dc : ℕ) → Area → (rop : ℕ) → Plan
pattern_fill b dc a rop = on_target b (target_of b dc) (pattern_fill_on b a (table_of rop))

-- rectangle: fill with the brush, then outline with the pen, each with its own dirty mark
abbrev pub rectangle_on : GdiState → Area → SurfaceId → Dc → Plan
rectangle_on b a s d = drawn_by b (fill_stroke b s a 0xF0 (packed_of d.brush_color) ∷ outline_stroke b s a (packed_of d.pen_color) ∷ []) done

unfoldable pub rectangle : GdiState → (dc : ℕ) → Area → Plan
rectangle b dc a = on_target b (target_of b dc) (rectangle_on b a)

-- text: ink in the text colour; one dirty mark if there was a unit; answers 6 times the units before unit 0 or the end
abbrev pub text_on : GdiState → (units : List ℕ) → (n : ℕ) → Point → SurfaceId → Dc → Plan
text_on b units n at s d = drawn_by b (text_stroke b s units n at (packed_of d.text_color) ∷ []) (answered (6 * n))

-- 10 if there are more than 65,535 units, asked last
unfoldable pub text : GdiState → (units : List ℕ) → (dc : ℕ) → Point → Plan
text b units dc at =
    on_target b (target_of b dc) (λ s d. cond (leb (unit_count units) 65535) (text_on b units (unit_count units) at s d) (refuse 10 b))

-- a blit's dirty mark, decided by the sides of both surfaces
abbrev pub blitted_at : (at from : Place) → Area → Point → Bool
blitted_at at from a p =
    marks_at at (λ width height. marks_at from (λ src-w src-h. marks (blit_of width height a.x a.y p.x p.y a.w a.h src-w src-h)))

-- the region of a blit: the pixels of the area whose source pixel is inside the source; `from` is where the source lies
abbrev pub blit_box : (from : Place) → Area → Point → (x y : ℕ) → Bool
blit_box from a p = drawn_at a.x a.y p.x p.y a.w a.h (width_of from) (height_of from)

-- the column and the row of a pixel's source pixel
abbrev pub column_for : Area → Point → ℕ → ℕ
column_for a p x = positive (source_at a.x p.x x)

abbrev pub row_for : Area → Point → ℕ → ℕ
row_for a p y = positive (source_at a.y p.y y)

-- the drawing of a blit: each pixel of the region gets its source pixel as source operand
abbrev pub blitted : (target source : SurfaceId) → (from : Place) → Area → Point → (table pattern : ℕ) → Draw
blitted s q from a p t c = record { target = s; region = blit_box from a p; table = t; pattern = c; source = sampled q (column_for a p) (row_for a p) }

-- its stroke
abbrev pub blit_stroke : GdiState → (target source : SurfaceId) → Area → Point → (table pattern : ℕ) → Stroke
blit_stroke b s q a p t c = record { drawing = blitted s q (where_is b q) a p t c; due = blitted_at (where_is b s) (where_is b q) a p }

-- blit: the pattern is the target DC's packed brush colour
abbrev pub blit_on : GdiState → Area → Point → (table : ℕ) → SurfaceId → Dc → SurfaceId → Plan
blit_on b a p t s d q = drawn_by b (blit_stroke b s q a p t (packed_of d.brush_color) ∷ []) done

-- a code that ignores S is a pattern fill, and the source handle is not looked at
unfoldable pub blit : GdiState → (dc : ℕ) → Area → (src : ℕ) → Point → (rop : ℕ) → Plan
blit b dc a src p rop =
    cond (uses_src (table_of rop))
    (on_target b (target_of b dc) (λ s d. on_source b (target_of b src) (blit_on b a p (table_of rop) s d)))
    (pattern_fill b dc a rop)
