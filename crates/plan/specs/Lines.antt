-- Moves and lines: each DC has a current position, which a move sets and from which a line is drawn.
use Rattle.std.specs.Prelude.{Bool, cond, [], ◌∷◌, ℕ, Option, Some, None}
use Rattle.gdi.specs.declared.Spot.{Spot}
use Rattle.gdi.specs.declared.GdiState.{GdiState}
use Rattle.gdi.specs.declared.Dc.{Dc}
use Rattle.gdi.specs.Record.{is_position}
use Rattle.gdi.specs.Updates.{with_dc, with_position}
use Rattle.gdi.specs.Lookup.{dc_of}
use Rattle.line.specs.Line.{line, line_marks}
use Rattle.place.specs.declared.SurfaceId.{SurfaceId}
use Rattle.place.specs.Place.{where_is, target_of}
use Rattle.plan.specs.declared.Point.{Point}
use Rattle.plan.specs.Answer.{done, placed}
use Rattle.plan.specs.Plan.{Plan, record_only, refuse}
use Rattle.plan.specs.Stroke.{Stroke, drawn_by}
use Rattle.plan.specs.Drawing.{on_target, packed_of, solid, marks_at}

-- the position of a DC
abbrev pub position_of : Dc → Point
position_of d = record { x = d.pos_x; y = d.pos_y }

-- the record with a DC moved to a point; the last argument is what the lookup of the DC found
abbrev pub moved_at : GdiState → (dc : ℕ) → Point → Option (Spot × Dc) → GdiState
moved_at b dc to (Some (p, d)) = with_dc b dc p (with_position d to.x to.y)
moved_at b dc to None = b

abbrev pub moved_to : GdiState → (dc : ℕ) → Point → GdiState
moved_to b dc to = moved_at b dc to (dc_of b dc)

-- 11 if a coordinate of the point is outside -32,768 to 32,767
abbrev pub unless_far : GdiState → Point → Plan → Plan
unless_far b to p = cond (is_position to.x to.y) p (refuse 11 b)

-- a move answers the old position
abbrev pub move_on : GdiState → (dc : ℕ) → Point → Dc → Plan
move_on b dc to d = record_only (moved_to b dc to) (placed (position_of d))

abbrev pub move_at : GdiState → (dc : ℕ) → Point → Option (Spot × Dc) → Plan
move_at b dc to (Some (p, d)) = unless_far b to (move_on b dc to d)
move_at b dc to None = refuse 1 b

-- 1 if there is no such DC, then 11
unfoldable pub move_to : GdiState → (dc : ℕ) → Point → Plan
move_to b dc to = move_at b dc to (dc_of b dc)

-- the pixels of the line from one point to another, without its end
abbrev pub line_of : (from to : Point) → (x y : ℕ) → Bool
line_of p q = line p.x p.y q.x q.y

-- a line in one colour; it marks once if it drew a pixel
abbrev pub line_stroke : GdiState → SurfaceId → (from to : Point) → (color : ℕ) → Stroke
line_stroke b s p q c =
    record { drawing = solid s (line_of p q) c; due = marks_at (where_is b s) (λ width height. line_marks width height p.x p.y q.x q.y) }

-- a line runs from the position to the point, in the packed pen colour; the DC then stands at the point, drawn or not
abbrev pub line_on : GdiState → (dc : ℕ) → Point → SurfaceId → Dc → Plan
line_on b dc to s d = drawn_by (moved_to b dc to) (line_stroke b s (position_of d) to (packed_of d.pen_color) ∷ []) done

-- 1 and 2, then 11
unfoldable pub line_to : GdiState → (dc : ℕ) → Point → Plan
line_to b dc to = on_target b (target_of b dc) (λ s d. unless_far b to (line_on b dc to s d))
