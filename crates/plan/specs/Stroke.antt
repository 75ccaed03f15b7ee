-- Strokes: the drawings of a call, each with whether its dirty mark is due; and the plan of a list of strokes.
use Rattle.std.specs.Prelude.{Bool, List, [], ◌∷◌}
use Rattle.gdi.specs.declared.GdiState.{GdiState}
use Rattle.dirty.specs.Dirty.{dirtied_if}
use Rattle.paint.specs.Paint.{Draw, Paint, draw}
use Rattle.plan.specs.Answer.{Parts}
use Rattle.plan.specs.Plan.{Plan}

-- One drawing, and whether it makes a dirty mark on the surface that it draws on.
pub record Stroke : Type 0 where
  pub drawing : Draw
  pub due : Bool

-- the record after the dirty marks that are due, in their order
unfoldable pub dirtied_by : GdiState → List Stroke → GdiState
dirtied_by b [] = b
dirtied_by b (s ∷ ss) = dirtied_by (dirtied_if s.due s.drawing.target b) ss

-- the drawings, in their order
unfoldable pub paints_of : List Stroke → List Paint
paints_of [] = []
paints_of (s ∷ ss) = draw s.drawing ∷ paints_of ss

-- The plan of every accepted drawing call: the record has the dirty marks of its strokes, and the paints are their drawings.
abbrev pub drawn_by : GdiState → List Stroke → Parts → Plan
drawn_by b ss a = record { outcome = record { state = dirtied_by b ss; answer = a }; paint = paints_of ss }
