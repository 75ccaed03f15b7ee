-- Panel fill and resize.
use Rattle.std.specs.Prelude.{Bool, true, cond, ◌&&◌, ◌||◌, List, [], ◌∷◌, ℕ, eqb, ltb}
use Rattle.gdi.specs.declared.GdiState.{GdiState}
use Rattle.gdi.specs.Record.{size}
use Rattle.gdi.specs.Updates.{with_sides}
use Rattle.place.specs.declared.Memory.TheVariants.{Panel as PanelMemory}
use Rattle.place.specs.declared.SurfaceId.TheVariants.{Panel}
use Rattle.dirty.specs.Dirty.{dirtied}
use Rattle.plan.specs.Answer.{done}
use Rattle.paint.specs.Paint.{Paint, blank, only}
use Rattle.plan.specs.Plan.{Plan, record_only, refuse}
use Rattle.plan.specs.Stroke.{Stroke, drawn_by}
use Rattle.plan.specs.Drawing.{solid}

-- the whole panel in one colour, and one dirty mark
abbrev pub panel_fill_stroke : (color : ℕ) → Stroke
panel_fill_stroke c = record { drawing = solid Panel (λ x y. true) c; due = true }

abbrev pub panel_fill : GdiState → (color : ℕ) → Plan
panel_fill b c = drawn_by b (panel_fill_stroke c ∷ []) done

-- the panel turns black, with one dirty mark; b is the record before the mark, ps are the paints that blank the panel
abbrev pub turned_black : GdiState → List Paint → Plan
turned_black b ps = record { outcome = record { state = dirtied b Panel; answer = done }; paint = ps }

-- an effective resize: the panel at its new size turns black; bytes past it are kept
abbrev pub resized : GdiState → (width height : ℕ) → Plan
resized b w h = turned_black (with_sides b w h) (blank PanelMemory 0 (size w h) (only Panel) ∷ [])

-- a resize with a side of 0 or the present size
abbrev pub no_effect : GdiState → (width height : ℕ) → Bool
no_effect b w h = (eqb w 0 || eqb h 0) || (eqb w b.width && eqb h b.height)

-- it does nothing; else 6 if a side is above 4,096, then 7 if the panel memory is too short
unfoldable pub resize : GdiState → (width height : ℕ) → Plan
resize b w h =
    cond (no_effect b w h) (record_only b done) (
    cond (ltb 4096 w || ltb 4096 h) (refuse 6 b) (
    cond (ltb b.panel_len (size w h)) (refuse 7 b)
    (resized b w h)))
