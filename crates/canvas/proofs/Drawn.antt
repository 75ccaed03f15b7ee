-- The operation of a drawing gives the bytes and the mark that the drawing's definition says. Assumes nothing.
use Rattle.std.proofs.Common.{Result, Ok, Err}
use Rattle.std.specs.Result.{result_unwrap_or}
use mathlib.Core.Bool.{Bool, false}
use mathlib.Core.List.{List}
use mathlib.Core.Path.{◌≡◌, refl, ◌∙◌, subst}
use Prim.Native.Nat.{ℕ, ◌≤◌, ◌<◌}
use lib.Dec.{ltb}
use lib.ListN.{length}
use mir.Syntax.{w32}
use mir.Val.{SFits}
use Rattle.arithmetic.proofs.Machine.{held32, stored32}
use Rattle.words.specs.Words.{painted}
use Rattle.raster.specs.Raster.{ropped}
use Rattle.raster.proofs.Plain.{pattern_ropped}
use Rattle.refusals.specs.declared.Refusal.{Refusal}
use Rattle.surface.specs.Refusal.{drawn}
use Rattle.surface.specs.Region.{words_of}
use Rattle.surface.specs.declared.Drawn as A
use Rattle.surface.proofs.Accepted.{InOrder, order_accepted}
use Rattle.surface.proofs.Answers.{done_drawn}
use Rattle.fill.specs.Fill.{FillRectRop}
use Rattle.outline.specs.Outline.{StrokeRect}
use Rattle.line.specs.Line.{extent, line, line_marks}
use Rattle.text.specs.Ink.{text_ink}
use Rattle.plan.specs.declared.Area.{Area}
use Rattle.plan.specs.declared.Point.{Point}
use Rattle.canvas.specs.declared.Drawing.{Drawing}
use Rattle.canvas.specs.declared.Drawing.TheVariants.{Fill, Outline, Text, Line}
use Rattle.canvas.specs.Inner.{marks_of, drawn_of, Drawable}

-- painting one colour is painting under PATCOPY's table
solid : (P : ℕ → Bool) (c : ℕ) (m : List ℕ) → c < 65536 → painted P (λ _. c) m ≡ painted P (ropped 0xF0 c (λ _. 0) m) m
solid P c m small = pattern_ropped 0xF0 P c (λ _. 0) m refl small

-- the mark of a drawing that was answered, or none if it was refused
pub marked_or : (r : Result Bool Refusal) → result_unwrap_or r false ≡ (drawn r).marked
marked_or (Ok t) = refl
marked_or (Err x) = refl

-- the mark and the bytes are those of a drawing
abbrev pub Drawn : Drawing → (units : List ℕ) → (color width height : ℕ) → (m : List ℕ) → Bool → (m' : List ℕ) → Type 0
Drawn g us c width height m t m' = (t ≡ marks_of g width height) × (m' ≡ drawn_of g us c width m)

module _ {g : Drawing} (us : List ℕ) (c width height : ℕ) (m : List ℕ) {m' : List ℕ} where
  module _ {d : A.Drawn} {a : Area} (o : InOrder width height (length m)) (x : SFits w32 a.x) (y : SFits w32 a.y) (w : SFits w32 a.w) (h : SFits w32 a.h) where
    pub as_fill : {rop : ℕ} → g ≡ Fill a rop → FillRectRop (held32 a.x) (held32 a.y) (held32 a.w) (held32 a.h) c rop width height m d m' → Drawn g us c width height m d.marked m'
    as_fill e f =
        let (p, q) = done_drawn (order_accepted width height (length m) o) f in (
          p ∙ rw (stored32 a.x x, stored32 a.y y, stored32 a.w w, stored32 a.h h, e),
          q ∙ rw (stored32 a.x x, stored32 a.y y, stored32 a.w w, stored32 a.h h, e),
        )

    pub as_outline : c < 65536 → g ≡ Outline a → StrokeRect (held32 a.x) (held32 a.y) (held32 a.w) (held32 a.h) c width height m d m' → Drawn g us c width height m d.marked m'
    as_outline small e f =
        let (p, q) = done_drawn (order_accepted width height (length m) o) f in (
          p ∙ rw (stored32 a.w w, stored32 a.h h, e),
          q ∙ solid _ c m small ∙ rw (stored32 a.x x, stored32 a.y y, stored32 a.w w, stored32 a.h h, e),
        )

  pub as_text : {p : Point} {n : ℕ} → SFits w32 p.x → SFits w32 p.y → c < 65536 → g ≡ Text p n
      → m' ≡ painted (words_of width (text_ink us n (held32 p.x) (held32 p.y))) (λ _. c) m
      → Drawn g us c width height m (ltb 0 n) m'
  as_text {p} x y small e q = (rw e, q ∙ solid _ c m small ∙ rw (stored32 p.x x, stored32 p.y y, e))

  pub as_line : {t : Bool} {p q : Point} → SFits w32 p.x → SFits w32 p.y → SFits w32 q.x → SFits w32 q.y → c < 65536 → g ≡ Line p q
      → t ≡ line_marks width height (held32 p.x) (held32 p.y) (held32 q.x) (held32 q.y)
      → m' ≡ painted (words_of width (line (held32 p.x) (held32 p.y) (held32 q.x) (held32 q.y))) (λ _. c) m
      → Drawn g us c width height m t m'
  as_line {p = p} {q = q} x y u v small e marks bytes = (
    marks ∙ rw (stored32 p.x x, stored32 p.y y, stored32 q.x u, stored32 q.y v, e),
    bytes ∙ solid _ c m small ∙ rw (stored32 p.x x, stored32 p.y y, stored32 q.x u, stored32 q.y v, e),
  )

-- the ends of a line that the code draws
pub near : {g : Drawing} (len : ℕ) {p q : Point} → Drawable g len → g ≡ Line p q → SFits w32 p.x → SFits w32 p.y → SFits w32 q.x → SFits w32 q.y
    → (extent (held32 p.x) (held32 q.x) < 65536) × (extent (held32 p.y) (held32 q.y) < 65536)
near len {p} {q} k e x y u v = rw (stored32 p.x x, stored32 p.y y, stored32 q.x u, stored32 q.y v) (subst (λ (d : Drawing). Drawable d len) e k)

pub countable : {g : Drawing} (len : ℕ) {p : Point} {n : ℕ} → Drawable g len → g ≡ Text p n → (n ≤ len) × (n ≤ 65535)
countable len k e = subst (λ (v : Drawing). Drawable v len) e k
