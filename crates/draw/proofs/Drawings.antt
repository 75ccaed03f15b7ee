-- The plans of pattern fill, rectangle and text by their DC's target, and a drawing's stroke on the numbers. Assumes nothing.
use Rattle.std.specs.Prelude.{Result}
use mathlib.Core.Bool.{Bool, cond}
use mathlib.Core.List.{List, [], ◌∷◌}
use mathlib.Core.Path.{◌≡◌, refl, ◌∙◌, ap, subst}
use Prim.Native.Nat.{ℕ, ◌≤◌, ◌<◌}
use lib.Dec.{leb}
use borrow.Author.Tests.{le-leb, lt-leb}
use Rattle.rop3.specs.Rop3.{table_of}
use Rattle.text.specs.Ink.{unit_count}
use Rattle.gdi.specs.declared.GdiState.{GdiState}
use Rattle.gdi.specs.declared.Dc.{Dc}
use Rattle.numbers.specs.View.{view, Updated}
use Rattle.ready.proofs.Ready.{Ready}
use Rattle.place.specs.declared.Place.{Place}
use Rattle.place.specs.declared.Site.{Site}
use Rattle.place.specs.declared.SurfaceId.{SurfaceId}
use Rattle.place.specs.declared.NoTarget.{NoTarget}
use Rattle.place.specs.declared.Target.{Target}
use Rattle.place.specs.Place.{target_of, Within, on}
use Rattle.place.specs.Inner.{SiteFound}
use Rattle.place.proofs.Same.{Still}
use Rattle.dirty.specs.Dirty.{dirtied_if}
use Rattle.paint.specs.Memories.{Memories, width_of, over}
use Rattle.paint.specs.Paint.{painted_by, after}
use Rattle.plan.specs.declared.Area.{Area}
use Rattle.plan.specs.declared.Point.{Point}
use Rattle.plan.specs.Plan.{Plan, refuse}
use Rattle.plan.specs.Stroke.{dirtied_by, paints_of}
use Rattle.plan.specs.Drawing.{patterned, marks_at, pattern_fill_on, pattern_fill, rectangle_on, rectangle, text_on, text}
use Rattle.plan.proofs.Followed.{StrokedOn}
use Rattle.canvas.specs.declared.Drawing.{Drawing}
use Rattle.canvas.specs.Inner.{region_of, table_for, marks_of, drawn_of, stroke_of}
use Rattle.draw.proofs.Targeted.{Targeted, painted}

-- the calls by their DC's target
pub pattern_fill_on_lem : (b : GdiState) (dc : ℕ) (a : Area) (rop : ℕ) → Targeted (pattern_fill b dc a rop) b dc (pattern_fill_on b a (table_of rop))
unfolding pattern_fill
pattern_fill_on_lem b dc a rop = record { plan = refl }

pub rectangle_on_lem : (b : GdiState) (dc : ℕ) (a : Area) → Targeted (rectangle b dc a) b dc (rectangle_on b a)
unfolding rectangle
rectangle_on_lem b dc a = record { plan = refl }

-- the plan of a text on a surface, refused or not
abbrev text_for : GdiState → (units : List ℕ) → Point → SurfaceId → Dc → Plan
text_for b us at s d = cond (leb (unit_count us) 65535) (text_on b us (unit_count us) at s d) (refuse 10 b)

pub text_on_lem : (b : GdiState) (us : List ℕ) (dc : ℕ) (at : Point) → Targeted (text b us dc at) b dc (text_for b us at)
unfolding text
text_on_lem b us dc at = record { plan = refl }

-- n units, on the surface s
module _ (b : GdiState) (us : List ℕ) (dc : ℕ) (at : Point) {t : Result Target NoTarget} (e : t ≡ target_of b dc) {s : SurfaceId} {i : Site} {d : Dc} (f : t ≡ on s i d)
    {n : ℕ} (k : n ≡ unit_count us) where
  pub too_many : 65535 < n → text b us dc at ≡ refuse 10 b
  too_many l = painted (text_on_lem b us dc at) e f ∙ rw (← k, lt-leb n 65535 l)

  pub few_enough : n ≤ 65535 → text b us dc at ≡ text_on b us n at s d
  few_enough l = painted (text_on_lem b us dc at) e f ∙ rw (← k, le-leb n 65535 l)

-- a site in a record that is lent with its memories
pub within_lent : {b : GdiState} {n k : ℕ} {s : SurfaceId} {i : Site} → Ready b n k → SiteFound b s i → Within n k i.at
within_lent q w = rw (q.panel, q.store) w.within

-- the mark and the bytes at the site that was found are those of the stroke
pub stroke_made : {l l' : List ℕ} {s : SurfaceId} {i : Site} → SiteFound (view l) s i → (g : Drawing) (us : List ℕ) (c : ℕ) {due : Bool} {ms ms' : Memories}
    → due ≡ marks_at i.at (marks_of g) → Updated l (dirtied_if due s (view l)) l' → ms' ≡ over i.at (drawn_of g us c (width_of i.at)) ms → StrokedOn l (stroke_of (view l) s g us c ∷ []) ms l' ms'
unfolding after painted_by dirtied_by paints_of
stroke_made {l} {l'} {s} w g us c {ms = ms} m q z =
    record {
      numbers = subst (λ (t : Bool). Updated l (dirtied_if t s (view l)) l') (m ∙ ap (λ (i : Site). marks_at i.at (marks_of g)) w.same) q;
      memories = z ∙ ap (λ (i : Site). over i.at (drawn_of g us c (width_of i.at)) ms) w.same;
    }

module _ (s : SurfaceId) (g : Drawing) (us : List ℕ) {l l' : List ℕ} {ms ms' : Memories} where
  -- a stroke in the colour k, which is c in the code
  pub in_colour : {c k : ℕ} → c ≡ k → StrokedOn l (stroke_of (view l) s g us c ∷ []) ms l' ms' → StrokedOn l (stroke_of (view l) s g us k ∷ []) ms l' ms'
  in_colour e x = subst (λ (z : ℕ). StrokedOn l (stroke_of (view l) s g us z ∷ []) ms l' ms') e x

  -- a stroke after others is the same as computed from the record before them
  pub in_place : {b : GdiState} {c : ℕ} → Still b (view l) → StrokedOn l (stroke_of (view l) s g us c ∷ []) ms l' ms' → StrokedOn l (stroke_of b s g us c ∷ []) ms l' ms'
  in_place {c = c} t x =
      subst (λ (at : Place). StrokedOn l (record { drawing = patterned s (region_of g us) (table_for g) c; due = marks_at at (marks_of g) } ∷ []) ms l' ms') (t.places s) x
