-- Strokes leave every surface in its place, so that strokes made in two steps are the strokes of one list. Assumes nothing.
use mathlib.Core.List.{List, [], ◌∷◌, ◌++◌}
use mathlib.Core.Path.{◌≡◌, refl, sym, ◌∙◌, ap, ap₂}
use Prim.Native.Nat.{ℕ}
use Rattle.gdi.specs.declared.GdiState.{GdiState}
use Rattle.ready.proofs.Ready.{Ready}
use Rattle.place.specs.declared.Place.{Place}
use Rattle.place.specs.declared.Site.{Site}
use Rattle.place.specs.declared.SurfaceId.{SurfaceId}
use Rattle.place.specs.Place.{slot_for}
use Rattle.place.specs.Inner.{SiteFound}
use Rattle.place.proofs.Same.{SamePlaces, Still, still_same, still_then}
use Rattle.dirty.specs.Dirty.{dirtied_if}
use Rattle.dirty.proofs.Still.{dirtied_if_still, dirtied_if_slot, dirtied_if_count}
use Rattle.paint.specs.Memories.{Memories, width_of, over, colour_at}
use Rattle.paint.specs.Paint.{Source, black, sampled, Draw, draw, operand, drawn_bytes, painted_by, after}
use Rattle.plan.specs.Stroke.{Stroke, dirtied_by, paints_of}

-- Strokes were made: the record after has their dirty marks, and the memories after have their drawings.
pub record Stroked (b : GdiState) (ss : List Stroke) (ms : Memories) (b' : GdiState) (ms' : Memories) : Type 0 where
  pub state : b' ≡ dirtied_by b ss
  pub memories : ms' ≡ after b (paints_of ss) ms

-- the record after the dirty marks: of one list after another; every surface stays in its place, every bitmap's record in its slot,
-- and the number of objects is kept
dirtied_by_append : (ss ts : List Stroke) (b : GdiState) → dirtied_by b (ss ++ ts) ≡ dirtied_by (dirtied_by b ss) ts
unfolding dirtied_by
dirtied_by_append [] ts b = refl
dirtied_by_append (s ∷ ss) ts b = dirtied_by_append ss ts (dirtied_if s.due s.drawing.target b)

pub dirtied_by_still : (ss : List Stroke) (b : GdiState) → Still b (dirtied_by b ss)
unfolding dirtied_by
dirtied_by_still [] b = still_same b
dirtied_by_still (s ∷ ss) b = still_then (dirtied_if_still s.due s.drawing.target b) (dirtied_by_still ss (dirtied_if s.due s.drawing.target b))

pub dirtied_by_slot : (ss : List Stroke) (b : GdiState) (u : SurfaceId) → slot_for (dirtied_by b ss) u ≡ slot_for b u
unfolding dirtied_by
dirtied_by_slot [] b u = refl
dirtied_by_slot (s ∷ ss) b u = dirtied_by_slot ss (dirtied_if s.due s.drawing.target b) u ∙ dirtied_if_slot s.due s.drawing.target b u

pub dirtied_by_count : (ss : List Stroke) (b : GdiState) → (dirtied_by b ss).count ≡ b.count
unfolding dirtied_by
dirtied_by_count [] b = refl
dirtied_by_count (s ∷ ss) b = dirtied_by_count ss (dirtied_if s.due s.drawing.target b) ∙ dirtied_if_count s.due s.drawing.target b

-- the memories after the drawings of one list after another
painted_append : (b : GdiState) (ss ts : List Stroke) (ms : Memories) → after b (paints_of (ss ++ ts)) ms ≡ after b (paints_of ts) (after b (paints_of ss) ms)
unfolding after paints_of
painted_append b [] ts ms = refl
painted_append b (s ∷ ss) ts ms = painted_append b ss ts (painted_by b (draw s.drawing) ms)

-- drawings on another record that has every surface in the same place
module _ (b b' : GdiState) (e : SamePlaces b b') where
  same_operand : (ms : Memories) (o : Source) → operand b' ms o ≡ operand b ms o
  same_operand ms black = refl
  same_operand ms (sampled s fx fy) = ap {B = ℕ → ℕ → ℕ} (λ at x y. colour_at ms at (fx x) (fy y)) (e s)

  same_drawing : (d : Draw) (ms : Memories) → painted_by b' (draw d) ms ≡ painted_by b (draw d) ms
  unfolding painted_by
  same_drawing d ms = ap₂ (λ (at : Place) (s : ℕ → ℕ → ℕ). over at (drawn_bytes d s (width_of at)) ms) (e d.target) (same_operand ms d.source)

  pub same_drawings : (ss : List Stroke) (ms : Memories) → after b' (paints_of ss) ms ≡ after b (paints_of ss) ms
  unfolding after paints_of
  same_drawings [] ms = refl
  same_drawings (s ∷ ss) ms = ap (after b' (paints_of ss)) (same_drawing s.drawing ms) ∙ same_drawings ss (painted_by b (draw s.drawing) ms)

module _ {b : GdiState} {ss : List Stroke} {ms : Memories} {r : GdiState} {ms₁ : Memories} (x : Stroked b ss ms r ms₁) where
  -- the record after strokes: every surface in its place, and the device still ready
  pub stroked_still : Still b r
  stroked_still = rw x.state (dirtied_by_still ss b)

  pub stroked_ready : {n k n' k' : ℕ} → n' ≡ n → k' ≡ k → Ready b n k → Ready r n' k'
  stroked_ready p q i = let t = stroked_still in record { sound = t.sound i.sound; panel = p ∙ i.panel ∙ sym t.panel_len; store = q ∙ i.store ∙ sym t.store_len }

  -- a site that was found before the strokes is still the same
  pub stroked_placed : {s : SurfaceId} {i : Site} → SiteFound b s i → SiteFound r s i
  stroked_placed {s} w =
      let t = stroked_still in
      record {
        same = w.same ∙ sym (ap₂ {C = Site} (λ at slot. record { at = at; slot = slot }) (t.places s) (rw x.state (dirtied_by_slot ss b s)));
        within = rw (t.panel_len, t.store_len) w.within;
      }

  -- strokes, and then others
  pub stroked_then : {ts : List Stroke} {b' : GdiState} {ms' : Memories} → Stroked r ts ms₁ b' ms' → Stroked b (ss ++ ts) ms b' ms'
  stroked_then {ts} y =
      record {
        state = y.state ∙ ap (λ (z : GdiState). dirtied_by z ts) x.state ∙ sym (dirtied_by_append ss ts b);
        memories = y.memories ∙ same_drawings b r stroked_still.places ts ms₁ ∙ ap (after b (paints_of ts)) x.memories ∙ sym (painted_append b ss ts ms);
      }
