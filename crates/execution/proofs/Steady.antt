-- Every call keeps the memories' lengths, and leaves a sound record sound. Assumes nothing.
use mathlib.Core.Bool.{Bool}
use mathlib.Core.List.{List, [], ◌∷◌}
use mathlib.Core.Path.{◌≡◌, refl, sym, ◌∙◌, subst}
use Prim.Native.Nat.{ℕ, ◌+◌, ◌≤◌}
use lib.ListN.{length}
use Rattle.gdi.specs.declared.GdiState.{GdiState}
use Rattle.gdi.proofs.Scan.{found_count}
use Rattle.ready.proofs.Ready.{Ready}
use Rattle.place.specs.declared.Memory.{Memory}
use Rattle.place.specs.declared.Memory.TheVariants.{Panel as PanelMemory, Store}
use Rattle.place.specs.declared.SurfaceId.{SurfaceId}
use Rattle.place.specs.Place.{length_of}
use Rattle.place.proofs.Same.{Still, still_then}
use Rattle.removal.specs.Removal.{without_at}
use Rattle.removal.proofs.Sound.{removed_sound}
use Rattle.paint.specs.Memories.{Memories, memory_of}
use Rattle.paint.specs.Paint.{Paint, blank, painted_by, after}
use Rattle.paint.proofs.Alike.{ReadyWith}
use Rattle.paint.proofs.Draws.{drawn_panel, drawn_store, drawn_ready}
use Rattle.paint.proofs.Blanks.{blank_panel, blank_store}
use Rattle.paint.proofs.Closed.{closed_panel, closed_store}
use Rattle.plan.specs.Plan.{Plan}
use Rattle.plan.specs.Stroke.{Stroke, paints_of}
use Rattle.plan.proofs.Strokes.{dirtied_by_still}
use Rattle.execution.proofs.Shape.{Blanks, Blanking, last, before, Shape, record_only_lem, strokes, blanks, deletion}

-- These paints keep the memories' lengths, and the record b' after them is ready if b is.
pub record Steady (b : GdiState) (ps : List Paint) (b' : GdiState) : Type 0 where
  pub panel : (ms : Memories) → ReadyWith b ms → length (after b ps ms).panel ≡ length ms.panel
  pub store : (ms : Memories) → ReadyWith b ms → length (after b ps ms).store ≡ length ms.store
  pub stays_ready : {n k : ℕ} → Ready b n k → Ready b' n k

-- no paint, and every surface in its place
still_steady : {b b' : GdiState} → Still b b' → Steady b [] b'
unfolding after
still_steady s =
    record {
      panel = λ ms l. refl;
      store = λ ms l. refl;
      stays_ready = λ r. record { sound = s.sound r.sound; panel = r.panel ∙ sym s.panel_len; store = r.store ∙ sym s.store_len };
    }

-- drawings
and_strokes : {b b' : GdiState} (ss : List Stroke) → Still b b' → Steady b (paints_of ss) b'
unfolding after paints_of
and_strokes [] s = still_steady s
and_strokes {b} (t ∷ ss) s =
    let k = and_strokes ss s in
    record {
      panel = λ ms l. k.panel _ (drawn_ready b t.drawing ms l) ∙ drawn_panel b t.drawing ms l;
      store = λ ms l. k.store _ (drawn_ready b t.drawing ms l) ∙ drawn_store b t.drawing ms l;
      stays_ready = k.stays_ready;
    }

-- a range of a memory that fits the memories lent with a record
memory_length : (b : GdiState) (ms : Memories) → ReadyWith b ms → (k : Memory) → length (memory_of ms k) ≡ length_of b.panel_len b.store_len k
memory_length b ms l PanelMemory = l.panel
memory_length b ms l Store = l.store

pub range_fits : (b : GdiState) (ms : Memories) → ReadyWith b ms → (k : Memory) (p n : ℕ) → p + n ≤ length_of b.panel_len b.store_len k → p + n ≤ length (memory_of ms k)
range_fits b ms l k p n fits = rw (memory_length b ms l k) fits

-- blanked bytes; a is the record with which the paint is carried out, which does not matter to it
pub blanked_ready : (a : GdiState) {b b' : GdiState} {k : Memory} {p n : ℕ} {clears : SurfaceId → Bool} → Blanks b b' k p n clears → (ms : Memories) → ReadyWith b ms
    → (length (painted_by a (blank k p n clears) ms).panel ≡ length ms.panel) × ((length (painted_by a (blank k p n clears) ms).store ≡ length ms.store) × ReadyWith b' (painted_by a (blank k p n clears) ms))
blanked_ready a {b} {b'} {k} {p} {n} {clears} x ms l =
    let fits = range_fits b ms l k p n x.fits in
    let i = blank_panel a p n clears ms k fits in
    let j = blank_store a p n clears ms k fits in
    (i, (j, rw (i, j) (x.ready _ _ l)))

-- several of them
blanking_steady : (a : GdiState) {b b' : GdiState} {ps : List Paint} → Blanking b b' ps → (ms : Memories) → ReadyWith b ms
    → (length (after a ps ms).panel ≡ length ms.panel) × ((length (after a ps ms).store ≡ length ms.store) × ReadyWith b' (after a ps ms))
unfolding after
blanking_steady a {b} {b'} (last k p n clears x) ms l =
    let (i, (j, r)) = blanked_ready a x ms l in (i, (j, r))
blanking_steady a (before k p n clears x y) ms l =
    let (i, (j, r)) = blanked_ready a x ms l in
    let (i', (j', r')) = blanking_steady a y _ r in (i' ∙ i, (j' ∙ j, r'))

blanking_ready : {b b' : GdiState} {ps : List Paint} → Blanking b b' ps → {n k : ℕ} → Ready b n k → Ready b' n k
blanking_ready (last k p n clears x) r = x.ready _ _ r
blanking_ready (before k p n clears x y) r = blanking_ready y (x.ready _ _ r)

pub shape_steady : {b : GdiState} {p : Plan} → Shape b p → Steady b p.paint p.outcome.state
shape_steady {b} {p} (record_only_lem u) = subst (λ (ps : List Paint). Steady b ps p.outcome.state) (sym u.paint) (still_steady u.still)
shape_steady {b} (strokes b' ss a t i) = and_strokes ss (still_then t (dirtied_by_still ss b'))
shape_steady {b} (blanks b' a ps x) =
    record { panel = λ ms l. (blanking_steady b x ms l).0; store = λ ms l. (blanking_steady b x ms l).1.0; stays_ready = blanking_ready x }
shape_steady {b} (deletion gone none h i created found) =
    record {
      panel = λ ms l. closed_panel b h i found ms;
      store = closed_store b h i found;
      stays_ready = λ r. record { sound = removed_sound b i r.sound (found_count b h found); panel = unfold without_at in r.panel; store = unfold without_at in r.store };
    }
