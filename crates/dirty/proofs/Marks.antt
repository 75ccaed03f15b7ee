-- The cases of a dirty mark. Assumes nothing.
use Rattle.std.proofs.Common.{◌≡◌, ℕ, ◌+◌, ◌%◌, set, sym, ◌∙◌, eq-eqb, ne_eqb, Option, Some, None}
use Rattle.gdi.specs.declared.GdiState.{GdiState}
use Rattle.gdi.specs.declared.GdiObject.{GdiObject}
use Rattle.gdi.specs.Stock.{stock_bitmap}
use Rattle.gdi.specs.Updates.{with_frames, with_stock_dirty, with_objects}
use Rattle.gdi.specs.Lookup.{handle_at, object_at, find_of}
use Rattle.place.specs.declared.SurfaceId.{SurfaceId}
use Rattle.place.specs.declared.SurfaceId.TheVariants.{Panel, Bitmap}
use Rattle.place.specs.Place.{slot_for}
use Rattle.dirty.specs.Dirty.{object_dirtied, dirtied}

pub mark_panel : (b : GdiState) {s : SurfaceId} {n : ℕ} → s ≡ Panel → n ≡ (b.frame_counter + 1) % 18446744073709551616 → with_frames b n ≡ dirtied b s
unfolding dirtied
mark_panel b e f = rw (e, f)

module _ (b : GdiState) {s : SurfaceId} {h : ℕ} (e : s ≡ Bitmap h) where
  pub mark_stock : h ≡ stock_bitmap → with_stock_dirty b ≡ dirtied b s
  unfolding dirtied
  mark_stock q = rw (e, eq-eqb _ _ q)

  module _ (ne : h ≡ stock_bitmap → ⊥) where
    -- the slot that was passed
    pub slot_found : {q f : Option ℕ} → q ≡ slot_for b s → q ≡ f → find_of b h ≡ f
    slot_found g f = sym (g ∙ rw (e, ne_eqb _ _ ne)) ∙ f

    pub mark_found : {i : ℕ} {o : GdiObject} → find_of b h ≡ Some i → o ≡ object_dirtied (object_at b i)
        → with_objects b b.next_handle b.count (set b.objects i (record { handle = handle_at b.objects i; object = o })) ≡ dirtied b s
    unfolding dirtied
    mark_found f q = rw (e, ne_eqb _ _ ne, f, q)

    pub mark_none : find_of b h ≡ None → b ≡ dirtied b s
    unfolding dirtied
    mark_none f = rw (e, ne_eqb _ _ ne, f)
