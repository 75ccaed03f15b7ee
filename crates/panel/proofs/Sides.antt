-- The panel's sides are written into the numbers, and then a dirty mark. Assumes nothing.
use mathlib.Core.Bool.{true}
use mathlib.Core.List.{List}
use mathlib.Core.Path.{◌≡◌, refl, ◌∙◌, subst}
use Prim.Native.Nat.{ℕ, ◌+◌, ◌*◌, ◌≤◌, ◌<◌}
use native.Mathlib.Omega.{arith}
use lib.ListN.{length, set, length-set}
use lib.Seq.{get_or-set_same, get_or-set_other}
use Rattle.arithmetic.specs.Interval.{between}
use Rattle.words.specs.Words.{painted}
use Rattle.gdi.specs.declared.GdiState.{GdiState}
use Rattle.gdi.specs.Updates.{with_sides}
use Rattle.numbers.specs.Layout.{width_place, height_place, stock_dirty_place, count_place}
use Rattle.numbers.specs.Block.{at}
use Rattle.numbers.specs.View.{view, is_record, Updated}
use Rattle.numbers.proofs.Record.{parts}
use Rattle.sound.specs.Sound.{is_sound}
use Rattle.place.specs.declared.SurfaceId.TheVariants.{Panel}
use Rattle.dirty.specs.Dirty.{dirtied}
use Rattle.dirty.proofs.Still.{dirtied_count}
use Rattle.numbers.proofs.Updates.{sides_seen}
use Rattle.numbers.proofs.Kept.{Kept, kept_all, kept_set, table_kept}
use Rattle.dirty.proofs.Numbers.{screen, head_updated}
use Rattle.plan.proofs.Followed.{updated_twice}
use Rattle.panel.proofs.Cases.{panel_area, panel_fits}

module _ (l : List ℕ) (r : is_record l ≡ true) (w h : ℕ) where
  abbrev sized : List ℕ
  sized = set (set l width_place w) height_place h

  kept : Kept l width_place 2 sized
  kept = kept_set height_place h (kept_set width_place w (kept_all l width_place 2) (omega arith) (omega arith)) (omega arith) (omega arith)

  other : (k : ℕ) → (width_place ≤ k → k < width_place + 2 → ⊥) → at sized k ≡ at l k
  other k out = kept.same k out

  first : at sized width_place ≡ w
  first = get_or-set_other (set l width_place w) height_place width_place h 0 (λ x. omega arith) ∙ get_or-set_same l width_place w 0 (omega (arith, (parts l r).long))

  second : at sized height_place ≡ h
  second = get_or-set_same (set l width_place w) height_place h 0 (omega (arith, length-set l width_place w, (parts l r).long))

  seen : view sized ≡ with_sides (view l) w h
  seen =
      sides_seen l sized (screen l sized r kept (omega arith)) (table_kept l sized r kept (omega arith) (other count_place (λ a b. omega arith)))
      (λ k h a b. other k (λ x y. omega arith)) first second

  pub sides_set : Updated l (with_sides (view l) w h) sized
  unfolding view
  sides_set = head_updated l sized r kept (omega arith) seen refl (omega (arith, other stock_dirty_place (λ a b. omega arith), (parts l r).flag))

-- the sides, and then a dirty mark
pub sized_marked : {l l₁ l' : List ℕ} (w h : ℕ) → Updated l (with_sides (view l) w h) l₁ → Updated l₁ (dirtied (view l₁) Panel) l' → Updated l (dirtied (with_sides (view l) w h) Panel) l'
sized_marked {l} {l₁} {l'} w h s t = updated_twice (dirtied_count (with_sides (view l) w h) Panel) s (subst (λ (b : GdiState). Updated l₁ (dirtied b Panel) l') s.same t)

-- the panel of a sound record, from its numbers
module _ (l : List ℕ) (sound : is_sound (view l) ≡ true) where
  pub area_seen : at l width_place * at l height_place ≤ 16777216
  unfolding view
  area_seen = panel_area (view l) sound

  pub fits_seen : (panel : List ℕ) → length panel ≡ (view l).panel_len → 2 * (0 + at l width_place * at l height_place) ≤ length panel
  unfolding view
  fits_seen panel len = panel_fits (view l) sound len

pub filled_seen : (l panel : List ℕ) (c : ℕ) {panel' : List ℕ} → panel' ≡ painted (between 0 (0 + at l width_place * at l height_place)) (λ _. c) panel → panel' ≡ painted (between 0 (0 + (view l).width * (view l).height)) (λ _. c) panel
unfolding view
filled_seen l panel c e = e
