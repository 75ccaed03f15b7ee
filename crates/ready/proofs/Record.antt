-- The record check's last steps, read from numbers. Assumes nothing.
use mathlib.Core.Bool.{Bool, true, false, cond, ◌&&◌, true≢false}
use mathlib.Core.List.{List}
use mathlib.Core.Path.{◌≡◌, refl, sym, ◌∙◌, ap}
use Prim.Native.Nat.{ℕ, ◌*◌, ◌≤◌}
use lib.Dec.{leb}
use borrow.Author.Tests.{le-leb}
use Rattle.std.specs.Bool.{then_some}
use Rattle.std.proofs.Common.{Option, Some, None}
use Rattle.arithmetic.proofs.Test.{both}
use Rattle.surface.specs.Refusal.{side}
use Rattle.numbers.specs.Layout.{panel_len_place, store_len_place, width_place, height_place, count_place}
use Rattle.numbers.specs.Block.{at}
use Rattle.numbers.specs.View.{view, is_record}
use Rattle.numbers.proofs.Seen.{width_seen, height_seen}
use Rattle.well_formed.specs.Inner.{is_head, are_slots}
use Rattle.well_formed.proofs.Tested.{head_and_slots}
use Rattle.sound.specs.Sound.{limit, positioned, slots_fit, distinct, used, sound_except_sizes, is_sound}
use Rattle.sound.proofs.Bytes.{area}
use Rattle.sound.proofs.Sound.{ExceptSizes, parts, parts_except, whole_except, except_of}
use Rattle.ready.specs.Inner.{sound_end}

-- numbers that are a record, sound except for the sizes, whose pixels end there
pub record EndsAt (l : List ℕ) (end : ℕ) : Type 0 where
  pub is_record_lem : is_record l ≡ true
  pub except : ExceptSizes (view l)
  pub used_so : end ≡ used (view l)

pub area_seen : {l : List ℕ} {end : ℕ} → EndsAt l end → at l width_place * at l height_place ≤ 16777216
area_seen {l} s = rw (width_seen l, height_seen l) at (area (view l).width (view l).height s.except.width s.except.height)

module _ (l : List ℕ) where
  -- where its pixels end
  pub no_end : (is_record l ≡ true → ExceptSizes (view l) → ⊥) → None ≡ sound_end l
  unfolding sound_end
  no_end f = by (is_record l) refl (sound_except_sizes (view l)) refl
    where
      by : (t : Bool) → is_record l ≡ t → (u : Bool) → sound_except_sizes (view l) ≡ u → ◌≡◌ {A = Option ℕ} None (cond (t && u) (Some (used (view l))) None)
      by true r true e = absurd (f r (parts_except (view l) e))
      by true r false e = refl
      by false r u e = refl

  pub ends_there : {end : ℕ} → is_record l ≡ true → ExceptSizes (view l) → end ≡ used (view l) → Some end ≡ sound_end l
  unfolding sound_end
  ends_there r s e = rw (r, whole_except (view l) s) (ap Some e)

  -- the last test, where the other parts hold
  pub end_if_apart : {t : Bool} {end : ℕ} → is_record l ≡ true → (view l).count ≤ 256 → side (view l).width ≡ true → side (view l).height ≡ true → positioned (view l).screen ≡ true
      → slots_fit (view l) ≡ true → t ≡ distinct (view l).objects (view l).count → end ≡ used (view l) → then_some t end ≡ sound_end l
  unfolding sound_end
  end_if_apart {t} r c w h p s d e = rw (r, le-leb _ _ c, w, h, p, s, ← d, e) (by t)
    where
      by : (u : Bool) → then_some u (used (view l)) ≡ cond u (Some (used (view l))) None
      by true = refl
      by false = refl

  pub ends_at : {end : ℕ} → Some end ≡ sound_end l → EndsAt l end
  unfolding sound_end
  ends_at {end} e = by (is_record l) refl (sound_except_sizes (view l)) refl e
    where
      by : (t : Bool) → is_record l ≡ t → (u : Bool) → sound_except_sizes (view l) ≡ u → Some end ≡ cond (t && u) (Some (used (view l))) None → EndsAt l end
      by true r true s f = record { is_record_lem = r; except = parts_except (view l) s; used_so = cc }
      by true r false s f = cc
      by false r u s f = cc

  -- the test of both, the record's numbers and its soundness
  pub sound_tested : {end : ℕ} → Some end ≡ sound_end l → (is_record l && is_sound (view l))
      ≡ (leb (at l panel_len_place) limit && (leb (at l store_len_place) limit && (leb (2 * (at l width_place * at l height_place)) (at l panel_len_place) && leb end (at l store_len_place))))
  unfolding is_sound view
  sound_tested e = let s = ends_at e in rw (s.is_record_lem, whole_except (view l) s.except, s.used_so)

  pub no_end_unsound : None ≡ sound_end l → false ≡ (is_record l && is_sound (view l))
  no_end_unsound e = by (is_record l) refl (is_sound (view l)) refl
    where
      by : (t : Bool) → is_record l ≡ t → (u : Bool) → is_sound (view l) ≡ u → false ≡ (t && u)
      by true r true s = let f = ends_there r (except_of (parts (view l) s)) refl in cc
      by true r false s = refl
      by false r u s = refl

  -- numbers whose head is well formed: only the slots remain to be tested
  module _ (h : is_head l ≡ true) where
    pub of_slots : are_slots l (at l count_place) ≡ true → is_record l ≡ true
    of_slots s = rw (h, s) at (head_and_slots l)

    pub slots_of : is_record l ≡ true → are_slots l (at l count_place) ≡ true
    slots_of r = (both (is_head l) (are_slots l (at l count_place)) (sym (head_and_slots l) ∙ r)).1

  pub no_head : is_head l ≡ false → is_record l ≡ true → ⊥
  no_head h r = true≢false (sym (both (is_head l) (are_slots l (at l count_place)) (sym (head_and_slots l) ∙ r)).0 ∙ h)
