-- Numbers into which a fresh record was written encode that record. Assumes nothing.
use mathlib.Core.Bool.{Bool, true, cond}
use mathlib.Core.List.{List, [], ◌∷◌}
use mathlib.Core.Path.{◌≡◌, refl, sym, ◌∙◌, ap}
use Prim.Native.Nat.{ℕ, ◌+◌, ◌-◌, ◌<◌, ◌≤◌}
use native.Mathlib.Omega.{arith}
use lib.ListN.{length, drop, length-drop}
use lib.Seq.{ext_get_or, get_or-drop}
use borrow.Author.Tests.{eq-eqb, le-leb, le-ltb}
use Rattle.arithmetic.proofs.Test.{together, all_of}
use Rattle.words.specs.Parts.{part, with_part}
use Rattle.words.proofs.Parts.{length_part, length_with, with_before, with_within, with_behind, part_same}
use Rattle.gdi.specs.declared.Dc.{Dc}
use Rattle.gdi.specs.Record.{no_slot, vacant_slot, screen_dc, fresh}
use Rattle.numbers.specs.Layout.{dc_size, slot_size, head_size, record_size, panel_len_place, store_len_place, width_place, height_place, frames_low_place, frames_high_place, next_handle_place, stock_dirty_place, count_place, screen_place, slots_place, slot_place}
use Rattle.numbers.specs.Block.{at, is_flag, is_dc, slot_of, is_slot}
use Rattle.numbers.specs.View.{slot_in, slot_table, view, is_record, Updated}
use Rattle.numbers.proofs.Block.{DcCoded, lent_back, lent_back_lem}
use Rattle.numbers.proofs.View.{length_table, table_slot}
use Rattle.plan.specs.Restorable.{Restorable}
use Rattle.plan.proofs.Restorable.{stays_restorable}

-- the numbers after a part that was written are kept
with_tail : (m xs : List ℕ) (p n : ℕ) → length xs ≡ n → p + n ≤ length m → (k : ℕ) → p + n ≤ k → drop k (with_part m p n xs) ≡ drop k m
with_tail m xs p n len fits k le =
    ext_get_or 0 (drop k (with_part m p n xs)) (drop k m) (simp (length-drop) (ap (λ (j : ℕ). j - k) (length_with m xs p n len fits)))
    (λ i lt. get_or-drop k (with_part m p n xs) i 0 ∙ with_behind m xs p n len fits (k + i) (omega arith) ∙ sym (get_or-drop k m i 0))

-- the numbers before the screen DC
abbrev head : (panel_len store_len width height : ℕ) → List ℕ
head n k w h = n ∷ k ∷ w ∷ h ∷ 0 ∷ 0 ∷ 0xDEAD_1000 ∷ 0 ∷ 0 ∷ []

module _ (n k w h : ℕ) (l ys : List ℕ) (long : length l ≡ record_size) (len : length ys ≡ dc_size) (screen : DcCoded screen_dc ys) where
  abbrev first : List ℕ
  first = with_part l 0 head_size (head n k w h)

  abbrev whole : List ℕ
  whole = with_part first screen_place dc_size ys

  first_long : length first ≡ record_size
  first_long = length_with l (head n k w h) 0 head_size refl (omega arith) ∙ long

  whole_long : length whole ≡ record_size
  whole_long = length_with first ys screen_place dc_size len (omega (arith, first_long)) ∙ first_long

  number : (j : ℕ) → j < head_size → at whole j ≡ at (head n k w h) j
  number j b =
      let e : j - 0 ≡ j = omega arith in
      with_before first ys screen_place dc_size len (omega (arith, first_long)) j b
      ∙ with_within l (head n k w h) 0 head_size refl (omega arith) j (omega arith) (omega arith) ∙ ap (at (head n k w h)) e

  dc : part whole screen_place dc_size ≡ ys
  dc = part_same first ys screen_place dc_size len (omega (arith, first_long))

  restorable : Restorable (fresh n k w h)
  restorable = stays_restorable.first n k w h

  slot : (i : ℕ) → slot_in whole (at whole count_place) i ≡ vacant_slot
  slot i = ap (λ (t : Bool). cond t (slot_of (part whole (slot_place i) slot_size)) vacant_slot) (le-ltb i (at whole count_place) (omega (arith, number count_place (omega arith))))

  objects : slot_table whole (at whole count_place) ≡ (fresh n k w h).objects
  objects =
      ext_get_or no_slot (slot_table whole (at whole count_place)) (fresh n k w h).objects (length_table (slot_in whole (at whole count_place)) 0 256 ∙ sym restorable.table)
      (λ i lt. let b : i < 256 = omega (arith, length_table (slot_in whole (at whole count_place)) 0 256) in
      table_slot (slot_in whole (at whole count_place)) i b ∙ slot i ∙ sym (restorable.vacant i (omega arith) b))

  seen : view whole ≡ fresh n k w h
  unfolding view
  seen =
      rw (
        objects,
        dc,
        screen.same,
        number panel_len_place (omega arith),
        number store_len_place (omega arith),
        number width_place (omega arith),
        number height_place (omega arith),
        number frames_low_place (omega arith),
        number frames_high_place (omega arith),
        number next_handle_place (omega arith),
        number stock_dirty_place (omega arith),
        number count_place (omega arith),
      )

  good : is_record whole ≡ true
  unfolding is_record
  good =
      together (eq-eqb (length whole) record_size whole_long)
      (together (ap is_flag (number stock_dirty_place (omega arith)))
      (together (le-leb (at whole count_place) 256 (omega (arith, number count_place (omega arith))))
      (together (ap is_dc dc ∙ screen.is_dc_lem)
      (all_of (at whole count_place) (λ i. is_slot (part whole (slot_place i) slot_size)) (λ i b. absurd (omega (arith, number count_place (omega arith))))))))

  kept : drop slots_place whole ≡ drop slots_place l
  kept =
      with_tail first ys screen_place dc_size len (omega (arith, first_long)) slots_place (omega arith)
      ∙ with_tail l (head n k w h) 0 head_size refl (omega arith) slots_place (omega arith)

  put : Updated l (fresh n k w h) whole
  put = record { is_record_lem = good; same = seen; rest = kept }

-- the same, with the parts as the code lends them
pub fresh_put : {n k w h : ℕ} (l xs ys : List ℕ) {d : Dc} → length l ≡ record_size → xs ≡ head n k w h → d ≡ screen_dc → length ys ≡ length (part (lent_back l 0 head_size xs) screen_place dc_size) → DcCoded d ys
    → Updated l (fresh n k w h) (lent_back (lent_back l 0 head_size xs) screen_place dc_size ys)
fresh_put {n} {k} {w} {h} l xs ys long device is len screen =
    rw (lent_back_lem (lent_back l 0 head_size xs) screen_place dc_size ys ∙ ap (λ (x : List ℕ). with_part x screen_place dc_size ys) once)
    (put n k w h l ys long (len ∙ rw once (length_part (with_part l 0 head_size (head n k w h)) screen_place dc_size (omega (arith, length_with l (head n k w h) 0 head_size refl (omega arith))))) (rw is at screen))
  where
    once : lent_back l 0 head_size xs ≡ with_part l 0 head_size (head n k w h)
    once = lent_back_lem l 0 head_size xs ∙ ap (with_part l 0 head_size) device
