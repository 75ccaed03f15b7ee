-- What a scan of the slots of a flat record finds. Assumes nothing.
use Rattle.std.specs.Prelude.{Option, Some, None}
use mathlib.Core.Bool.{true}
use mathlib.Core.List.{List}
use mathlib.Core.Path.{◌≡◌, refl, sym, ◌∙◌, ap}
use Prim.Native.Nat.{ℕ, ◌+◌, ◌-◌, ◌≤◌, ◌<◌}
use native.Mathlib.Omega.{arith}
use lib.ListN.{length}
use borrow.Author.Tests.{ne_eqb}
use Rattle.words.specs.Parts.{part}
use Rattle.gdi.specs.declared.Dc.{Dc}
use Rattle.gdi.specs.declared.Kind.{Kind}
use Rattle.gdi.specs.declared.Spot.TheVariants.{Screen, Created}
use Rattle.gdi.specs.declared.GdiObject.TheVariants.{Dc as DcOf}
use Rattle.gdi.specs.Lookup.{scan, find_of, dc_at, dc_of, kind_at, kind_of}
use Rattle.gdi.proofs.Scan.{start}
use Rattle.gdi.proofs.Lookup.{dc_screen, dc_created}
use Rattle.numbers.specs.Layout.{dc_size, object_size, slot_size, count_place, screen_place, slot_place, kind_place, object_place}
use Rattle.numbers.specs.Block.{at, object_of, dc_fields as dc_numbers}
use Rattle.numbers.specs.View.{view, is_record}
use Rattle.numbers.proofs.Seen.{count_seen, found_in, screen_seen, record_length, record_count, object_seen, object_dc, by_kind}

-- the scan at the start of the loop
pub scan_start : (l : List ℕ) (h : ℕ) → scan (view l).objects h 0 (at l count_place - 0) ≡ find_of (view l) h
scan_start l h = start (view l).objects h 0 (at l count_place) refl ∙ ap (scan (view l).objects h 0) (sym (count_seen l))

-- the screen DC
pub dc_of_screen : (l : List ℕ) (h : ℕ) {d : Dc} → h ≡ 0xDEAD_0DC0 → d ≡ dc_numbers (part l screen_place dc_size) → Some (Screen, d) ≡ dc_of (view l) h
dc_of_screen l h e f = ap (λ (x : Dc). Some (Screen, x)) (f ∙ sym (screen_seen l)) ∙ dc_screen (view l) h e

-- a slot that was found holds an object
module _ (l : List ℕ) (r : is_record l ≡ true) (h : ℕ) {q : Option ℕ} (e : q ≡ find_of (view l) h) {i : ℕ} (g : q ≡ Some i) where
  below : i < at l count_place
  below = found_in l h (sym e ∙ g)

  pub found_room : slot_place i + slot_size ≤ length l
  found_room = omega (arith, below, record_count l r, record_length l r)

  pub found_dc : {d : Dc} → (h ≡ 0xDEAD_0DC0 → ⊥) → at l (slot_place i + kind_place) ≡ 0
      → d ≡ dc_numbers (part l (slot_place i + object_place) (slot_place i + slot_size - (slot_place i + object_place))) → Some (Created i, d) ≡ dc_of (view l) h
  found_dc {d} ne k f =
      let m : slot_place i + slot_size - (slot_place i + object_place) ≡ object_size = omega arith in
      dc_created (view l) h ne (sym e ∙ g) (object_seen l r i below ∙ object_dc _ _ k ∙ ap DcOf (sym (rw m at f)))

  pub found_other : (h ≡ 0xDEAD_0DC0 → ⊥) → (at l (slot_place i + kind_place) ≡ 0 → ⊥) → None ≡ dc_of (view l) h
  unfolding dc_of
  found_other ne k =
      rw (ne_eqb _ _ ne, sym e ∙ g, object_seen l r i below)
      (by_kind (at l (slot_place i + kind_place)) (part l (slot_place i + object_place) object_size) (λ o. None ≡ dc_at i o) (λ z. absurd (k z)) (λ z. refl) (λ x. refl) (λ x. refl) (λ x. refl))

  pub found_kind : {k : Kind} → k ≡ kind_at (object_of (at l (slot_place i + kind_place)) (part l (slot_place i + object_place) object_size)) → k ≡ kind_of (view l) h
  unfolding kind_of
  found_kind f = rw (sym e ∙ g, object_seen l r i below) f
