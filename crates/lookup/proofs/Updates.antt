-- A flat record into which a DC was written is the record with that DC. Assumes nothing.
use Rattle.std.specs.Prelude.{Some}
use mathlib.Core.Bool.{true}
use mathlib.Core.List.{List, ◌++◌}
use mathlib.Core.Path.{◌≡◌, sym, ◌∙◌, ap}
use Prim.Native.Nat.{ℕ, ◌+◌, ◌-◌, ◌≤◌, ◌<◌}
use native.Mathlib.Omega.{arith}
use lib.ListN.{length, take, drop}
use lib.Seq.{drop-drop}
use Rattle.words.specs.Parts.{part, with_part}
use Rattle.words.proofs.Parts.{length_part, with_before, part_same}
use Rattle.gdi.specs.declared.Dc.{Dc}
use Rattle.gdi.specs.declared.Spot.{Spot}
use Rattle.gdi.specs.declared.Spot.TheVariants.{Screen, Created}
use Rattle.gdi.specs.declared.GdiObject.{GdiObject}
use Rattle.gdi.specs.declared.GdiObject.TheVariants.{Dc as DcOf}
use Rattle.gdi.specs.Lookup.{object_at, find_of}
use Rattle.gdi.specs.Updates.{with_screen, with_dc}
use Rattle.gdi.proofs.Scan.{scan_handle, dc_found_lem}
use Rattle.numbers.specs.Layout.{dc_size, object_size, slot_size, head_size, stock_dirty_place, count_place, screen_place, slot_place, handle_place, kind_place, object_place}
use Rattle.numbers.specs.Block.{at, ObjectCoded}
use Rattle.numbers.specs.View.{view, is_record, Updated}
use Rattle.numbers.proofs.Block.{DcCoded, SlotCoded, lent_back, lent_back_lem, dc_object}
use Rattle.numbers.proofs.Record.{parts}
use Rattle.numbers.proofs.Seen.{found_in, handle_seen, object_seen, object_part, part_at, by_kind}
use Rattle.lookup.specs.Inner.{HasDc}
use Rattle.numbers.proofs.Updates.{screen_seen as screen-same}
use Rattle.numbers.proofs.Kept.{Kept, kept_part, table_kept, front_record, front_rest, slot_updated}

-- a slot by its handle, its kind and the object's numbers
pub slot_from : {o : GdiObject} (kind h : ℕ) (m xs : List ℕ) → at m handle_place ≡ h → at m kind_place ≡ kind → part m object_place object_size ≡ xs → ObjectCoded o kind xs → SlotCoded (record { handle = h; object = o }) m
slot_from kind h m xs a b e coded =
    record {
      is_slot_lem = rw (b, e) coded.is_object_lem;
      same = rw (a, b, e) (ap (λ (x : GdiObject). record { handle = h; object = x }) coded.same);
    }

module _ (l : List ℕ) (r : is_record l ≡ true) where
  -- the screen DC
  module _ (l' : List ℕ) (kept : Kept l screen_place dc_size l') {d : Dc} (coded : DcCoded d (part l' screen_place dc_size)) where
    number : (k : ℕ) → k < head_size → at l' k ≡ at l k
    number k h = kept.same k (λ a b. omega arith)

    screen_seen : view l' ≡ with_screen (view l) d
    screen_seen = screen-same l l' (λ k h a b. number k h) (table_kept l l' r kept (omega arith) (number count_place (omega arith))) coded.same

    screen_rest : drop (slot_place (view l).count) l' ≡ drop (slot_place (view l).count) l
    unfolding view
    screen_rest = front_rest l l' r kept (omega arith) (number count_place (omega arith))

    screen_updated : Updated l (with_screen (view l) d) l'
    screen_updated =
        record {
          is_record_lem = front_record l l' r kept (omega arith) (number count_place (omega arith)) (omega (arith, number stock_dirty_place (omega arith), (parts l r).flag)) coded.is_dc_lem;
          same = screen_seen;
          rest = screen_rest;
        }

  -- a created DC
  module _ (h : ℕ) {i : ℕ} {p : Spot} (s : HasDc (view l) h p) (e : p ≡ Created i) where
    found : (find_of (view l) h ≡ Some i) × (object_at (view l) i ≡ DcOf s.dc)
    found = dc_found_lem (view l) h (s.found ∙ ap (λ (q : Spot). Some (q, s.dc)) e)

    pub spot_below : i < at l count_place
    spot_below = found_in l h found.0

    handle : at l (slot_place i) ≡ h
    handle = sym (handle_seen l r i spot_below) ∙ scan_handle (view l).objects h 0 (view l).count found.0

    kind : at l (slot_place i + kind_place) ≡ 0
    kind =
        by_kind (at l (slot_place i + kind_place)) (part l (slot_place i + object_place) object_size) (λ o. o ≡ DcOf s.dc → at l (slot_place i + kind_place) ≡ 0) (λ z f. z)
        (λ z f. let x : ◌≡◌ {A = ℕ} 0 1 = cc in absurd (omega arith))
        (λ x f. let y : ◌≡◌ {A = ℕ} 0 1 = cc in absurd (omega arith))
        (λ x f. let y : ◌≡◌ {A = ℕ} 0 1 = cc in absurd (omega arith))
        (λ x f. let y : ◌≡◌ {A = ℕ} 0 1 = cc in absurd (omega arith))
        (sym (object_seen l r i spot_below) ∙ found.1)

    pub spot_room : slot_place i + slot_size ≤ length l
    spot_room = omega (arith, spot_below, (parts l r).few, (parts l r).long)

    created_updated : {d : Dc} (xs : List ℕ) → length xs ≡ object_size → DcCoded d xs → Updated l (with_dc (view l) h (Created i) d) (with_part l (slot_place i + object_place) object_size xs)
    created_updated {d} xs len coded = slot_updated l whole r i spot_below (kept_part l xs (slot_place i) slot_size (slot_place i + object_place) object_size len fits (omega arith) (omega arith)) put
      where
        whole : List ℕ
        whole = with_part l (slot_place i + object_place) object_size xs

        fits : slot_place i + object_place + object_size ≤ length l
        fits = omega (arith, spot_room)

        zeroth : slot_place i + handle_place ≡ slot_place i
        zeroth = omega arith

        put : SlotCoded (record { handle = h; object = DcOf d }) (part whole (slot_place i) slot_size)
        put =
            slot_from 0 h (part whole (slot_place i) slot_size) xs
            (part_at whole (slot_place i) slot_size handle_place (omega arith) ∙ ap (at whole) zeroth ∙ with_before l xs (slot_place i + object_place) object_size len fits (slot_place i) (omega arith) ∙ handle)
            (part_at whole (slot_place i) slot_size kind_place (omega arith) ∙ with_before l xs (slot_place i + object_place) object_size len fits (slot_place i + kind_place) (omega arith) ∙ kind)
            (object_part whole (slot_place i) ∙ part_same l xs (slot_place i + object_place) object_size len fits)
            (dc_object coded)

    object_size_lem : slot_place i + slot_size - (slot_place i + object_place) ≡ object_size
    object_size_lem = omega arith

    -- the same, with the part as the code lends it
    pub updated_created : {d : Dc} (xs : List ℕ) → length xs ≡ length (take (slot_place i + slot_size - (slot_place i + object_place)) (drop (slot_place i + object_place) l)) → DcCoded d xs
        → Updated l (with_dc (view l) h p d) (take (slot_place i + object_place) l ++ (xs ++ drop (slot_place i + slot_size - (slot_place i + object_place)) (drop (slot_place i + object_place) l)))
    updated_created xs len coded =
        rw (e, object_size_lem, drop-drop object_size (slot_place i + object_place) l)
        (created_updated xs (len ∙ rw object_size_lem (length_part l (slot_place i + object_place) object_size (omega (arith, spot_room)))) coded)

  pub updated_screen : {d : Dc} (h : ℕ) {p : Spot} (xs : List ℕ) → p ≡ Screen → length xs ≡ length (part l screen_place dc_size) → DcCoded d xs → Updated l (with_dc (view l) h p d) (lent_back l screen_place dc_size xs)
  updated_screen h xs e len coded =
      rw (e, lent_back_lem l screen_place dc_size xs)
      (screen_updated (with_part l screen_place dc_size xs) (kept_part l xs screen_place dc_size screen_place dc_size long fits (omega arith) (omega arith)) (rw (part_same l xs screen_place dc_size long fits) coded))
    where
      fits : screen_place + dc_size ≤ length l
      fits = omega (arith, (parts l r).long)

      long : length xs ≡ object_size
      long = len ∙ length_part l screen_place dc_size fits
