-- The tests of slots, read from numbers. Assumes nothing.
use mathlib.Core.Bool.{Bool, true, false, not, ◌&&◌}
use mathlib.Core.List.{List}
use mathlib.Core.Path.{◌≡◌, refl, sym, ◌∙◌, ap}
use Prim.Native.Nat.{ℕ, ◌+◌, ◌*◌, ◌<◌, ◌≤◌}
use native.Mathlib.Omega.{arith}
use lib.Dec.{eqb, ltb}
use lib.ListN.{length}
use borrow.Author.Tests.{ltb-true}
use Rattle.arithmetic.specs.Test.{all_below}
use Rattle.arithmetic.proofs.Test.{both, all_more, all_fails, not_left, not_right}
use Rattle.words.specs.Parts.{part}
use Rattle.gdi.specs.Record.{bytes_of}
use Rattle.gdi.specs.Stock.{is_stock}
use Rattle.gdi.specs.Lookup.{slot_at, object_at}
use Rattle.numbers.specs.Layout.{slot_size, count_place, slot_place}
use Rattle.numbers.specs.Block.{at, is_slot}
use Rattle.numbers.specs.View.{view, is_record}
use Rattle.numbers.proofs.Seen.{count_seen, record_length, record_count, handle_read, object_read, object_seen}
use Rattle.numbers.proofs.Slots.{lent_slot, lent_slot_lem}
use Rattle.well_formed.specs.Inner.{are_slots}
use Rattle.sound.specs.Sound.{object_fits, slot_fits, slots_fit, start_of}
use Rattle.sound.specs.Inner.{AllFit}
use Rattle.sound.proofs.Bytes.{bytes_le, fits_below, start_none, start_more}
use Rattle.sound.proofs.Handles.{AscendTo, none_ascend, ascend_more}
use Rattle.sound.proofs.Objects.{object_from}

pub some_fails : (l : List ℕ) (f : ℕ → Bool) {i : ℕ} → i < at l count_place → f i ≡ false → false ≡ all_below (view l).count f
some_fails l f {i} lt e = sym (all_fails i (view l).count f (rw (count_seen l) lt) e)

-- a handle that is neither 0 nor stock
abbrev pub handle_fits : ℕ → Bool
handle_fits h = not (eqb h 0) && not (is_stock h)

and_group : (a b c : Bool) → (a && (b && c)) ≡ ((a && b) && c)
and_group true b c = refl
and_group false b c = refl

-- the test of all slots
abbrev all_fit : List ℕ → Bool
all_fit l = are_slots l (at l count_place) && slots_fit (view l)

-- slot i
module _ (l : List ℕ) (few : at l count_place ≤ 256) (i : ℕ) (lt : i < at l count_place) where
  slot_fits_lem : slot_fits (slot_at (view l) i) ≡ (handle_fits (at l (slot_place i)) && object_fits (object_from l (slot_place i)))
  slot_fits_lem = rw (handle_read l few i lt, object_read l few i lt) (and_group (not (eqb (at l (slot_place i)) 0)) (not (is_stock (at l (slot_place i)))) (object_fits (object_from l (slot_place i))))

  pub by_object : handle_fits (at l (slot_place i)) ≡ true → {t : Bool} → object_fits (object_from l (slot_place i)) ≡ t → slot_fits (slot_at (view l) i) ≡ t
  by_object e f = slot_fits_lem ∙ ap (λ (u : Bool). u && object_fits (object_from l (slot_place i))) e ∙ f

  -- a slot that is malformed, or does not fit
  pub malformed : is_slot (lent_slot l i) ≡ false → all_fit l ≡ false
  malformed e = not_left (slots_fit (view l)) (all_fails i (at l count_place) (λ k. is_slot (part l (slot_place k) slot_size)) lt (ap is_slot (sym (lent_slot_lem l i)) ∙ e))

  unfit : slot_fits (slot_at (view l) i) ≡ false → all_fit l ≡ false
  unfit e = not_right (are_slots l (at l count_place)) (sym (some_fails l (λ k. slot_fits (slot_at (view l) k)) lt e))

  pub handle_unfit : handle_fits (at l (slot_place i)) ≡ false → all_fit l ≡ false
  handle_unfit e = unfit (slot_fits_lem ∙ not_left (object_fits (object_from l (slot_place i))) e)

  pub object_unfit : handle_fits (at l (slot_place i)) ≡ true → object_fits (object_from l (slot_place i)) ≡ false → all_fit l ≡ false
  object_unfit e f = unfit (by_object e f)

  -- the bytes of its object
  pub bytes_few : object_fits (object_from l (slot_place i)) ≡ true → {x : ℕ} → x ≡ bytes_of (object_from l (slot_place i)) → x ≤ 33554432
  bytes_few f e = rw e (bytes_le (object_from l (slot_place i)) f)

  pub bytes_read : {x : ℕ} → x ≡ bytes_of (object_from l (slot_place i)) → x ≡ bytes_of (object_at (view l) i)
  bytes_read e = e ∙ sym (ap bytes_of (object_read l few i lt))

-- what the pass has found in the first i slots
pub record Passed (l : List ℕ) (i end last : ℕ) (ascending : Bool) : Type 0 where
  pub slots : are_slots l i ≡ true
  pub fit : all_below i (λ k. slot_fits (slot_at (view l) k)) ≡ true
  pub small : end ≤ 2 + 33554432 * i
  pub end_so_far : end ≡ start_of (view l) i
  pub ascend : ascending ≡ true → AscendTo (view l).objects i last

pub none_passed : (l : List ℕ) → Passed l 0 2 0 true
none_passed l = record { slots = refl; fit = refl; small = omega arith; end_so_far = start_none (view l); ascend = λ e. none_ascend (view l).objects 0 }

pub pass_more : (l : List ℕ) → at l count_place ≤ 256 → (i : ℕ) → i < at l count_place → {end last x : ℕ} {a b : Bool} → Passed l i end last a
    → is_slot (lent_slot l i) ≡ true → handle_fits (at l (slot_place i)) ≡ true → object_fits (object_from l (slot_place i)) ≡ true
    → x ≡ bytes_of (object_from l (slot_place i)) → b ≡ (a && ltb last (at l (slot_place i))) → Passed l (i + 1) (end + x) (at l (slot_place i)) b
pass_more l few i lt {end} {last} {x} {a} {b} p s h o e f =
    record {
      slots = all_more i (λ k. is_slot (part l (slot_place k) slot_size)) p.slots (ap is_slot (sym (lent_slot_lem l i)) ∙ s);
      fit = all_more i (λ k. slot_fits (slot_at (view l) k)) p.fit (by_object l few i lt h o);
      small = omega (arith, p.small, bytes_few l few i lt o e);
      end_so_far = start_more (view l) i p.end_so_far (bytes_read l few i lt e);
      ascend = λ t. let q = both a (ltb last (at l (slot_place i))) (sym f ∙ t) in ascend_more (view l).objects i last (at l (slot_place i)) (p.ascend q.0) (handle_read l few i lt) (ltb-true _ _ q.1);
    }

-- at the end of the table
pub all_passed : (l : List ℕ) {i end last : ℕ} {a : Bool} → i ≡ at l count_place → Passed l i end last a → AllFit l (record { end = end; ascending = a })
all_passed l e p =
    let n = e ∙ sym (count_seen l) in
    record {
      slots = rw e at p.slots;
      fit = rw n at p.fit;
      end = p.end_so_far ∙ ap (start_of (view l)) n;
      apart = λ t. rw n at (p.ascend t).apart;
    }

module _ (l : List ℕ) (r : is_record l ≡ true) where
  pub slot_room : (i : ℕ) → i < at l count_place → slot_place i + slot_size ≤ length l
  slot_room i lt = omega (arith, record_count l r, record_length l r)

  -- the object of slot i, in a table whose slots fit
  module _ (i : ℕ) (lt : i < at l count_place) where
    pub fits_seen : slots_fit (view l) ≡ true → object_fits (object_from l (slot_place i)) ≡ true
    fits_seen f = sym (ap object_fits (object_seen l r i lt)) ∙ fits_below (view l) f i (rw (count_seen l) lt)

    pub bytes_seen : {x : ℕ} → x ≡ bytes_of (object_from l (slot_place i)) → x ≡ bytes_of (object_at (view l) i)
    bytes_seen = bytes_read l (record_count l r) i lt

    pub bytes_small : slots_fit (view l) ≡ true → {x : ℕ} → x ≡ bytes_of (object_from l (slot_place i)) → x ≤ 33554432
    bytes_small f = bytes_few l (record_count l r) i lt (fits_seen f)
