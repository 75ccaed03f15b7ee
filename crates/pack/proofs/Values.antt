-- The fields of a record's table are its numbers. Assumes nothing.
use mathlib.Core.Bool.{true}
use mathlib.Core.List.{List, [], ◌∷◌, ◌++◌}
use mathlib.Core.Path.{◌≡◌, refl, sym, ◌∙◌, ap}
use Prim.Native.Nat.{ℕ, zero, suc, ◌+◌, ◌<◌, ◌^◌}
use native.Mathlib.Numerals.{one-add}
use native.Mathlib.Omega.{arith}
use Rattle.words.specs.Parts.{part}
use Rattle.bits.specs.Bits.{fields}
use Rattle.bits.proofs.Lists.{fields_same}
use Rattle.gdi.specs.declared.Dc.{Dc}
use Rattle.gdi.specs.declared.Slot.{Slot}
use Rattle.gdi.specs.Lookup.{slot_at}
use Rattle.canonical.proofs.Objects.{Small, dc_back, unknown_kind, kind_back, object_back}
use Rattle.numbers.specs.Layout.{dc_size, object_size, slot_size, screen_place, width_place, height_place, next_handle_place, count_place, slot_place, kind_place, object_place, handle_place}
use Rattle.numbers.specs.Block.{at, dc_fields, is_dc, object_of, is_object, slot_of, is_slot, kind_number}
use Rattle.numbers.specs.View.{view, is_record}
use Rattle.numbers.proofs.Record.{parts}
use Rattle.numbers.proofs.Seen.{part_at, screen_seen}
use Rattle.numbers.proofs.View.{slot_seen}
use Rattle.saved_table.specs.Table.{dc_widths, dc_values, widths_of, values_of, slot_bits, head_values}
use Rattle.pack.specs.Inner.{object_bits}

-- a DC's numbers but for the first, the surface
dc_values_lem : (l vs : List ℕ) → Small l → is_dc l ≡ true → ((k : ℕ) → k < 13 → at vs k ≡ at l (suc k)) → fields dc_widths vs ≡ fields dc_widths (dc_values (dc_fields l))
dc_values_lem l vs small t h = fields_same dc_widths vs (dc_values (dc_fields l)) (λ k lt. h k lt ∙ dc_back l small t (suc k) (omega arith))

pub dc_object : (kind : ℕ) (l : List ℕ) → Small l → is_object kind l ≡ true → kind ≡ 0 → fields dc_widths (part l 1 13) ≡ object_bits kind l
unfolding is_object object_of
dc_object zero l small t e = dc_values_lem l (part l 1 13) small t (λ k lt. part_at l 1 13 k lt ∙ ap (at l) (one-add k))
dc_object (suc n) l small t e = absurd (omega arith)

-- the numbers of an object of another kind
other_values : (kind : ℕ) (l : List ℕ) → Small l → is_object kind l ≡ true → (kind ≡ 0 → ⊥) → fields (widths_of kind) l ≡ object_bits kind l
unfolding object_of
other_values zero l small t other = absurd (other refl)
other_values (suc zero) l small t other = fields_same (13 ∷ 13 ∷ 1 ∷ []) l (values_of (object_of 1 l)) (λ k lt. object_back 1 l small t k (omega arith))
other_values (suc (suc zero)) l small t other = fields_same (32 ∷ []) l (values_of (object_of 2 l)) (λ k lt. object_back 2 l small t k (omega arith))
other_values (suc (suc (suc zero))) l small t other = fields_same (32 ∷ 32 ∷ []) l (values_of (object_of 3 l)) (λ k lt. object_back 3 l small t k (omega arith))
other_values (suc (suc (suc (suc zero)))) l small t other = fields_same (32 ∷ []) l (values_of (object_of 4 l)) (λ k lt. object_back 4 l small t k (omega arith))
other_values (suc (suc (suc (suc (suc n))))) l small t other = absurd (unknown_kind n l t)

pub other_object : (kind : ℕ) (l ws : List ℕ) → Small l → is_object kind l ≡ true → widths_of kind ≡ ws → (kind ≡ 0 → ⊥) → fields ws l ≡ object_bits kind l
other_object kind l ws small t e other = ap (λ (ns : List ℕ). fields ns l) (sym e) ∙ other_values kind l small t other

-- a slot's kind and handle
abbrev pub named_by : List ℕ → List ℕ
named_by l = fields (3 ∷ 32 ∷ []) (at l kind_place ∷ at l handle_place ∷ [])

-- then its object's fields
pub slot_values : (l : List ℕ) → is_slot l ≡ true → slot_bits (slot_of l) ≡ named_by l ++ object_bits (at l kind_place) (part l object_place object_size)
slot_values l t = rw (← kind_back (at l kind_place) (part l object_place object_size) t)

-- a record's numbers
module _ (l : List ℕ) (r : is_record l ≡ true) where
  -- the head's fields
  pub head_values_lem : head_values (view l) ≡ 1 ∷ at l width_place ∷ at l height_place ∷ at l next_handle_place ∷ at l count_place ∷ []
  unfolding view
  head_values_lem = refl

  pub screen_values : ((k : ℕ) → at l k < 2 ^ 32) → fields dc_widths (part l 10 13) ≡ fields dc_widths (dc_values (view l).screen)
  screen_values small =
      let d = part l screen_place dc_size in
      dc_values_lem d (part l 10 13) (λ k lt. rw (part_at l screen_place dc_size k lt) (small (screen_place + k))) (parts l r).screen
      (λ k lt. part_at l 10 13 k lt ∙ ap (at l) (omega arith) ∙ sym (part_at l screen_place dc_size (suc k) (omega arith)))
      ∙ ap (λ (x : Dc). fields dc_widths (dc_values x)) (sym (screen_seen l))

  pub slot_read : (i : ℕ) → i < at l count_place → slot_at (view l) i ≡ slot_of (part l (slot_place i) slot_size)
  slot_read i lt = slot_seen l i lt (omega (arith, (parts l r).few))

  pub kind_read : (i : ℕ) → i < at l count_place → kind_number (slot_at (view l) i).object ≡ at l (slot_place i + kind_place)
  kind_read i lt =
      let s = part l (slot_place i) slot_size in
      ap (λ (x : Slot). kind_number x.object) (slot_read i lt)
      ∙ sym (kind_back (at s kind_place) (part s object_place object_size) ((parts l r).slots i lt))
      ∙ part_at l (slot_place i) slot_size kind_place (omega arith)
