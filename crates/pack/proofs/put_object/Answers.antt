-- `pack::put_object` meets its contract: the fields of each kind are its numbers. Assumes nothing.
use mathlib.Core.Bool.{true}
use mathlib.Core.List.{List, [], ◌∷◌}
use mathlib.Core.Path.{◌≡◌, refl}
use Prim.Native.Nat.{ℕ}
use native.Mathlib.Omega.{arith}
use lib.ListN.{length-take, length-drop}
use Rattle.words.specs.Parts.{part}
use Rattle.bits.specs.Bits.{fields, total}
use Rattle.bits.proofs.Lists.{short_widths}
use Rattle.canonical.proofs.Objects.{Small}
use Rattle.numbers.specs.Block.{is_object}
use Rattle.saved_table.specs.Table.{dc_widths}
use Rattle.pack.specs.Inner.{object_bits}
use Rattle.pack.proofs.Puts.{length_as, room_fields, put_as}
use Rattle.saved_table.proofs.Lengths.{widths_bitmap, widths_pen, widths_other}
use Rattle.pack.proofs.Values.{dc_object, other_object}
use Rattle.pack.proofs.put_object.Goals as goal

-- the fields of each kind, by its number
module _ (kind : ℕ) (l : List ℕ) (small : Small l) (t : is_object kind l ≡ true) where
  bitmap-fields : kind ≡ 1 → fields (13 ∷ 13 ∷ 1 ∷ []) l ≡ object_bits kind l
  bitmap-fields e = other_object kind l (13 ∷ 13 ∷ 1 ∷ []) small t (widths_bitmap kind e) (λ z. omega arith)

  pen-fields : kind ≡ 3 → fields (32 ∷ 32 ∷ []) l ≡ object_bits kind l
  pen-fields e = other_object kind l (32 ∷ 32 ∷ []) small t (widths_pen kind e) (λ z. omega arith)

  word_fields : (kind ≡ 0 → ⊥) → (kind ≡ 1 → ⊥) → (kind ≡ 3 → ⊥) → fields (32 ∷ []) l ≡ object_bits kind l
  word_fields a b c = other_object kind l (32 ∷ []) small t (widths_other kind a b c) a

pub put_fields-requires : goal.put_fields-requires
put_fields-requires c =
    let l = c.args.numbers.now in
    let e = dc_object c.args.kind l (λ k lt. omega (arith, c.shared_slice_known-1.given k)) c.requires.numbers_value c.in-0.is in
    record {
      fields_fit = room_fields dc_widths (part l 1 13) e c.requires.room (short_widths dc_widths refl);
      widths_in_bounds = simp (length-take, length-drop) (omega arith);
    }

pub overflow_add-result : goal.overflow_add-result
unfolding total
overflow_add-result c =
    let l = c.args.numbers.now in
    let e = dc_object c.args.kind l (λ k lt. omega (arith, c.shared_slice_known-1.given k)) c.requires.numbers_value c.in-0.is in
    omega (arith, length_as dc_widths (part l 1 13) e, c.requires.room.counted)

pub returns-in-0 : goal.returns-in-0
unfolding total
returns-in-0 c =
    let l = c.args.numbers.now in
    let e = dc_object c.args.kind l (λ k lt. omega (arith, c.shared_slice_known-1.given k)) c.requires.numbers_value c.in-0.is in
    put_as dc_widths (part l 1 13) e refl c.put_fields.ensures

pub put_fields-requires-in-1 : goal.put_fields-requires-in-1
put_fields-requires-in-1 c =
    let l = c.args.numbers.now in
    let e = bitmap-fields c.args.kind l (λ k lt. omega (arith, c.shared_slice_known-1.given k)) c.requires.numbers_value c.in-1.is in
    record {
      fields_fit = room_fields (13 ∷ 13 ∷ 1 ∷ []) l e c.requires.room (short_widths (13 ∷ 13 ∷ 1 ∷ []) refl);
      widths_in_bounds = omega arith;
    }

pub overflow_add-result-in-1 : goal.overflow_add-result-in-1
unfolding total
overflow_add-result-in-1 c =
    let l = c.args.numbers.now in
    let e = bitmap-fields c.args.kind l (λ k lt. omega (arith, c.shared_slice_known-1.given k)) c.requires.numbers_value c.in-1.is in
    omega (arith, length_as (13 ∷ 13 ∷ 1 ∷ []) l e, c.requires.room.counted)

pub returns-in-1 : goal.returns-in-1
unfolding total
returns-in-1 c =
    let l = c.args.numbers.now in
    let e = bitmap-fields c.args.kind l (λ k lt. omega (arith, c.shared_slice_known-1.given k)) c.requires.numbers_value c.in-1.is in
    put_as (13 ∷ 13 ∷ 1 ∷ []) l e refl c.put_fields-in-1.ensures

pub put_fields-requires-in-3 : goal.put_fields-requires-in-3
put_fields-requires-in-3 c =
    let l = c.args.numbers.now in
    let e = pen-fields c.args.kind l (λ k lt. omega (arith, c.shared_slice_known-1.given k)) c.requires.numbers_value c.in-3.is in
    record {
      fields_fit = room_fields (32 ∷ 32 ∷ []) l e c.requires.room (short_widths (32 ∷ 32 ∷ []) refl);
      widths_in_bounds = omega arith;
    }

pub overflow_add-result-in-3 : goal.overflow_add-result-in-3
unfolding total
overflow_add-result-in-3 c =
    let l = c.args.numbers.now in
    let e = pen-fields c.args.kind l (λ k lt. omega (arith, c.shared_slice_known-1.given k)) c.requires.numbers_value c.in-3.is in
    omega (arith, length_as (32 ∷ 32 ∷ []) l e, c.requires.room.counted)

pub returns-in-3 : goal.returns-in-3
unfolding total
returns-in-3 c =
    let l = c.args.numbers.now in
    let e = pen-fields c.args.kind l (λ k lt. omega (arith, c.shared_slice_known-1.given k)) c.requires.numbers_value c.in-3.is in
    put_as (32 ∷ 32 ∷ []) l e refl c.put_fields-in-3.ensures

pub put_fields-requires-in_default : goal.put_fields-requires-in_default
put_fields-requires-in_default c =
    let l = c.args.numbers.now in
    let r = c.in_default.in_default-own.rest in
    let e = word_fields c.args.kind l (λ k lt. omega (arith, c.shared_slice_known-1.given k)) c.requires.numbers_value r.0.0.1 r.0.1 r.1 in
    record {
      fields_fit = room_fields (32 ∷ []) l e c.requires.room (short_widths (32 ∷ []) refl);
      widths_in_bounds = omega arith;
    }

pub overflow_add-result-in_default : goal.overflow_add-result-in_default
unfolding total
overflow_add-result-in_default c =
    let l = c.args.numbers.now in
    let r = c.in_default.in_default-own.rest in
    let e = word_fields c.args.kind l (λ k lt. omega (arith, c.shared_slice_known-1.given k)) c.requires.numbers_value r.0.0.1 r.0.1 r.1 in
    omega (arith, length_as (32 ∷ []) l e, c.requires.room.counted)

pub returns-in_default : goal.returns-in_default
unfolding total
returns-in_default c =
    let l = c.args.numbers.now in
    let r = c.in_default.in_default-own.rest in
    let e = word_fields c.args.kind l (λ k lt. omega (arith, c.shared_slice_known-1.given k)) c.requires.numbers_value r.0.0.1 r.0.1 r.1 in
    put_as (32 ∷ []) l e refl c.put_fields-in_default.ensures
