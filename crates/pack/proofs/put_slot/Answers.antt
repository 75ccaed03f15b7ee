-- `pack::put_slot` meets its contract: kind and handle, then the object's fields. Assumes nothing.
use mathlib.Core.Bool.{true}
use mathlib.Core.List.{List, [], ◌∷◌, ◌++◌}
use mathlib.Core.Path.{◌≡◌, refl}
use Prim.Native.Nat.{ℕ, ◌+◌}
use native.Mathlib.Omega.{arith}
use lib.ListN.{length, length-take, length-drop}
use borrow.Author.Rules.{rules}
use Rattle.words.specs.Parts.{part}
use Rattle.bits.specs.Bits.{total}
use Rattle.bits.proofs.Lists.{short_widths}
use Rattle.numbers.specs.Layout.{object_size, kind_place, object_place, handle_place}
use Rattle.numbers.specs.Block.{at, is_slot, slot_of}
use Rattle.saved_table.specs.Table.{slot_bits}
use Rattle.pack.specs.Inner.{object_bits, Room, Put}
use Rattle.pack.proofs.Puts.{length_as, room_fields, put_as, put_both, room_first, room_behind}
use Rattle.pack.proofs.Values.{named_by, slot_values}
use Rattle.pack.proofs.put_slot.Goals as goal

-- a slot in two parts
module _ {m : List ℕ} {p : ℕ} (l : List ℕ) (t : is_slot l ≡ true) (r : Room m p (slot_bits (slot_of l))) where
  abbrev of_object : List ℕ
  of_object = object_bits (at l kind_place) (part l object_place object_size)

  two : Room m p (named_by l ++ of_object)
  two = rw (slot_values l t) at r

  named-room : Room m p (named_by l)
  named-room = room_first (named_by l) of_object two

  named-long : length (named_by l) ≡ 35
  unfolding total
  named-long = length_as (3 ∷ 32 ∷ []) (at l kind_place ∷ at l handle_place ∷ []) refl

  object-room : {m' : List ℕ} → length m' ≡ length m → Room m' (p + 35) of_object
  object-room e = room_behind (named_by l) of_object two e (omega (arith, named-long))

  both-put : {m' m'' : List ℕ} {q : ℕ} → Put m p (named_by l) (p + 35) m' → Put m' (p + 35) of_object q m'' → Put m p (slot_bits (slot_of l)) q m''
  both-put x y = rw (slot_values l t) (put_both x y named-room.inside)

pub put_fields-requires : goal.put_fields-requires
put_fields-requires c =
    let l = c.args.numbers.now in
    record {
      fields_fit = room_fields (3 ∷ 32 ∷ []) (at l kind_place ∷ at l handle_place ∷ []) refl (named-room l c.requires.numbers_value c.requires.room) (short_widths (3 ∷ 32 ∷ []) refl);
      widths_in_bounds = omega arith;
    }

pub overflow_add-at : goal.overflow_add-at
overflow_add-at c =
    let l = c.args.numbers.now in
    omega (arith, named-long l c.requires.numbers_value c.requires.room, (named-room l c.requires.numbers_value c.requires.room).counted)

pub put_object-requires : goal.put_object-requires
put_object-requires c =
    let l = c.args.numbers.now in
    record {
      numbers_len = simp (length-take, length-drop) (omega arith);
      numbers_value = c.requires.numbers_value;
      room = object-room l c.requires.numbers_value c.requires.room (search rules);
    }

pub returns : goal.returns
unfolding total
returns c =
    let l = c.args.numbers.now in
    both-put l c.requires.numbers_value c.requires.room (put_as (3 ∷ 32 ∷ []) (at l kind_place ∷ at l handle_place ∷ []) refl refl c.put_fields.ensures) c.put_object.ensures
