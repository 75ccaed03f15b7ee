-- `pack::put_head` meets its contract. Assumes nothing.
use mathlib.Core.Bool.{true}
use mathlib.Core.List.{List, [], ◌∷◌}
use mathlib.Core.Path.{◌≡◌, refl}
use Prim.Native.Nat.{ℕ}
use native.Mathlib.Omega.{arith}
use lib.ListN.{length, length-take, length-drop}
use borrow.Author.Rules.{rules}
use Rattle.words.specs.Parts.{part}
use Rattle.bits.specs.Bits.{fields, total}
use Rattle.bits.proofs.Lists.{short_widths}
use Rattle.numbers.specs.Layout.{width_place, height_place, next_handle_place, count_place}
use Rattle.numbers.specs.Block.{at}
use Rattle.numbers.specs.View.{view, is_record}
use Rattle.numbers.proofs.Record.{parts}
use Rattle.saved_table.specs.Table.{dc_widths, dc_values, head_widths, head_values}
use Rattle.pack.specs.Inner.{head_bits, Room}
use Rattle.pack.proofs.Puts.{length_as, room_fields, put_as, put_both, room_first, room_behind}
use Rattle.pack.proofs.Values.{head_values_lem, screen_values}
use Rattle.pack.proofs.put_head.Goals as goal

-- the head in two parts
module _ {m : List ℕ} (l : List ℕ) (t : is_record l ≡ true) (r : Room m 0 (head_bits (view l))) where
  abbrev values : List ℕ
  values = 1 ∷ at l width_place ∷ at l height_place ∷ at l next_handle_place ∷ at l count_place ∷ []

  abbrev first : List ℕ
  first = fields head_widths (head_values (view l))

  abbrev second : List ℕ
  second = fields dc_widths (dc_values (view l).screen)

  head-same : fields head_widths values ≡ first
  head-same = rw (head_values_lem l t)

  first_long : length first ≡ 71
  unfolding total
  first_long = length_as head_widths values head-same

  first-room : Room m 0 first
  first-room = room_first first second r

  second-room : {m' : List ℕ} → length m' ≡ length m → Room m' 71 second
  second-room e = room_behind first second r e (omega (arith, first_long))

pub bounds-numbers-2 : goal.bounds-numbers-2
bounds-numbers-2 c = omega (arith, (parts c.args.numbers.now c.requires.numbers_value).long)

pub bounds-numbers-3 : goal.bounds-numbers-3
bounds-numbers-3 c = omega (arith, (parts c.args.numbers.now c.requires.numbers_value).long)

pub bounds-numbers-6 : goal.bounds-numbers-6
bounds-numbers-6 c = omega (arith, (parts c.args.numbers.now c.requires.numbers_value).long)

pub bounds-numbers-8 : goal.bounds-numbers-8
bounds-numbers-8 c = omega (arith, (parts c.args.numbers.now c.requires.numbers_value).long)

pub put_fields-requires : goal.put_fields-requires
put_fields-requires c =
    let l = c.args.numbers.now in
    record {
      fields_fit = room_fields head_widths (values l c.requires.numbers_value c.requires.room) (head-same l c.requires.numbers_value c.requires.room) (first-room l c.requires.numbers_value c.requires.room) (short_widths head_widths refl);
      widths_in_bounds = omega arith;
    }

pub slice_bounds-put_fields-end-4 : goal.slice_bounds-put_fields-end-4
slice_bounds-put_fields-end-4 c = omega (arith, (parts c.args.numbers.now c.requires.numbers_value).long)

pub put_fields-requires-2 : goal.put_fields-requires-2
put_fields-requires-2 c =
    let l = c.args.numbers.now in
    let e = screen_values l c.requires.numbers_value (λ k. omega (arith, c.shared_slice_known-1.given k)) in
    record {
      fields_fit = room_fields dc_widths (part l 10 13) e (second-room l c.requires.numbers_value c.requires.room (search rules)) (short_widths dc_widths refl);
      widths_in_bounds = simp (length-take, length-drop) (omega (arith, (parts l c.requires.numbers_value).long));
    }

pub returns : goal.returns
unfolding total
returns c =
    let l = c.args.numbers.now in
    let e = screen_values l c.requires.numbers_value (λ k. omega (arith, c.shared_slice_known-1.given k)) in
    put_both
    (put_as head_widths (values l c.requires.numbers_value c.requires.room) (head-same l c.requires.numbers_value c.requires.room) refl c.put_fields.ensures)
    (put_as dc_widths (part l 10 13) e refl c.put_fields-2.ensures)
    (first-room l c.requires.numbers_value c.requires.room).inside
