-- `pack::put_table` meets its contract. The invariant: the objects so far are put behind the head. Assumes nothing.
use mathlib.Core.Path.{◌≡◌, refl, ◌∙◌, ap}
use native.Mathlib.Omega.{arith}
use lib.ListN.{length}
use borrow.Author.Rules.{rules}
use Rattle.std.specs.Slice.Iter.{chunks_exact_rest, chunks_exact_size}
use Rattle.std.proofs.lemmas.List.{length_push}
use Rattle.numbers.specs.Layout.{count_place}
use Rattle.numbers.specs.Block.{at}
use Rattle.numbers.proofs.Record.{parts}
use Rattle.saved_table.specs.Table.{slots_bits}
use Rattle.pack.proofs.Puts.{put_none}
use Rattle.pack.proofs.Chunks.{slots_long, all_left, next_slot, none_left}
use Rattle.pack.proofs.Table.{few, inside, head_room, slot_good, slot_room, slot_next, table_put}
use Rattle.pack.proofs.put_table.Goals as goal

pub put_head-requires-clause-room : goal.put_head-requires-clause-room
put_head-requires-clause-room c =
    head_room c.args.numbers.now c.args.out.now c.requires.numbers_value c.requires.numbers_in_bounds

pub bounds-numbers-8 : goal.bounds-numbers-8
bounds-numbers-8 c =
    omega (arith, (parts c.args.numbers.now c.requires.numbers_value).long)

pub slice_bounds-chunks_exact-end : goal.slice_bounds-chunks_exact-end
slice_bounds-chunks_exact-end c =
    omega (arith, slots_long c.args.numbers.now c.requires.numbers_value)

pub loop-slot-init : goal.loop-slot-init
unfolding slots_bits
loop-slot-init c =
    let items = c.into_iter-slot-iterator.ensures.into_iter_gives in
    record {
      left = all_left c.args.numbers.now (at c.args.numbers.now count_place) (ap chunks_exact_rest items ∙ c.chunks_exact-slot-items.ensures.rest) (ap chunks_exact_size items ∙ c.chunks_exact-slot-items.ensures.size);
      long = refl;
      put = put_none _ 425;
    }

pub put_slot-at-requires-clause-numbers_value : goal.put_slot-at-requires-clause-numbers_value
put_slot-at-requires-clause-numbers_value c =
    let l = c.args.numbers.now in
    let r = c.requires.numbers_value in
    let s = c.loop-slot in
    let next = next_slot l (at l count_place) (slots_long l r) (length s.yielded) s.invariant.left c.in-Some.slot c.next.new.self c.in-Some.ensures.steps in
    let same : length c.put_head.new.out ≡ length c.args.out.now = search rules in
    slot_good l c.args.out.now r c.requires.numbers_in_bounds next.0 next.1.0 (s.invariant.long ∙ same) s.invariant.put

pub put_slot-at-requires-clause-room : goal.put_slot-at-requires-clause-room
put_slot-at-requires-clause-room c =
    let l = c.args.numbers.now in
    let r = c.requires.numbers_value in
    let s = c.loop-slot in
    let next = next_slot l (at l count_place) (slots_long l r) (length s.yielded) s.invariant.left c.in-Some.slot c.next.new.self c.in-Some.ensures.steps in
    let same : length c.put_head.new.out ≡ length c.args.out.now = search rules in
    slot_room l c.args.out.now r c.requires.numbers_in_bounds next.0 next.1.0 (s.invariant.long ∙ same) s.invariant.put

pub loop-slot-preserved : goal.loop-slot-preserved
loop-slot-preserved c =
    let l = c.args.numbers.now in
    let r = c.requires.numbers_value in
    let s = c.loop-slot in
    let next = next_slot l (at l count_place) (slots_long l r) (length s.yielded) s.invariant.left c.in-Some.slot c.next.new.self c.in-Some.ensures.steps in
    let same : length c.put_head.new.out ≡ length c.args.out.now = search rules in
    rw (length_push s.yielded c.in-Some.slot) (record {
      left = next.1.1;
      long = search rules;
      put = slot_next l c.args.out.now r c.requires.numbers_in_bounds next.0 next.1.0 (s.invariant.long ∙ same) s.invariant.put same c.put_slot-at.ensures;
    })

pub fill_byte-requires : goal.fill_byte-requires
fill_byte-requires c =
    let l = c.args.numbers.now in
    let s = c.loop-slot in
    let same : length c.put_head.new.out ≡ length c.args.out.now = search rules in
    let h = inside l c.args.out.now c.requires.numbers_value c.requires.numbers_in_bounds (length s.yielded) s.invariant.left.few in
    let k = few l c.args.out.now c.requires.numbers_value c.requires.numbers_in_bounds (length s.yielded) s.invariant.left.few in
    (omega (arith, s.invariant.put.behind, s.invariant.long), omega (arith, s.invariant.put.behind))

pub returns : goal.returns
returns c =
    let l = c.args.numbers.now in
    let s = c.loop-slot in
    let e = none_left l (at l count_place) (slots_long l c.requires.numbers_value) (length s.yielded) s.invariant.left c.in-None.ensures.steps in
    let same : length c.put_head.new.out ≡ length c.args.out.now = search rules in
    table_put l c.args.out.now c.requires.numbers_value c.requires.numbers_in_bounds e same (λ k. search rules) (λ k. omega (arith, c.type_inv.out k)) c.put_head.ensures s.invariant.put c.fill_byte.ensures
