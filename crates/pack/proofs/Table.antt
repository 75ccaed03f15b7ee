-- A table put part after part. Assumes nothing.
use mathlib.Core.Bool.{true}
use mathlib.Core.List.{List, ◌++◌}
use mathlib.Core.Path.{◌≡◌, sym, ◌∙◌, ap}
use Prim.Native.Nat.{ℕ, suc, ◌+◌, ◌*◌, ◌≤◌, ◌<◌}
use native.Mathlib.Numerals.{add-one}
use native.Mathlib.Omega.{arith}
use lib.ListN.{length, get_or, drop, replicate}
use Rattle.words.specs.Parts.{part, with_part}
use Rattle.bits.specs.Bits.{bits_of, field, filling, padded}
use Rattle.bits.proofs.Lists.{bytes_put}
use Rattle.gdi.specs.declared.Slot.{Slot}
use Rattle.gdi.specs.Lookup.{slot_at}
use Rattle.numbers.specs.Layout.{slot_size, count_place, slot_place}
use Rattle.numbers.specs.Block.{at, slot_of, is_slot}
use Rattle.numbers.specs.View.{view, is_record}
use Rattle.numbers.proofs.Record.{parts}
use Rattle.numbers.proofs.Seen.{count_seen}
use Rattle.saved_table.specs.Table.{slot_bits, slots_bits, table_bits, saved_table}
use Rattle.saved_table.proofs.Lengths.{slots_short, length_table}
use Rattle.saved_table.proofs.Restored.{bits_table}
use Rattle.pack.specs.Inner.{head_bits, Room, Put}
use Rattle.pack.proofs.Puts.{put_both, put_filling}
use Rattle.pack.proofs.Lengths.{length_head, length_next, slots_grow, length_saved}
use Rattle.pack.proofs.Values.{slot_read}

-- a record and an output that is as long as its table
module _ (l out : List ℕ) (r : is_record l ≡ true) (fits : length (saved_table (view l)) ≤ length out) where
  -- the first n objects are inside
  pub inside : (n : ℕ) → n ≤ at l count_place → 425 + length (slots_bits (view l) n) ≤ 8 * length out
  inside n h = let e = count_seen l in omega (arith, length_saved (view l), slots_grow (view l) n (view l).count (omega arith))

  pub few : (n : ℕ) → n ≤ at l count_place → 425 + length (slots_bits (view l) n) ≤ 100009
  few n h = omega (arith, slots_short (view l) n, (parts l r).few)

  pub head_room : Room out 0 (head_bits (view l))
  head_room = record { inside = omega (arith, length_head (view l), inside 0 (omega arith)); counted = omega (arith, length_head (view l)) }

  -- objects before i are put behind the head, in an output of this length; the numbers of object i are lent
  module _ {i p : ℕ} {m m' slot : List ℕ} (lt : i < at l count_place) (lent : slot ≡ part l (slot_place i) slot_size) (long : length m' ≡ length out) (put : Put m 425 (slots_bits (view l) i) p m') where
    object : slot_at (view l) i ≡ slot_of slot
    object = slot_read l r i lt ∙ ap slot_of (sym lent)

    pub slot_good : is_slot slot ≡ true
    slot_good = ap is_slot lent ∙ (parts l r).slots i lt

    pub slot_room : Room m' p (slot_bits (slot_of slot))
    slot_room =
        let e : length (slot_bits (slot_of slot)) ≡ length (slot_bits (slot_at (view l) i)) = ap (λ (s : Slot). length (slot_bits s)) (sym object) in
        record {
          inside = omega (arith, put.behind, length_next (view l) i, inside (suc i) lt);
          counted = omega (arith, put.behind, length_next (view l) i, few (suc i) lt);
        }

    pub slot_next : length m ≡ length out → {q : ℕ} {m'' : List ℕ} → Put m' p (slot_bits (slot_of slot)) q m'' → Put m 425 (slots_bits (view l) (i + 1)) q m''
    unfolding slots_bits
    slot_next e x = rw (add-one i, object) (put_both put x (omega (arith, inside i (omega arith))))

  -- all are put, and the last byte is filled
  pub table_put : {m m' new : List ℕ} {i p : ℕ} → i ≡ at l count_place → length m ≡ length out → ((k : ℕ) → get_or out k 0 < 256) → ((k : ℕ) → get_or new k 0 < 256)
      → Put out 0 (head_bits (view l)) 425 m → Put m 425 (slots_bits (view l) i) p m' → bits_of new ≡ with_part (bits_of m') p (filling p) (field (filling p) 0)
      → new ≡ saved_table (view l) ++ drop (length (saved_table (view l))) out
  unfolding table_bits
  table_put {m} {m'} {new} {i} {p} e same small small' head slots fill =
      let b = view l in
      let n : i ≡ b.count = e ∙ sym (count_seen l) in
      let slots' : Put m 425 (slots_bits b b.count) p m' = rw n at slots in
      let both : Put out 0 (table_bits b) p m' = put_both head slots' head_room.inside in
      let long : p ≡ length (table_bits b) = both.behind ∙ omega arith in
      let z : replicate {A = ℕ} (filling p) 0 ≡ replicate (filling (length (table_bits b))) 0 = ap (λ (n : ℕ). replicate (filling n) 0) long in
      let filled : Put m' p (replicate (filling (length (table_bits b))) 0) (p + filling p) new = rw z at (put_filling {m = m'} {at = p} fill) in
      let all : Put out 0 (padded (table_bits b)) (p + filling p) new = put_both both filled (omega (arith, length_table b, length_saved b)) in
      bytes_put out new (table_bits b) (bits_table b) small small' fits all.bits
