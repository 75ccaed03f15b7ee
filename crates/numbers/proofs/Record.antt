-- What follows from the test of a record's numbers. Assumes nothing.
use mathlib.Core.Bool.{Bool, true, ◌&&◌}
use mathlib.Core.List.{List}
use mathlib.Core.Path.{◌≡◌}
use Prim.Native.Nat.{ℕ, ◌≤◌, ◌<◌}
use lib.Dec.{eqb, leb}
use lib.ListN.{length}
use borrow.Author.Tests.{eqb-true, leb-true, eq-eqb, le-leb}
use Rattle.arithmetic.specs.Test.{all_below}
use Rattle.arithmetic.proofs.Test.{both, each}
use Rattle.words.specs.Parts.{part}
use Rattle.numbers.specs.Layout.{dc_size, slot_size, record_size, stock_dirty_place, count_place, screen_place, slot_place}
use Rattle.numbers.specs.Block.{at, is_flag, is_dc, is_slot}
use Rattle.numbers.specs.View.{is_record}

pub record Parts (l : List ℕ) : Type 0 where
  pub long : length l ≡ record_size
  pub flag : at l stock_dirty_place ≤ 1
  pub few : at l count_place ≤ 256
  pub screen : is_dc (part l screen_place dc_size) ≡ true
  pub slots : (i : ℕ) → i < at l count_place → is_slot (part l (slot_place i) slot_size) ≡ true

module _ (l : List ℕ) where
  abbrev slots_test : Bool
  slots_test = all_below (at l count_place) (λ i. is_slot (part l (slot_place i) slot_size))

  pub parts : is_record l ≡ true → Parts l
  unfolding is_record
  parts h =
      let a = both (eqb (length l) record_size) (is_flag (at l stock_dirty_place) && (leb (at l count_place) 256 && (is_dc (part l screen_place dc_size) && slots_test))) h in
      let b = both (is_flag (at l stock_dirty_place)) (leb (at l count_place) 256 && (is_dc (part l screen_place dc_size) && slots_test)) a.1 in
      let c = both (leb (at l count_place) 256) (is_dc (part l screen_place dc_size) && slots_test) b.1 in
      let d = both (is_dc (part l screen_place dc_size)) slots_test c.1 in
      record {
        long = eqb-true (length l) record_size a.0;
        flag = leb-true (at l stock_dirty_place) 1 b.0;
        few = leb-true (at l count_place) 256 c.0;
        screen = d.0;
        slots = each (at l count_place) (λ i. is_slot (part l (slot_place i) slot_size)) d.1;
      }

  -- the test of the slots decides, where the rest of the test holds
  pub by_slots : length l ≡ record_size → at l stock_dirty_place ≤ 1 → at l count_place ≤ 256 → is_dc (part l screen_place dc_size) ≡ true → slots_test ≡ is_record l
  unfolding is_record
  by_slots a b c h = rw (eq-eqb (length l) record_size a, le-leb (at l stock_dirty_place) 1 b, le-leb (at l count_place) 256 c, h)
