-- Definitions that only inner functions cite: no exported contract reaches them.
-- The test of a record's numbers, in two: the head, and the slots.
use Rattle.std.specs.Prelude.{Bool, ◌&&◌, List, ℕ, eqb, leb, length}
use Rattle.arithmetic.specs.Test.{all_below}
use Rattle.words.specs.Parts.{part}
use Rattle.numbers.specs.Layout.{dc_size, slot_size, record_size, stock_dirty_place, count_place, screen_place, slot_place}
use Rattle.numbers.specs.Block.{at, is_flag, is_dc, is_slot}

-- the numbers before the slots are well formed
unfoldable pub is_head : List ℕ → Bool
is_head l = eqb (length l) record_size && (is_flag (at l stock_dirty_place) && (leb (at l count_place) 256 && is_dc (part l screen_place dc_size)))

-- each of the first n slots is well formed
abbrev pub are_slots : List ℕ → ℕ → Bool
are_slots l n = all_below n (λ i. is_slot (part l (slot_place i) slot_size))
