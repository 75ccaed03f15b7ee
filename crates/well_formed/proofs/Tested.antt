-- The results of the tests of a record's numbers. Assumes nothing.
use mathlib.Core.Bool.{Bool, true, false, ◌&&◌}
use mathlib.Core.List.{List, [], ◌∷◌}
use mathlib.Core.Path.{◌≡◌, refl, sym, ◌∙◌, ap}
use Prim.Native.Nat.{ℕ, zero, suc, ◌+◌, ◌-◌, ◌≤◌}
use native.Mathlib.Omega.{arith}
use lib.Bits.{bit_or, or_zero_r, or_add_and, and_le_l}
use lib.Dec.{eqb, leb}
use lib.ListN.{length}
use Rattle.std.specs.List.{fold}
use borrow.Author.Tests.{leb-true, eqb-true, ne_eqb}
use Rattle.arithmetic.specs.Test.{all_below}
use Rattle.arithmetic.proofs.Test.{both, and-true, all_same}
use Rattle.words.specs.Parts.{part}
use Rattle.words.proofs.Parts.{length_part}
use Rattle.numbers.specs.Layout.{dc_size, object_size, record_size, stock_dirty_place, count_place, screen_place}
use Rattle.numbers.specs.Block.{at, is_flag, is_dc, zeros_from}
use Rattle.numbers.specs.View.{is_record}
use Rattle.numbers.proofs.Seen.{part_at}
use Rattle.well_formed.specs.Inner.{is_head, are_slots}

-- no bit is set in two numbers if both are 0
or_zero : (s x : ℕ) → eqb (bit_or s x) 0 ≡ (eqb x 0 && eqb s 0)
or_zero s zero = rw (or_zero_r s)
or_zero s (suc x) = rw (ne_eqb (bit_or s (suc x)) 0 (λ e. omega (arith, e, or_add_and s (suc x), and_le_l s (suc x))), ne_eqb (suc x) 0 (λ e. omega (arith, e)))

and_first : (a b c : Bool) → ((b && a) && c) ≡ (a && (b && c))
and_first true true c = refl
and_first true false c = refl
and_first false true c = refl
and_first false false c = refl

-- the combined bits of numbers are 0 exactly if each of them is
combined : (l : List ℕ) (s : ℕ) → eqb (fold bit_or s l) 0 ≡ (eqb s 0 && all_below (length l) (λ j. eqb (at l j) 0))
combined [] s = sym (and-true (eqb s 0))
combined (x ∷ l) s =
    combined l (bit_or s x) ∙ ap (λ (t : Bool). t && all_below (length l) (λ j. eqb (at l j) 0)) (or_zero s x)
    ∙ and_first (eqb s 0) (eqb x 0) (all_below (length l) (λ j. eqb (at l j) 0))

-- those of an object's numbers from k on
pub zeros_combined : (l : List ℕ) (k : ℕ) → k ≤ object_size → object_size ≤ length l → eqb (fold bit_or 0 (part l k (object_size - k))) 0 ≡ zeros_from l k
zeros_combined l k le long =
    combined (part l k (object_size - k)) 0
    ∙ rw (length_part l k (object_size - k) (omega arith))
    (all_same (object_size - k) (λ j. eqb (at (part l k (object_size - k)) j) 0) (λ j. eqb (at l (k + j)) 0) (λ j lt. ap (λ (n : ℕ). eqb n 0) (part_at l k (object_size - k) j lt)))

-- the last of five tests, split off
and_last : (a b c d e : Bool) → (a && (b && (c && (d && e)))) ≡ ((a && (b && (c && d))) && e)
and_last false b c d e = refl
and_last true false c d e = refl
and_last true true false d e = refl
and_last true true true d e = refl

-- the head
module _ (l : List ℕ) where
  -- numbers are a record if the head and each slot are well formed
  pub head_and_slots : is_record l ≡ (is_head l && are_slots l (at l count_place))
  unfolding is_head is_record
  head_and_slots =
      and_last (eqb (length l) record_size) (is_flag (at l stock_dirty_place)) (leb (at l count_place) 256) (is_dc (part l screen_place dc_size))
      (are_slots l (at l count_place))

  pub head_long : is_head l ≡ true → length l ≡ record_size
  unfolding is_head
  head_long h =
      eqb-true (length l) record_size
      (both (eqb (length l) record_size) (is_flag (at l stock_dirty_place) && (leb (at l count_place) 256 && is_dc (part l screen_place dc_size))) h).0

  pub head_few : is_head l ≡ true → at l count_place ≤ 256
  unfolding is_head
  head_few h =
      let a = both (eqb (length l) record_size) (is_flag (at l stock_dirty_place) && (leb (at l count_place) 256 && is_dc (part l screen_place dc_size))) h in
      let b = both (is_flag (at l stock_dirty_place)) (leb (at l count_place) 256 && is_dc (part l screen_place dc_size)) a.1 in
      leb-true (at l count_place) 256 (both (leb (at l count_place) 256) (is_dc (part l screen_place dc_size)) b.1).0
