-- The tests of handles, read from numbers. Assumes nothing.
use mathlib.Core.Bool.{Bool, true, not, ◌&&◌}
use mathlib.Core.List.{List}
use mathlib.Core.Path.{◌≡◌, refl, ◌∙◌, ap}
use Prim.Native.Nat.{ℕ, zero, suc, ◌+◌, ◌<◌}
use native.Mathlib.Omega.{arith}
use lib.Dec.{eqb}
use Rattle.std.specs.List.{list_all, range_with_len}
use Rattle.arithmetic.specs.Test.{all_below}
use Rattle.arithmetic.proofs.Test.{all_same}
use Rattle.gdi.specs.Lookup.{handle_at}
use Rattle.numbers.specs.Layout.{count_place, slot_place}
use Rattle.numbers.specs.Block.{at}
use Rattle.numbers.specs.View.{view, is_record}
use Rattle.numbers.proofs.Seen.{handle_seen, count_seen}
use Rattle.sound.specs.Sound.{absent, distinct}

-- a test of each number of a range is a test of every number below its length
each_from : (a n : ℕ) (f : ℕ → Bool) → list_all f (range_with_len a n) ≡ all_below n (λ k. f (a + k))
each_from a zero f = refl
each_from a (suc n) f =
    let first : a + 0 ≡ a = omega arith in
    rw first (ap (λ (t : Bool). f a && t) (each_from (a + 1) n f ∙ all_same n (λ k. f (a + 1 + k)) (λ k. f (a + suc k)) (λ k lt. ap f (omega arith))))

pub each_below : (n : ℕ) (f : ℕ → Bool) → list_all f (range_with_len 0 n) ≡ all_below n f
each_below n f = each_from 0 n f ∙ all_same n (λ k. f (0 + k)) f (λ k lt. ap f (omega arith))

-- numbers that are a record
module _ (l : List ℕ) (r : is_record l ≡ true) where
  -- handle k differs from those before it
  pub absent_seen : (k : ℕ) → k < at l count_place → all_below k (λ j. not (eqb (at l (slot_place j)) (at l (slot_place k)))) ≡ absent (view l).objects k (handle_at (view l).objects k)
  absent_seen k lt =
      all_same k (λ j. not (eqb (at l (slot_place j)) (at l (slot_place k)))) (λ j. not (eqb (handle_at (view l).objects j) (handle_at (view l).objects k)))
      (λ j below. rw (handle_seen l r j (omega arith), handle_seen l r k lt))

  -- all differ
  pub distinct_seen : all_below (at l count_place) (λ k. absent (view l).objects k (handle_at (view l).objects k)) ≡ distinct (view l).objects (view l).count
  distinct_seen = rw (count_seen l)
