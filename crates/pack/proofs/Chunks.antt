-- The slots of a record's numbers, taken as chunks one after another. Assumes nothing.
use mathlib.Core.List.{List, ◌++◌}
use mathlib.Core.Path.{◌≡◌, sym, ◌∙◌, ap}
use mathlib.Core.Bool.{true}
use Prim.Native.Nat.{ℕ, ◌+◌, ◌*◌, ◌-◌, ◌≤◌, ◌<◌}
use native.Mathlib.Omega.{arith}
use lib.ListN.{length, take, drop, length-append}
use lib.Seq.{take-take, drop-drop, take_at, drop_at}
use denote.Ref.{Bor}
use Rattle.std.specs.declared.slice.ChunksExact.{ChunksExact}
use Rattle.std.specs.Slice.Iter.{chunks_exact_rest, chunks_exact_size, chunks_exact_steps}
use Rattle.std.proofs.Common.{Some, None}
use Rattle.std.proofs.lemmas.List.{drop-take}
use Rattle.words.specs.Parts.{part}
use Rattle.words.proofs.Parts.{length_part}
use Rattle.numbers.specs.Layout.{slot_size, count_place, slots_place, slot_place}
use Rattle.numbers.specs.Block.{at}
use Rattle.numbers.specs.View.{is_record}
use Rattle.numbers.proofs.Record.{parts}

-- of n slots all but the first i are left
pub record Left (l : List ℕ) (n i : ℕ) (s : ChunksExact ℕ) : Type 0 where
  pub size : chunks_exact_size s ≡ slot_size
  pub few : i ≤ n
  pub rest : chunks_exact_rest s ≡ part l (slot_place i) (slot_size * (n - i))

-- before the first, with the numbers of the slots as the code lends them
pub all_left : (l : List ℕ) (n : ℕ) {s : ChunksExact ℕ} → chunks_exact_rest s ≡ part l slots_place (slot_place n - slots_place) → chunks_exact_size s ≡ slot_size → Left l n 0 s
all_left l n e f = let k : slot_place n - slots_place ≡ slot_size * (n - 0) = omega arith in record { size = f; few = omega arith; rest = rw k at e }

-- the numbers of a record have its slots
pub slots_long : (l : List ℕ) → is_record l ≡ true → slot_place (at l count_place) ≤ length l
slots_long l r = omega (arith, (parts l r).long, (parts l r).few)

-- numbers that have n slots
module _ (l : List ℕ) (n : ℕ) (long : slot_place n ≤ length l) (i : ℕ) {s : ChunksExact ℕ} (left : Left l n i s) where
  length_left : length (chunks_exact_rest s) ≡ slot_size * (n - i)
  length_left = ap length left.rest ∙ length_part l (slot_place i) (slot_size * (n - i)) (omega (arith, left.few))

  -- the next slot
  pub next_slot : (x : Bor (List ℕ)) (t : ChunksExact ℕ) → chunks_exact_steps s (Some x) t → (i < n) × ((x.now ≡ part l (slot_place i) slot_size) × Left l n (i + 1) t)
  next_slot x t p =
      let m = slot_size * (n - (i + 1)) in
      let wide : length x.now ≡ slot_size = p.1.1 ∙ left.size in
      let whole : x.now ++ chunks_exact_rest t ≡ part l (slot_place i) (slot_size * (n - i)) = sym p.1.0 ∙ left.rest in
      let lt : i < n = omega (arith, length_left, ap length p.1.0, length-append x.now (chunks_exact_rest t)) in
      let e : slot_size * (n - i) ≡ slot_size + m = omega arith in
      let place : slot_place i + slot_size ≡ slot_place (i + 1) = omega arith in
      let rest : drop slot_size (part l (slot_place i) (slot_size * (n - i))) ≡ part l (slot_place (i + 1)) m = rw (e, drop-take slot_size m (drop (slot_place i) l), drop-drop slot_size (slot_place i) l, place) in (
        lt,
        (
          sym (take_at x.now (chunks_exact_rest t) slot_size wide) ∙ ap (take slot_size) whole ∙ take-take slot_size (slot_size * (n - i)) (drop (slot_place i) l) (omega arith),
          record { size = p.0 ∙ left.size; few = omega arith; rest = sym (drop_at x.now (chunks_exact_rest t) slot_size wide) ∙ ap (drop slot_size) whole ∙ rest },
        ),
      )

  -- the end
  pub none_left : {t : ChunksExact ℕ} → chunks_exact_steps s None t → i ≡ n
  none_left p = omega (arith, length_left, p.1.0, left.size, left.few)
