-- Laws of the slots among the numbers of a record, as a loop over them lends them. Assumes nothing.
use mathlib.Core.List.{List, ◌++◌}
use mathlib.Core.Path.{◌≡◌, ◌∙◌, ap}
use Prim.Native.Nat.{ℕ, ◌+◌, ◌-◌, ◌<◌}
use native.Mathlib.Omega.{arith}
use lib.ListN.{length, take, drop}
use lib.Seq.{drop-drop}
use Rattle.words.specs.Parts.{part, with_part}
use Rattle.words.proofs.Parts.{length_part}
use Rattle.numbers.specs.Layout.{slot_size, record_size, slot_place}

-- a slot's numbers as the code lends them, and after they were lent
abbrev pub lent_slot : List ℕ → ℕ → List ℕ
lent_slot l i = take (slot_place i + slot_size - slot_place i) (drop (slot_place i) l)

abbrev pub slot_back : List ℕ → ℕ → List ℕ → List ℕ
slot_back l i x = take (slot_place i) l ++ (x ++ drop (slot_place i + slot_size - slot_place i) (drop (slot_place i) l))

slot_size_lem : (i : ℕ) → slot_place i + slot_size - slot_place i ≡ slot_size
slot_size_lem i = omega arith

pub lent_slot_lem : (l : List ℕ) (i : ℕ) → lent_slot l i ≡ part l (slot_place i) slot_size
lent_slot_lem l i = rw (slot_size_lem i)

pub lent_long : (l : List ℕ) (i : ℕ) → length l ≡ record_size → i < 256 → length (lent_slot l i) ≡ slot_size
lent_long l i long h = ap length (lent_slot_lem l i) ∙ length_part l (slot_place i) slot_size (omega arith)

pub slot_back_lem : (l : List ℕ) (i : ℕ) (x : List ℕ) → slot_back l i x ≡ with_part l (slot_place i) slot_size x
slot_back_lem l i x = rw (slot_size_lem i, drop-drop slot_size (slot_place i) l)
