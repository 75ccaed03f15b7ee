-- The bytes of a removed object lie in the store. Assumes nothing.
use mathlib.Core.Bool.{true}
use mathlib.Core.List.{List}
use mathlib.Core.Path.{◌≡◌, sym, ◌∙◌, ap}
use Prim.Native.Nat.{ℕ, ◌+◌, ◌≤◌, ◌<◌}
use native.Mathlib.Omega.{arith}
use lib.ListN.{length}
use Rattle.gdi.specs.Record.{bytes_of}
use Rattle.gdi.specs.Lookup.{object_at}
use Rattle.numbers.specs.Layout.{count_place, slot_place}
use Rattle.numbers.specs.Block.{at}
use Rattle.numbers.specs.View.{view, is_record}
use Rattle.numbers.proofs.Seen.{count_seen}
use Rattle.sound.specs.Sound.{start_of, used, is_sound}
use Rattle.sound.proofs.Sound.{parts}
use Rattle.memory.specs.Gap.{closed_up}
use Rattle.sound.proofs.Objects.{object_from}
use Rattle.sound.proofs.Slots.{bytes_seen}
use Rattle.removal.proofs.Shifts.{room_of}

module _ (l : List ℕ) (r : is_record l ≡ true) (i : ℕ) (lt : i < at l count_place) where
  -- its bytes, as they are read from the numbers
  module _ {p n end : ℕ} (start : p ≡ start_of (view l) i) (bytes : n ≡ bytes_of (object_from l (slot_place i))) (all : end ≡ start_of (view l) (at l count_place)) where
    last : end ≡ used (view l)
    last = all ∙ ap (start_of (view l)) (sym (count_seen l))

    pub gap_room : is_sound (view l) ≡ true → (store : List ℕ) → length store ≡ (view l).store_len → (p + n ≤ end) × (end ≤ length store)
    gap_room s store long =
        let room = room_of (parts (view l) s) i (rw (count_seen l) lt) in
        let b : n ≡ bytes_of (object_at (view l) i) = bytes_seen l r i lt bytes in
        (omega (arith, last), omega (arith, last))

    pub gap_closed : (store : List ℕ) {t : List ℕ} → t ≡ closed_up 0 store p n end → t ≡ closed_up 0 store (start_of (view l) i) (bytes_of (object_at (view l) i)) (used (view l))
    gap_closed store e = e ∙ rw (start, bytes_seen l r i lt bytes, last)
