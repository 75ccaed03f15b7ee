-- Elements removed from a list and the gap closed: bytes of a memory, or slots of a table.
use Rattle.std.specs.Prelude.{List, ◌++◌, ℕ, ◌+◌, ◌-◌, take, drop, replicate}
use Rattle.words.specs.Parts.{with_part}

-- the n elements from p on removed: those after them, up to used, move down, the freed tail is z, and all from used on is kept
abbrev pub closed_up {ℓ} : {A : Type ℓ} → A → List A → (p n used : ℕ) → List A
closed_up z l p n used = take p l ++ (take (used - (p + n)) (drop (p + n) l) ++ (replicate n z ++ drop used l))

-- memory m with the n bytes from p on at 0
abbrev pub blanked : List ℕ → (p n : ℕ) → List ℕ
blanked m p n = with_part m p n (replicate n 0)
