-- A part of a memory, as it is lent and as it comes back.
use Rattle.std.specs.Prelude.{List, ◌++◌, ℕ, ◌+◌, take, drop}

-- the n bytes from p on
abbrev pub part : List ℕ → ℕ → ℕ → List ℕ
part m p n = take n (drop p m)

-- memory m with xs in place of the n bytes from p on
abbrev pub with_part : List ℕ → ℕ → ℕ → List ℕ → List ℕ
with_part m p n xs = take p m ++ (xs ++ drop (p + n) m)
