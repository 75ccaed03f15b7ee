-- What the program's functions guarantee each other, as far as their safety needs it.
use Rattle.std.specs.Prelude.{List, ◌≡◌, ℕ, ◌+◌, ◌≤◌, ◌<◌, get_or, length}

-- the bytes of a call, from at to before next; a text has 17 before its units, and at most 70,000 units
pub record CallBytes (s : List ℕ) (at next : ℕ) : Type 0 where
  pub some : at < next
  pub inside : next ≤ length s
  pub text : get_or s at 0 ≡ 15 → (at + 17 ≤ next) × (next ≤ at + 140017)
