-- What the reading functions guarantee each other, as far as their safety needs it: how far they have read in a stream of n bytes.
use Rattle.std.specs.Prelude.{ℕ, ◌≤◌}
use Rattle.records.specs.declared.read.Case.{Case}

-- what is read from `at` on ends before `next`, within the stream
abbrev pub NextWithin : (at n next : ℕ) → Type 0
NextWithin at n next = (at ≤ next) × (next ≤ n)

-- the same of a record, whose memories can be lent
pub record Taken (at n : ℕ) (c : Case) : Type 0 where
  pub behind : at ≤ c.next
  pub inside : c.next ≤ n
  pub panel : c.panel_lent ≤ 65536
  pub store : c.store_lent ≤ 65536
