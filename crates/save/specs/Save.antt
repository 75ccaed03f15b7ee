-- What saving a record's table ensures (document 02, request 02).
use Rattle.std.specs.Prelude.{List, ◌++◌, ◌≡◌, Result, Ok, Err, ℕ, length as size, drop}
use Rattle.refusals.specs.declared.Refusal.{Refusal}
use Rattle.refusals.specs.Refusal.{code_of}
use Rattle.plan.specs.Answer.{Parts}
use Rattle.plan.specs.Calls.{save, plan_on}
use Rattle.save.specs.declared.Saving.{Saving}

-- the length of a table that was saved, or why it was not, as numbers
abbrev pub saving : Result ℕ Refusal → Saving
saving (Ok n) = record { refusal = 0; length = n }
saving (Err r) = record { refusal = code_of r; length = 0 }

-- The answer of a save on a flat record, into an output of so many bytes. A save takes no memory, so their lengths have no effect.
abbrev pub save_answer : (l : List ℕ) → (room : ℕ) → Parts
save_answer l n = (plan_on (save n) l 0 0).outcome.answer

-- It answers the refusal's number, 0 if accepted, and the table's length, 0 if refused. The output begins with the table and is kept past
-- it; if refused, all of it is kept.
pub record Saved (l out : List ℕ) (r : Saving) (out' : List ℕ) : Type 0 where
  pub refusal : r.refusal ≡ (save_answer l (size out)).number
  pub length : r.length ≡ (save_answer l (size out)).value
  pub bytes : out' ≡ (save_answer l (size out)).bytes ++ drop (size (save_answer l (size out)).bytes) out
