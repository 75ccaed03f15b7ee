-- Definitions that only inner functions cite: no exported contract reaches them.
-- What is read from the bytes of a script.
use Rattle.bigendian.specs.BigEndian.{be32}
use Rattle.std.specs.Prelude.{Option, Some, None, List, ◌≡◌, ℕ, ◌+◌, ◌≤◌, ◌<◌, length, ◌⊎◌}

-- the n bytes from p on are read as v, and q is the place behind them; or they are not there
abbrev pub ReadsAs : {T : Type 0} → List ℕ → (p n q : ℕ) → Option T → T → Type 0
ReadsAs s p n q None v = length s < p + n
ReadsAs s p n q (Some x) v = (p + n ≤ length s) × (q ≡ p + n) × (x ≡ v)

-- the same of a number of 32 bits that is at most `most`; or there is no such number
abbrev pub CountReads : List ℕ → (p most q : ℕ) → Option ℕ → Type 0
CountReads s p most q None = (length s < p + 4) ⊎ (most < be32 s p)
CountReads s p most q (Some n) = (p + 4 ≤ length s) × (q ≡ p + 4) × (n ≡ be32 s p) × (n ≤ most)
