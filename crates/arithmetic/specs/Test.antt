-- Tests over every number below a bound, for rules that antt computes.
use Rattle.std.specs.Prelude.{Bool, true, false, ◌&&◌, ◌||◌, ℕ, zero, suc}

-- f holds at every number below k
abbrev pub all_below : ℕ → (ℕ → Bool) → Bool
all_below zero f = true
all_below (suc k) f = f 0 && all_below k (λ n. f (suc n))

-- f holds at some number below k
abbrev pub any_below : ℕ → (ℕ → Bool) → Bool
any_below zero f = false
any_below (suc k) f = f 0 || any_below k (λ n. f (suc n))
