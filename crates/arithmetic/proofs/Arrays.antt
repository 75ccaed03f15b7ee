-- The length of an array of zeros, so that no proof counts it element by element. Assumes nothing.
use mathlib.Core.Path.{◌≡◌, sym, subst}
use Prim.Native.Nat.{ℕ, ◌≤◌}
use lib.ListN.{length, replicate, length-replicate}

pub zeros : (n : ℕ) → n ≡ length (replicate {A = ℕ} n 0)
zeros n = sym (length-replicate {A = ℕ} n 0)

pub served : {m : ℕ} (n : ℕ) → m ≤ n → m ≤ length (replicate {A = ℕ} n 0)
served {m} n h = subst (λ (k : ℕ). m ≤ k) (zeros n) h
