-- The steps of the register as the loops take them. Assumes nothing.
use Rattle.std.proofs.Common.{◌≡◌, refl, List, [], ◌∷◌, ℕ, suc, ◌+◌, ◌-◌, ◌<◌, ◌≤◌, arith}
use Rattle.std.specs.List.{fold}
use Rattle.crc32.specs.Crc32.{bit_step, bit_steps, byte_step, byte_steps}

-- byte after byte, a fold
pub steps_fold : (c : ℕ) (bs : List ℕ) → fold byte_step c bs ≡ byte_steps c bs
unfolding byte_steps
steps_fold c [] = refl
steps_fold c (b ∷ bs) = steps_fold (byte_step c b) bs

-- one shift of those that are left, and none left
pub one_shift : (n c k : ℕ) → k < n → bit_steps (n - k) c ≡ bit_steps (n - (k + 1)) (bit_step c)
unfolding bit_steps
one_shift n c k lt = let e : n - k ≡ suc (n - (k + 1)) = omega arith in rw e

pub no_shift : (n c k : ℕ) → n ≤ k → bit_steps (n - k) c ≡ c
unfolding bit_steps
no_shift n c k le = let e : n - k ≡ 0 = omega arith in rw e
