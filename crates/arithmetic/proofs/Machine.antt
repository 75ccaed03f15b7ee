-- Signed machine words: how the code holds an integer, and which sums are exact in 64 bits. Assumes nothing.
use mathlib.Core.Path.{◌≡◌}
use Prim.Native.Nat.{ℕ, ◌+◌, ◌*◌, ◌≤◌, ◌<◌, ◌^◌}
use native.Mathlib.Omega.{arith}
use lib.Dec.{T, ltb, lit<}
use lib.IntN.{ℤ, pos, negsuc, ◌+ℤ◌, ◌-ℤ◌}
use lib.Signed.{mag}
use mir.Syntax.{w32, w64}
use mir.Val.{SFits, to_z, of_z}
use mir.ValLaws.{to_z-of_z}
use borrow.Author.Tests.{lt-ltb}
use Rattle.arithmetic.specs.Integer.{positive}
use Rattle.arithmetic.specs.Inner.{negative}
use Rattle.arithmetic.proofs.Integer.{sum, difference}

-- the range of a word, over the parts
magnitude : (z : ℤ) → (mag z ≤ positive z + negative z) × ((positive z ≤ mag z) × (negative z ≤ mag z + 1))
magnitude (pos n) = omega arith
magnitude (negsuc n) = omega arith

pub range32 : (z : ℤ) → SFits w32 z → (positive z < 2 ^ 31) × (negative z ≤ 2 ^ 31)
range32 z f = omega (arith, f.sfits, magnitude z)

pub range64 : (z : ℤ) → SFits w64 z → (positive z < 2 ^ 63) × (negative z ≤ 2 ^ 63)
range64 z f = omega (arith, f.sfits, magnitude z)

pub fits32 : (z : ℤ) → positive z < 2 ^ 31 → negative z ≤ 2 ^ 31 → SFits w32 z
fits32 (pos n) p q = record { sfits = p }
fits32 (negsuc n) p q = record { sfits = omega arith }

pub fits64 : (z : ℤ) → positive z < 2 ^ 40 → negative z < 2 ^ 40 → SFits w64 z
fits64 z p n = record { sfits = omega (arith, magnitude z) }

-- an integer that was stored, as the code reads it back
abbrev pub held32 : ℤ → ℤ
held32 z = to_z w32 (of_z w32 z)

abbrev pub held64 : ℤ → ℤ
held64 z = to_z w64 (of_z w64 z)

pub stored32 : (z : ℤ) → SFits w32 z → held32 z ≡ z
stored32 z f = to_z-of_z w32 z f

pub stored64 : (z : ℤ) → SFits w64 z → held64 z ≡ z
stored64 z f = to_z-of_z w64 z f

-- a natural, read as a signed word
pub natural64 : (n : ℕ) → n < 2 ^ 63 → to_z w64 n ≡ pos n
natural64 n h = rw (lt-ltb n (2 ^ 63) h)

-- an i32 that the code casts to an i64
module _ {z : ℤ} (f : SFits w32 z) where
  widened : SFits w64 z
  widened = fits64 z (omega (arith, range32 z f)) (omega (arith, range32 z f))

  pub cast_fits : SFits w64 (held32 z)
  cast_fits = rw (stored32 z f) widened

  pub cast_held : held64 (held32 z) ≡ z
  cast_held = rw (stored32 z f) (stored64 z widened)

-- z is no larger than a sum of k words of 32 bits
pub record Terms (k : ℕ) (z : ℤ) : Type 0 where
  pub up : positive z ≤ k * 2 ^ 32
  pub down : negative z ≤ k * 2 ^ 32

pub signed_term : {z : ℤ} → SFits w32 z → Terms 1 z
signed_term {z} f = omega (arith, range32 z f)

pub natural_term : (n : ℕ) → n < 2 ^ 32 → Terms 1 (pos n)
natural_term n h = omega arith

pub sum_terms : {j k : ℕ} {a b : ℤ} → Terms j a → Terms k b → Terms (j + k) (a +ℤ b)
sum_terms {j} {k} {a} {b} p q = omega (arith, sum a b)

pub difference_terms : {j k : ℕ} {a b : ℤ} → Terms j a → Terms k b → Terms (j + k) (a -ℤ b)
difference_terms {j} {k} {a} {b} p q = omega (arith, difference a b)

-- a sum of so few terms is exact in 64 bits
module _ {k : ℕ} {z : ℤ} (t : Terms k z) (few : T (ltb k 256)) where
  pub terms_fit : SFits w64 z
  terms_fit = let h : k < 256 = lit< few in fits64 z (omega arith) (omega arith)

  pub terms_held : held64 z ≡ z
  terms_held = stored64 z terms_fit
