-- How many digits a number has. Assumes nothing.
use Rattle.std.proofs.Common.{◌≡◌, ℕ, ◌+◌, ◌-◌, ◌*◌, ◌^◌, ◌≤◌, ◌<◌, min, max, subst, arith}
use native.Mathlib.Decide.{dec_lt}
use native.Mathlib.Nat.{le_of_suc-le-suc, pow-le-pow_right, pow-zero, lt_of_not-le}
use Rattle.std.proofs.lemmas.Grind.{pow_more}
use Rattle.output.specs.Digits.{IsDigitCount}

-- the count that the logarithm of n gives, or of 1 where n is 0, and the width where that is more
pub count_of_log :
    (n b width log count : ℕ) → 1 < b → 0 < width → b ^ log ≤ max n 1 → max n 1 < b * b ^ log → count ≡ max (log + 1) width → IsDigitCount b width n count
count_of_log n b width log count base some low high is =
    let p : b ^ (log + 1) ≤ b ^ count = pow-le-pow_right (omega arith) (omega arith) in
    let q : b ^ (log + 1) ≡ b ^ log * b = pow_more b log in
    (omega arith, omega arith, λ more. by more (dec_lt 0 n))
  where
    by : width < count → Dec (0 < n) → b ^ (count - 1) ≤ n
    by more (yes positive) =
        let e : log ≡ count - 1 = omega arith in
        let h : b ^ log ≤ n = omega arith in subst (λ (j : ℕ). b ^ j ≤ n) e h
    by more (no zero) =
        let p : b ^ (0 + 1) ≤ b ^ log = pow-le-pow_right (omega arith) (omega arith) in
        let one : b ^ (0 + 1) ≡ 1 * b = rw pow-zero at (pow_more b 0) in
        absurd (omega arith)

digit_count_not_above : (b width n k most : ℕ) → 0 < b → IsDigitCount b width n k → width ≤ most → n < b ^ most → most < k → ⊥
digit_count_not_above b width n k most h fewest within holds over =
    let p : b ^ (k - 1) ≤ n = fewest.2 (omega arith) in
    let q : b ^ most ≤ b ^ (k - 1) = pow-le-pow_right h (omega arith) in
    omega arith

-- where `most` digits hold n, the fewest are no more
pub digit_count_le : (b width n k most : ℕ) → 0 < b → IsDigitCount b width n k → width ≤ most → n < b ^ most → k ≤ most
digit_count_le b width n k most h fewest within holds = le_of_suc-le-suc (lt_of_not-le (digit_count_not_above b width n k most h fewest within holds))

-- and exactly n where n is the width, and n digits hold the number
pub as_wide : (n v k : ℕ) → 1 ≤ n → n ≤ 16 → v < 16 ^ n → IsDigitCount 16 (min (max n 1) 16) v k → k ≡ n
as_wide n v k some most holds fewest = omega (arith, fewest.0, digit_count_le 16 (min (max n 1) 16) v k n (omega arith) fewest (omega arith) holds)
