-- A line behind which a signed number is added: its sign, if it has one, and its magnitude. Assumes nothing.
use Rattle.std.proofs.Common.{◌≡◌, ℕ, ◌-◌, ◌≤◌, ◌^◌, true, false, List, [], ◌∷◌, ◌++◌, length, ℤ, pos, negsuc, nat_abs, refl, ap, ◌∙◌, append_assoc, arith}
use lib.Signed.{lt_z}
use borrow.Author.Tests.{ltb-true}
use Rattle.output.specs.Digits.{last_digits, IsDigitCount}
use Rattle.output.specs.Lines.{Added, DecimalAdded, sign, SignedAdded}
use Rattle.output.proofs.Powers.{digit_count_le}

sign_below : (z : ℤ) → lt_z z (pos 0) ≡ true → sign z ≡ 45 ∷ []
sign_below (pos n) e = absurd (omega (arith, ltb-true n 0 e))
sign_below (negsuc n) e = refl

sign_above : (z : ℤ) → lt_z z (pos 0) ≡ false → sign z ≡ []
sign_above (pos n) e = refl
sign_above (negsuc n) e = absurd (cc)

-- the magnitude of a number of 32 bits has ten digits at most
ten_digits : (v k : ℕ) → v ≤ 2 ^ 31 → IsDigitCount 10 1 v k → k ≤ 10
ten_digits v k small few = digit_count_le 10 1 v k 10 (omega arith) few (omega arith) (omega arith)

module _ {l r : List ℕ} {z : ℤ} {v : ℕ} (magnitude : v ≡ nat_abs z) (small : v ≤ 2 ^ 31) where
  pub plain_added : lt_z z (pos 0) ≡ false → DecimalAdded l v r → SignedAdded l z r
  plain_added e d =
      record {
        most = omega (arith, d.some, ten_digits v _ small d.fewest);
        count = length r - length l;
        fewest = rw magnitude at d.fewest;
        text = rw (sign_above z e, ← magnitude) d.text;
      }

  pub minus_added : {m : List ℕ} → lt_z z (pos 0) ≡ true → Added l 1 (45 ∷ []) m → DecimalAdded m v r → SignedAdded l z r
  minus_added {m} e a d =
      record {
        most = omega (arith, a.len, d.some, ten_digits v _ small d.fewest);
        count = length r - length m;
        fewest = rw magnitude at d.fewest;
        text = rw (sign_below z e, ← magnitude) (d.text ∙ ap (λ (x : List ℕ). x ++ last_digits 10 (length r - length m) v) a.text ∙ append_assoc l (45 ∷ []) _);
      }
