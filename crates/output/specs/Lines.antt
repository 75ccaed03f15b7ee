-- What is added to a line: clauses see a line as the list of its characters.
use Rattle.std.specs.Prelude.{List, [], ◌∷◌, ◌++◌, ◌≡◌, ℕ, ◌+◌, ◌-◌, ◌≤◌, ◌<◌, ℤ, pos, negsuc, nat_abs, length}
use Rattle.output.specs.Digits.{last_digits, IsDigitCount}

-- r is l with the n characters t behind it
pub record Added (l : List ℕ) (n : ℕ) (t r : List ℕ) : Type 0 where
  pub len : length r ≡ length l + n
  pub text : r ≡ l ++ t

-- r is l with v behind it, in the fewest decimal digits: 1 to 20 of them
pub record DecimalAdded (l : List ℕ) (v : ℕ) (r : List ℕ) : Type 0 where
  pub some : length l < length r
  pub most : length r ≤ length l + 20
  pub fewest : IsDigitCount 10 1 v (length r - length l)
  pub text : r ≡ l ++ last_digits 10 (length r - length l) v

-- a minus before a negative number
abbrev pub sign : ℤ → List ℕ
sign (pos n) = []
sign (negsuc n) = 45 ∷ []

-- r is l with z behind it: its sign, and its magnitude in the fewest decimal digits; 32 bits have at most 10 of them
pub record SignedAdded (l : List ℕ) (z : ℤ) (r : List ℕ) : Type 0 where
  pub most : length r ≤ length l + 11
  pub count : ℕ
  pub fewest : IsDigitCount 10 1 (nat_abs z) count
  pub text : r ≡ l ++ (sign z ++ last_digits 10 count (nat_abs z))
