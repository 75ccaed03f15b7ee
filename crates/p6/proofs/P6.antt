-- Reading back a picture that was written gives its sides, 255 and its samples. Assumes nothing.
use mathlib.Core.Bool.{Bool, true, false, cond}
use mathlib.Core.List.{List, [], ◌∷◌, ◌++◌, append_assoc}
use mathlib.Core.Path.{◌≡◌, refl, ◌∙◌, ap}
use Prim.Native.Nat.{ℕ, zero, suc, ◌+◌, ◌*◌, ◌/◌, ◌%◌, ◌≤◌, ◌<◌}
use native.Mathlib.Omega.{arith}
use lib.Dec.{ltb}
use lib.ListN.{length}
use borrow.Author.Tests.{leb-true, ltb-true, ltb-false, le-leb, lt-leb, eq-eqb, ne_eqb}
use Rattle.arithmetic.proofs.Test.{both, together}
use Rattle.p6.specs.P6.{digits, decimal, header, p6}
use Rattle.p6.specs.Reader.{Picture, picture, is_space, is_digit, first, past_space, whitespace, one_space, more_digits, number, raster, read}

digit_yes : (d : ℕ) → d < 10 → is_digit (48 + d) ≡ true
digit_yes d h = together (le-leb 48 (48 + d) (omega arith)) (le-leb (48 + d) 57 (omega arith))

-- a digit is no white space
not_space : (b : ℕ) → is_digit b ≡ true → is_space b ≡ false
not_space b e =
    let h = leb-true 48 b (both _ _ e).0 in
    rw (le-leb 9 b (omega arith), lt-leb b 13 (omega arith), ne_eqb b 32 (λ u. omega arith))

-- a number begins with a digit
pub first_digit : (k n : ℕ) (t : List ℕ) → first is_digit (digits k n ++ t) ≡ true
unfolding digits
first_digit zero n t = digit_yes (n % 10) (omega arith)
first_digit (suc k) n t = by (first_digit k (n / 10) (((48 + n % 10) ∷ []) ++ t)) (ltb n 10)
  where
    by : first is_digit (digits k (n / 10) ++ (((48 + n % 10) ∷ []) ++ t)) ≡ true → (b : Bool) → first is_digit ((cond b [] (digits k (n / 10)) ++ ((48 + n % 10) ∷ [])) ++ t) ≡ true
    by h true = digit_yes (n % 10) (omega arith)
    by h false = rw append_assoc h

module _ (K : ℕ → List ℕ → Picture) where
  one_digit : (a d : ℕ) (t : List ℕ) → d < 10 → more_digits K a ((48 + d) ∷ t) ≡ more_digits K (10 * a + d) t
  unfolding more_digits
  one_digit a d t h = rw (digit_yes d h) (ap (λ (x : ℕ). more_digits K (10 * a + x) t) (omega arith))

  -- the digits of n are read as n
  read_digits : (k n : ℕ) (t : List ℕ) → n ≤ k → more_digits K 0 (digits k n ++ t) ≡ more_digits K n t
  unfolding digits
  read_digits zero n t h = one_digit 0 (n % 10) t (omega arith) ∙ ap (λ (x : ℕ). more_digits K x t) (omega arith)
  read_digits (suc k) n t h = by (λ u. read_digits k (n / 10) (((48 + n % 10) ∷ []) ++ t) u) (ltb n 10) refl
    where
      by : (n / 10 ≤ k → more_digits K 0 (digits k (n / 10) ++ (((48 + n % 10) ∷ []) ++ t)) ≡ more_digits K (n / 10) (((48 + n % 10) ∷ []) ++ t)) → (b : Bool) → ltb n 10 ≡ b → more_digits K 0 ((cond b [] (digits k (n / 10)) ++ ((48 + n % 10) ∷ [])) ++ t) ≡ more_digits K n t
      by f true e =
          let s : n < 10 = ltb-true n 10 e in
          one_digit 0 (n % 10) t (omega arith) ∙ ap (λ (x : ℕ). more_digits K x t) (omega arith)
      by f false e =
          let s : 10 ≤ n = ltb-false n 10 e in
          rw append_assoc (f (omega arith) ∙ one_digit (n / 10) (n % 10) t (omega arith) ∙ ap (λ (x : ℕ). more_digits K x t) (omega arith))

  -- a number is read up to the first byte that is no digit
  read_number : (n b : ℕ) (t : List ℕ) → is_digit b ≡ false → number K (decimal n ++ (b ∷ t)) ≡ K n (b ∷ t)
  unfolding more_digits
  read_number n b t e = rw (first_digit n n (b ∷ t), read_digits n n (b ∷ t) (omega arith), e)

-- white space is read up to the first digit
read_space : (K : List ℕ → Picture) (b : ℕ) (s : List ℕ) → is_space b ≡ true → first is_digit s ≡ true → whitespace K (b ∷ s) ≡ K s
unfolding past_space
read_space K b [] e f = let z : ◌≡◌ {A = ℕ} 0 1 = cc in absurd (omega arith)
read_space K b (d ∷ s) e f = rw (e, not_space d f)

p6_parts : (w h : ℕ) (x : List ℕ) → p6 w h x ≡ 80 ∷ 54 ∷ 10 ∷ (decimal w ++ (32 ∷ (decimal h ++ (10 ∷ 50 ∷ 53 ∷ 53 ∷ 10 ∷ x))))
unfolding header
p6_parts w h x = simp append_assoc

-- maxval, and the bytes after it
read_rest : (w h : ℕ) (x : List ℕ) → length x ≡ 3 * (w * h) → whitespace (number λ maxval. one_space (raster w h maxval)) (10 ∷ 50 ∷ 53 ∷ 53 ∷ 10 ∷ x) ≡ picture w h 255 x
unfolding past_space more_digits
read_rest w h x e = rw (eq-eqb (length x) (3 * (w * h)) e)

pub read_back : (w h : ℕ) (x : List ℕ) → length x ≡ 3 * (w * h) → read (p6 w h x) ≡ picture w h 255 x
read_back w h x e =
    let end : List ℕ = 10 ∷ 50 ∷ 53 ∷ 53 ∷ 10 ∷ x in
    let third : ℕ → ℕ → List ℕ → Picture = λ v u. whitespace (number λ maxval. one_space (raster v u maxval)) in
    let second : ℕ → List ℕ → Picture = λ v. whitespace (number (third v)) in
    ap read (p6_parts w h x)
    ∙ read_space (number second) 10 (decimal w ++ (32 ∷ (decimal h ++ end))) refl (first_digit w w (32 ∷ (decimal h ++ end)))
    ∙ read_number second w 32 (decimal h ++ end) refl
    ∙ read_space (number (third w)) 32 (decimal h ++ end) refl (first_digit h h end)
    ∙ read_number (third w) h 10 (50 ∷ 53 ∷ 53 ∷ 10 ∷ x) refl
    ∙ read_rest w h x e
