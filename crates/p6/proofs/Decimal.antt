-- Laws of a number's decimal digits: the last one and those before it, and how many there are. Assumes nothing.
use mathlib.Core.Bool.{Bool, true, false, cond}
use mathlib.Core.List.{List, [], ◌∷◌, ◌++◌, append_assoc}
use mathlib.Core.Path.{◌≡◌, refl, sym, ap, ◌∙◌}
use Prim.Native.Nat.{ℕ, zero, suc, ◌+◌, ◌/◌, ◌%◌, ◌^◌, ◌≤◌, ◌<◌}
use native.Mathlib.Nat.{pow-suc}
use native.Mathlib.Decide.{dec_lt}
use native.Mathlib.Omega.{arith}
use lib.Dec.{ltb}
use lib.ListN.{length, length-append}
use borrow.Author.Tests.{ltb-false, lt-ltb, le-ltb}
use Rattle.std.specs.Fmt as text
use Rattle.std.proofs.lemmas.Fmt.{AppendsLastDigit, decimal_from_appends, length-decimal-le_succ}
use Rattle.p6.specs.P6.{digits, decimal, header}
use Rattle.p6.specs.Inner.{put}
use Rattle.p6.proofs.Put.{put_behind}

-- any bound from n on gives the same digits
digits_same : (k j n : ℕ) → n ≤ k → n ≤ j → digits k n ≡ digits j n
unfolding digits
digits_same zero zero n h g = refl
digits_same zero (suc j) n h g = rw (lt-ltb n 10 (omega arith))
digits_same (suc k) zero n h g = rw (lt-ltb n 10 (omega arith))
digits_same (suc k) (suc j) n h g = by (digits_same k j (n / 10)) (ltb n 10) refl
  where
    by : (n / 10 ≤ k → n / 10 ≤ j → digits k (n / 10) ≡ digits j (n / 10)) → (b : Bool) → ltb n 10 ≡ b
        → cond b [] (digits k (n / 10)) ++ ((48 + n % 10) ∷ []) ≡ cond b [] (digits j (n / 10)) ++ ((48 + n % 10) ∷ [])
    by f true e = refl
    by f false e =
        let s : 10 ≤ n = ltb-false n 10 e in
        ap (λ (l : List ℕ). l ++ ((48 + n % 10) ∷ [])) (f (omega arith) (omega arith))

pub decimal_one : (n : ℕ) → n < 10 → decimal n ≡ (48 + n % 10) ∷ []
unfolding digits
decimal_one zero h = refl
decimal_one (suc n) h = rw (lt-ltb (suc n) 10 h)

pub decimal_more : (n : ℕ) → 10 ≤ n → decimal n ≡ decimal (n / 10) ++ ((48 + n % 10) ∷ [])
unfolding digits
decimal_more zero h = absurd (omega arith)
decimal_more (suc n) h =
    rw (le-ltb (suc n) 10 h) (ap (λ (l : List ℕ). l ++ ((48 + suc n % 10) ∷ [])) (digits_same n (suc n / 10) (suc n / 10) (omega arith) (omega arith)))

-- the number of digits
pub length_one : (n : ℕ) → n < 10 → length (decimal n) ≡ 1
length_one n h = ap length (decimal_one n h)

pub length_more : (n : ℕ) → 10 ≤ n → length (decimal n) ≡ length (decimal (n / 10)) + 1
length_more n h = ap length (decimal_more n h) ∙ length-append (decimal (n / 10)) ((48 + n % 10) ∷ [])

-- at most k below 10 to the power k
pub few_digits : (k n : ℕ) → n < 10 ^ suc k → length (decimal n) ≤ suc k
few_digits zero n h = omega (arith, length_one n h)
few_digits (suc k) n h = by (few_digits k (n / 10) (omega (arith, pow-suc 10 (suc k)))) (dec_lt n 10)
  where
    by : length (decimal (n / 10)) ≤ suc k → Dec (n < 10) → length (decimal n) ≤ suc (suc k)
    by f (yes a) = omega (arith, length_one n a)
    by f (no a) = omega (arith, length_more n (omega arith))

-- what the library writes of a number
appends : AppendsLastDigit digits
unfolding digits
appends = record {
  one = λ k n h. let last : 48 + n % 10 ≡ 48 + n = omega arith in rw (lt-ltb n 10 h, last);
  more = λ k n h. rw (le-ltb n 10 h);
}

pub decimal_written : (n : ℕ) → n < 2 ^ 32 → text.decimal n ≡ decimal n
decimal_written n h =
    sym (decimal_from_appends digits appends (n + 1) n (omega arith) (length-decimal-le_succ n (omega arith))) ∙ digits_same (n + 1) n n (omega arith) (omega arith)

-- ---- the header

pub length_header : (w h : ℕ) → length (header w h) ≡ 9 + length (decimal w) + length (decimal h)
unfolding header
length_header w h = simp length-append (omega arith)

-- at most 29 bytes for sides of 32 bits
pub header_few : (w h : ℕ) → w < 10 ^ 10 → h < 10 ^ 10 → length (header w h) ≤ 29
header_few w h a b = omega (arith, length_header w h, few_digits 9 w a, few_digits 9 h b)

-- its five pieces, one after the other
pub put_pieces : (m : List ℕ) (w h : ℕ) {l₁ l₂ l₃ l₄ l₅ : List ℕ} (a₁ a₂ a₃ a₄ : ℕ) → length (header w h) ≤ length m
    → l₁ ≡ put m 0 (80 ∷ 54 ∷ 10 ∷ []) → a₁ ≡ 0 + 3
    → l₂ ≡ put l₁ a₁ (decimal w) → a₂ ≡ a₁ + length (decimal w)
    → l₃ ≡ put l₂ a₂ (32 ∷ []) → a₃ ≡ a₂ + 1
    → l₄ ≡ put l₃ a₃ (decimal h) → a₄ ≡ a₃ + length (decimal h)
    → l₅ ≡ put l₄ a₄ (10 ∷ 50 ∷ 53 ∷ 53 ∷ 10 ∷ [])
    → l₅ ≡ put m 0 (header w h)
unfolding header
put_pieces m w h a₁ a₂ a₃ a₄ fits e₁ i₁ e₂ i₂ e₃ i₃ e₄ i₄ e₅ =
    let magic : List ℕ = 80 ∷ 54 ∷ 10 ∷ [] in
    let wide : List ℕ = magic ++ decimal w in
    let space : List ℕ = wide ++ (32 ∷ []) in
    let high : List ℕ = space ++ decimal h in
    let len = length_header w h in
    let p₂ : length wide ≡ 3 + length (decimal w) = length-append magic (decimal w) in
    let p₃ : length space ≡ 4 + length (decimal w) = length-append wide (32 ∷ []) ∙ omega arith in
    let p₄ : length high ≡ 4 + length (decimal w) + length (decimal h) = length-append space (decimal h) ∙ omega arith in
    let s₂ = put_behind m magic (decimal w) a₁ (omega arith) e₁ e₂ (omega arith) in
    let s₃ = put_behind m wide (32 ∷ []) a₂ (omega arith) s₂ e₃ (omega arith) in
    let s₄ = put_behind m space (decimal h) a₃ (omega arith) s₃ e₄ (omega arith) in
    let s₅ = put_behind m high (10 ∷ 50 ∷ 53 ∷ 53 ∷ 10 ∷ []) a₄ (omega arith) s₄ e₅ (omega arith) in
    let same : high ++ (10 ∷ 50 ∷ 53 ∷ 53 ∷ 10 ∷ []) ≡ header w h = simp append_assoc in
    s₅ ∙ ap (put m 0) same
