-- Laws of fields: a field has so many bits, is its number again, and falls apart into fields. Assumes nothing.
use mathlib.Core.List.{List, [], ◌∷◌, ◌++◌, append_assoc, append-nil}
use mathlib.Core.Path.{◌≡◌, refl, sym, ◌∙◌, ap}
use Prim.Native.Nat.{ℕ, zero, suc, ◌+◌, ◌*◌, ◌/◌, ◌%◌, ◌≤◌, ◌<◌, ◌^◌}
use native.Mathlib.Decide.{dec_lt}
use native.Mathlib.Nat.{add-zero, add-suc, add_comm, add_assoc, div-one, zero-div, mod-lt, pow-suc, mul-le-mul_right, le_of_suc-le-suc}
use native.Mathlib.Numerals.{one-add}
use native.Mathlib.Omega.{arith}
use lib.Bits.{block_half, block_odd}
use lib.ListN.{length, get_or, drop, replicate, length-append, length-take, get_or-eq_default}
use lib.Pow.{pow-add, pow_pos, shr-shr, shr_lt, high, split}
use lib.Seq.{take_at, drop_at, drop-drop, get_or-take, get_or-drop}
use Rattle.words.specs.Parts.{part, with_part}
use Rattle.bits.specs.Bits.{field, number_of}

pub length_field : (n v : ℕ) → length (field n v) ≡ n
unfolding field
length_field zero v = refl
length_field (suc n) v = simp (length-append, length_field n (v / 2)) (omega arith)

pub field_none : (v : ℕ) → field 0 v ≡ []
unfolding field
field_none v = refl

pub number_none : number_of [] ≡ 0
unfolding number_of
number_none = refl

-- one bit more behind the others
pub number_more : (bs : List ℕ) (b : ℕ) → number_of (bs ++ (b ∷ [])) ≡ 2 * number_of bs + b
unfolding number_of
number_more [] b = omega arith
number_more (x ∷ bs) b = rw (number_more bs b, length-append bs (b ∷ []), pow-add 2 (length bs) 1) (omega arith)

-- a field is its number
pub number_field : (n v : ℕ) → v < 2 ^ n → number_of (field n v) ≡ v
unfolding field number_of
number_field zero v h = omega arith
number_field (suc n) v h = number_more (field n (v / 2)) (v % 2) ∙ rw (number_field n (v / 2) (omega arith)) (omega arith)

-- the high bits of a field, then the low ones
pub field_parts : (m n v : ℕ) → field (m + n) v ≡ field m (v / 2 ^ n) ++ field n v
unfolding field
field_parts m zero v = rw (add-zero m, div-one v, append-nil)
field_parts m (suc n) v =
    let e : v / 2 / 2 ^ n ≡ v / 2 ^ suc n = shr-shr v 1 n ∙ ap (λ (k : ℕ). v / 2 ^ k) (one-add n) in
    rw (add-suc m n, field_parts m n (v / 2), e, append_assoc)

-- the first bit of a field, then the others
pub field_first : (n v : ℕ) → field (suc n) v ≡ (v / 2 ^ n % 2) ∷ field n v
unfolding field
field_first n v = ap (λ (k : ℕ). field k v) (sym (one-add n)) ∙ field_parts 1 n v

-- only the low bits count
pub field_low : (n a r : ℕ) → field n (a * 2 ^ n + r) ≡ field n r
unfolding field
field_low zero a r = refl
field_low (suc n) a r = rw (block_half a n r, block_odd a n r, field_low n a (r / 2))

pub field_mod : (n v : ℕ) → field n v ≡ field n (v % 2 ^ n)
field_mod n v = ap (field n) (sym (split v n)) ∙ field_low n (v / 2 ^ n) (v % 2 ^ n)

pub number_mod : (n v : ℕ) → number_of (field n v) ≡ v % 2 ^ n
number_mod n v = ap number_of (field_mod n v) ∙ number_field n (v % 2 ^ n) (mod-lt v (pow_pos n))

pub field_zero : (n : ℕ) → field n 0 ≡ replicate n 0
field_zero zero = rw field_none
field_zero (suc n) = rw (field_first n 0, field_zero n, zero-div)

-- all are bits
abbrev pub Bits : List ℕ → Type 0
Bits bs = (k : ℕ) → get_or bs k 0 < 2

-- numbers below a bound, side by side
pub below_append : (n : ℕ) (bs cs : List ℕ) → ((k : ℕ) → get_or bs k 0 < n) → ((k : ℕ) → get_or cs k 0 < n) → (k : ℕ) → get_or (bs ++ cs) k 0 < n
below_append n [] cs h l k = l k
below_append n (b ∷ bs) cs h l zero = h zero
below_append n (b ∷ bs) cs h l (suc k) = below_append n bs cs (λ j. h (suc j)) l k

pub bits_append : (bs cs : List ℕ) → Bits bs → Bits cs → Bits (bs ++ cs)
bits_append bs cs h l = below_append 2 bs cs h l

pub bits_part : (bs : List ℕ) (p n : ℕ) → Bits bs → Bits (part bs p n)
bits_part bs p n h k = by (dec_lt k n)
  where
    by : Dec (k < n) → get_or (part bs p n) k 0 < 2
    by (yes lt) = rw (get_or-take n (drop p bs) k 0 lt, get_or-drop p bs k 0) (h (p + k))
    by (no ge) =
        let l : length (part bs p n) ≤ k = omega (arith, length-take n (drop p bs)) in
        rw (get_or-eq_default (part bs p n) 0 l) (omega arith)

pub bits_field : (n v : ℕ) → Bits (field n v)
bits_field zero v k = rw field_none (omega arith)
bits_field (suc n) v zero = rw (field_first n v) (omega arith)
bits_field (suc n) v (suc k) = rw (field_first n v) (bits_field n v k)

pub number_small : (bs : List ℕ) → Bits bs → number_of bs < 2 ^ length bs
unfolding number_of
number_small [] h = omega arith
number_small (b ∷ bs) h =
    let l : b * 2 ^ length bs ≤ 1 * 2 ^ length bs = mul-le-mul_right (2 ^ length bs) (le_of_suc-le-suc (h zero)) in
    rw (pow-suc 2 (length bs)) (omega (arith, number_small bs (λ k. h (suc k))))

-- bits are the field of their number
pub field_number : (bs : List ℕ) → Bits bs → field (length bs) (number_of bs) ≡ bs
unfolding number_of
field_number [] h = rw field_none
field_number (b ∷ bs) h =
    let small : number_of bs < 2 ^ length bs = number_small bs (λ k. h (suc k)) in
    let e : b % 2 ≡ b = omega (arith, h zero) in
    field_first (length bs) (b * 2 ^ length bs + number_of bs)
    ∙ rw (high b (length bs) small, e, field_low (length bs) b (number_of bs), field_number bs (λ k. h (suc k)))

-- bits side by side
pub number_both : (bs cs : List ℕ) → number_of (bs ++ cs) ≡ number_of bs * 2 ^ length cs + number_of cs
unfolding number_of
number_both [] cs = omega arith
number_both (b ∷ bs) cs = rw (number_both bs cs, length-append bs cs, pow-add 2 (length bs) (length cs)) (omega arith)

-- v with x in place of the m bits that have c bits behind them
abbrev pub with_bits : ℕ → ℕ → ℕ → ℕ → ℕ
with_bits m c v x = (v / 2 ^ c / 2 ^ m * 2 ^ m + x) * 2 ^ c + v % 2 ^ c

-- m bits of a field of v, with j bits before them and c behind
module _ (j m c v : ℕ) where
  front : length (field j (v / 2 ^ (m + c))) ≡ j
  front = length_field j (v / 2 ^ (m + c))

  three : field (j + (m + c)) v ≡ field j (v / 2 ^ (m + c)) ++ (field m (v / 2 ^ c) ++ field c v)
  three = rw (field_parts j (m + c) v, field_parts m c v)

  pub field_part : part (field (j + (m + c)) v) j m ≡ field m (v / 2 ^ c)
  field_part =
      rw (three, drop_at (field j (v / 2 ^ (m + c))) (field m (v / 2 ^ c) ++ field c v) j front)
      (take_at (field m (v / 2 ^ c)) (field c v) m (length_field m (v / 2 ^ c)))

-- x in place of them
module _ (j m c v x : ℕ) (fits : x < 2 ^ m) where
  low : v % 2 ^ c < 2 ^ c
  low = mod-lt v (pow_pos c)

  from_part : with_bits m c v x / 2 ^ c ≡ v / 2 ^ c / 2 ^ m * 2 ^ m + x
  from_part = high (v / 2 ^ c / 2 ^ m * 2 ^ m + x) c low

  twice : (u : ℕ) → u / 2 ^ (m + c) ≡ u / 2 ^ c / 2 ^ m
  twice u = sym (shr-shr u c m ∙ ap (λ (k : ℕ). u / 2 ^ k) (add_comm c m))

  before : with_bits m c v x / 2 ^ (m + c) ≡ v / 2 ^ (m + c)
  before = rw (twice (with_bits m c v x), twice v, from_part) (high (v / 2 ^ c / 2 ^ m) m fits)

  here : field m (with_bits m c v x / 2 ^ c) ≡ field m x
  here = rw from_part (field_low m (v / 2 ^ c / 2 ^ m) x)

  behind : field c (with_bits m c v x) ≡ field c v
  behind = field_low c (v / 2 ^ c / 2 ^ m * 2 ^ m + x) (v % 2 ^ c) ∙ sym (field_mod c v)

  pub field_with : field (j + (m + c)) (with_bits m c v x) ≡ with_part (field (j + (m + c)) v) j m (field m x)
  field_with =
      let f = field j (v / 2 ^ (m + c)) in
      let g = field m (v / 2 ^ c) in
      rw (three j m c (with_bits m c v x), before, here, behind, three j m c v, take_at f (g ++ field c v) j (front j m c v), ← drop-drop m j (f ++ (g ++ field c v)), drop_at f (g ++ field c v) j (front j m c v), drop_at g (field c v) m (length_field m (v / 2 ^ c)))

  pub small_with : v < 2 ^ (j + (m + c)) → with_bits m c v x < 2 ^ (j + (m + c))
  small_with h =
      let q : v / 2 ^ c / 2 ^ m < 2 ^ j = rw (twice v) at (shr_lt j (m + c) h) in
      let p : 2 ^ (j + (m + c)) ≡ 2 ^ j * 2 ^ m * 2 ^ c = ap (λ (k : ℕ). 2 ^ k) (sym (add_assoc j m c)) ∙ pow-add 2 (j + m) c ∙ ap (λ (k : ℕ). k * 2 ^ c) (pow-add 2 j m) in
      let a : (v / 2 ^ c / 2 ^ m + 1) * 2 ^ m ≤ 2 ^ j * 2 ^ m = mul-le-mul_right (2 ^ m) (omega arith) in
      let b : (v / 2 ^ c / 2 ^ m * 2 ^ m + x + 1) * 2 ^ c ≤ 2 ^ j * 2 ^ m * 2 ^ c = mul-le-mul_right (2 ^ c) (omega arith) in
      rw p (omega (arith, low))
