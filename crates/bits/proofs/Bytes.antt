-- Laws of the bits of bytes: eight to a byte, of the bytes in order; they determine the bytes. Assumes nothing.
use mathlib.Core.List.{List, [], ◌∷◌, ◌++◌, append_assoc}
use mathlib.Core.Path.{◌≡◌, refl, sym, ◌∙◌, ap}
use Prim.Native.Nat.{ℕ, suc, ◌+◌, ◌*◌, ◌/◌, ◌%◌, ◌≤◌, ◌<◌, ◌^◌}
use native.Mathlib.Nat.{add_assoc}
use native.Mathlib.Omega.{arith}
use lib.ListN.{length, get_or, set, take, drop, length-append, length-drop, take-append-drop}
use lib.Seq.{split_at, set_split, length-take-le, take-append-le, drop-append-le, take-append-add, drop-append-add, take_at, drop_at}
use Rattle.words.specs.Parts.{part, with_part}
use Rattle.bits.specs.Bits.{field, number_of, bits_of}
use Rattle.bits.proofs.Fields.{Bits, length_field, number_field, with_bits, field_part, field_with, small_with, bits_append, bits_field}

pub length_bits : (xs : List ℕ) → length (bits_of xs) ≡ 8 * length xs
unfolding bits_of
length_bits [] = refl
length_bits (x ∷ xs) = simp (length-append, length_field 8 x, length_bits xs) (omega arith)

pub bits_of_bytes : (xs : List ℕ) → Bits (bits_of xs)
unfolding bits_of
bits_of_bytes [] k = omega arith
bits_of_bytes (x ∷ xs) k = bits_append (field 8 x) (bits_of xs) (bits_field 8 x) (bits_of_bytes xs) k

pub bits_both : (xs ys : List ℕ) → bits_of (xs ++ ys) ≡ bits_of xs ++ bits_of ys
unfolding bits_of
bits_both [] ys = refl
bits_both (x ∷ xs) ys = rw (bits_both xs ys, append_assoc)

-- the bits of the bytes from k on
module _ (xs : List ℕ) (k : ℕ) (le : k ≤ length xs) where
  front : length (bits_of (take k xs)) ≡ 8 * k
  front = length_bits (take k xs) ∙ ap (λ (n : ℕ). 8 * n) (length-take-le k xs le)

  parts : bits_of xs ≡ bits_of (take k xs) ++ bits_of (drop k xs)
  parts = ap bits_of (sym (take-append-drop k xs)) ∙ bits_both (take k xs) (drop k xs)

  pub bits_drop : drop (8 * k) (bits_of xs) ≡ bits_of (drop k xs)
  bits_drop = rw parts (drop_at (bits_of (take k xs)) (bits_of (drop k xs)) (8 * k) front)

first : (x : ℕ) (xs : List ℕ) → take 8 (bits_of (x ∷ xs)) ≡ field 8 x
unfolding bits_of
first x xs = take_at (field 8 x) (bits_of xs) 8 (length_field 8 x)

rest : (x : ℕ) (xs : List ℕ) → drop 8 (bits_of (x ∷ xs)) ≡ bits_of xs
unfolding bits_of
rest x xs = drop_at (field 8 x) (bits_of xs) 8 (length_field 8 x)

-- bytes of equal bits are equal
pub same_bytes : (xs ys : List ℕ) → ((k : ℕ) → get_or xs k 0 < 256) → ((k : ℕ) → get_or ys k 0 < 256) → bits_of xs ≡ bits_of ys → xs ≡ ys
same_bytes [] [] h l e = refl
same_bytes [] (y ∷ ys) h l e = absurd (omega (arith, ap length e, length_bits (y ∷ ys), length_bits []))
same_bytes (x ∷ xs) [] h l e = absurd (omega (arith, ap length e, length_bits (x ∷ xs), length_bits []))
same_bytes (x ∷ xs) (y ∷ ys) h l e =
    let f : field 8 x ≡ field 8 y = sym (first x xs) ∙ ap (take 8) e ∙ first y ys in
    let g : x ≡ y = sym (number_field 8 x (h 0)) ∙ ap number_of f ∙ number_field 8 y (l 0) in
    let r : bits_of xs ≡ bits_of ys = sym (rest x xs) ∙ ap (drop 8) e ∙ rest y ys in
    let t : xs ≡ ys = same_bytes xs ys (λ k. h (suc k)) (λ k. l (suc k)) r in cc

-- bits put inside a part
put_inside : (a f b xs : List ℕ) (o m : ℕ) → o + m ≤ length f → with_part (a ++ (f ++ b)) (length a + o) m xs ≡ a ++ (with_part f o m xs ++ b)
put_inside a f b xs o m fits =
    rw (take-append-add a (f ++ b) o, take-append-le o f b (omega arith), add_assoc (length a) o m, drop-append-add a (f ++ b) (o + m), drop-append-le (o + m) f b fits)
    (simp append_assoc)

-- m bits from bit `at` on that lie in one byte, with c bits behind them there
module _ (xs : List ℕ) (at m c : ℕ) (lt : at < 8 * length xs) (eight : 8 ≡ at % 8 + (m + c)) where
  abbrev i : ℕ
  i = at / 8

  abbrev x : ℕ
  x = get_or xs (at / 8) 0

  abbrev before : List ℕ
  before = bits_of (take i xs)

  abbrev after : List ℕ
  after = bits_of (drop (suc i) xs)

  around : (y : ℕ) → bits_of (take i xs ++ y ∷ drop (suc i) xs) ≡ before ++ (field 8 y ++ after)
  unfolding bits_of
  around y = bits_both (take i xs) (y ∷ drop (suc i) xs)

  whole : bits_of xs ≡ before ++ (field 8 x ++ after)
  whole = ap bits_of (split_at xs i 0 (omega arith)) ∙ around x

  place : at ≡ length before + at % 8
  place = omega (arith, front xs i (omega arith))

  pub part_of : part (bits_of xs) at m ≡ field m (get_or xs (at / 8) 0 / 2 ^ c)
  part_of =
      ap (λ (k : ℕ). part (bits_of xs) k m) place
      ∙ ap (λ (bs : List ℕ). part bs (length before + at % 8) m) whole
      ∙ rw (drop-append-add before (field 8 x ++ after) (at % 8), drop-append-le (at % 8) (field 8 x) after (omega (arith, length_field 8 x)), take-append-le m (drop (at % 8) (field 8 x)) after (omega (arith, length-drop (at % 8) (field 8 x), length_field 8 x)))
      (ap (λ (n : ℕ). part (field n x) (at % 8) m) eight ∙ field_part (at % 8) m c x)

  pub part_with : (v : ℕ) → v < 2 ^ m → bits_of (set xs (at / 8) (with_bits m c (get_or xs (at / 8) 0) v)) ≡ with_part (bits_of xs) at m (field m v)
  part_with v fits =
      let y = with_bits m c x v in
      let f : field 8 y ≡ with_part (field 8 x) (at % 8) m (field m v) = ap (λ (n : ℕ). field n y) eight ∙ field_with (at % 8) m c x v fits ∙ ap (λ (n : ℕ). with_part (field n x) (at % 8) m (field m v)) (sym eight) in
      ap bits_of (set_split xs i y (omega arith)) ∙ around y
      ∙ ap (λ (bs : List ℕ). before ++ (bs ++ after)) f
      ∙ sym (put_inside before (field 8 x) after (field m v) (at % 8) m (omega (arith, length_field 8 x)))
      ∙ ap (λ (k : ℕ). with_part (before ++ (field 8 x ++ after)) k m (field m v)) (sym place)
      ∙ ap (λ (bs : List ℕ). with_part bs at m (field m v)) (sym whole)

  pub byte_with : (v : ℕ) → v < 2 ^ m → get_or xs (at / 8) 0 < 256 → with_bits m c (get_or xs (at / 8) 0) v < 256
  byte_with v fits h = rw (ap (λ (n : ℕ). 2 ^ n) (sym eight)) at (small_with (at % 8) m c x v fits (rw (ap (λ (n : ℕ). 2 ^ n) eight) at h))
