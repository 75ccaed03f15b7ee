-- Laws of fields one behind the other, of bits packed into bytes, and of the test of equality. Assumes nothing.
use mathlib.Core.Bool.{true, false, true≢false}
use mathlib.Core.List.{List, [], ◌∷◌, ◌++◌, append_assoc}
use mathlib.Core.Path.{◌≡◌, refl, sym, ◌∙◌, ap}
use Prim.Native.Nat.{ℕ, zero, suc, ◌+◌, ◌*◌, ◌≤◌, ◌<◌, ◌^◌}
use native.Mathlib.Decide.{dec_lt}
use native.Mathlib.Numerals.{one-add}
use native.Mathlib.Omega.{arith}
use lib.Dec.{eqb, leb}
use lib.ListN.{length, get_or, take, drop, replicate, length-replicate, length-append, length-take, length-drop, take-append-drop, get_or-eq_default}
use lib.Pointwise.{pointwise}
use lib.Pow.{pow_mono}
use lib.Seq.{take_at, drop_at, drop-cons, get_or-drop}
use borrow.Author.Tests.{eqb-true, leb-true, eq-eqb}
use Rattle.arithmetic.specs.Test.{all_below}
use Rattle.arithmetic.proofs.Test.{both, each, and-false}
use Rattle.words.specs.Parts.{with_part}
use Rattle.bits.specs.Bits.{field, fields, number_of, numbers_in, field_at, bits_of, filling, padded, bytes_in, byte_count, as_bytes, total, equal}
use Rattle.bits.proofs.Fields.{Bits, below_append, length_field, number_field, field_number, field_zero, bits_append, bits_field, bits_part, number_small}
use Rattle.bits.proofs.Bytes.{bits_both, same_bytes, bits_drop}

pub length_fields : (ws vs : List ℕ) → length (fields ws vs) ≡ total ws
unfolding fields total
length_fields [] vs = refl
length_fields (n ∷ ws) vs = simp (length-append, length_field n (get_or vs 0 0), length_fields ws (drop 1 vs))

pub length_numbers : (ws bs : List ℕ) (p : ℕ) → length (numbers_in ws bs p) ≡ length ws
unfolding numbers_in
length_numbers [] bs p = refl
length_numbers (n ∷ ws) bs p = rw (length_numbers ws bs (p + n))

pub bits_fields : (ws vs : List ℕ) → Bits (fields ws vs)
unfolding fields
bits_fields [] vs k = omega arith
bits_fields (n ∷ ws) vs k = bits_append (field n (get_or vs 0 0)) (fields ws (drop 1 vs)) (bits_field n (get_or vs 0 0)) (bits_fields ws (drop 1 vs)) k

-- only as many values are looked at as there are widths
pub fields_same : (ws vs us : List ℕ) → ((k : ℕ) → k < length ws → get_or vs k 0 ≡ get_or us k 0) → fields ws vs ≡ fields ws us
unfolding fields
fields_same [] vs us h = refl
fields_same (n ∷ ws) vs us h =
    let rest : fields ws (drop 1 vs) ≡ fields ws (drop 1 us) = fields_same ws (drop 1 vs) (drop 1 us) (λ k lt. rw (get_or-drop 1 vs k 0, get_or-drop 1 us k 0, one-add k) (h (suc k) (omega arith))) in
    rw (h 0 (omega arith), rest)

-- widths are at most 32, by a test that antt computes
pub short_widths : (ws : List ℕ) → all_below (length ws) (λ k. leb (get_or ws k 0) 32) ≡ true → (k : ℕ) → get_or ws k 0 ≤ 32
short_widths ws t k = by (dec_lt k (length ws))
  where
    by : Dec (k < length ws) → get_or ws k 0 ≤ 32
    by (yes lt) = leb-true (get_or ws k 0) 32 (each (length ws) (λ j. leb (get_or ws j 0) 32) t k lt)
    by (no ge) = rw (get_or-eq_default ws 0 {n = k} (omega arith)) (omega arith)

-- the field of index k, then those behind it
module _ (ws : List ℕ) (k : ℕ) (lt : k < length ws) where
  pub total_next : total (drop k ws) ≡ get_or ws k 0 + total (drop (suc k) ws)
  unfolding total
  total_next = rw (drop-cons ws k 0 lt)

  pub numbers_next : (bs : List ℕ) (p : ℕ) → numbers_in (drop k ws) bs p ≡ field_at bs p (get_or ws k 0) ∷ numbers_in (drop (suc k) ws) bs (p + get_or ws k 0)
  unfolding numbers_in
  numbers_next bs p = rw (drop-cons ws k 0 lt)

-- a field among bits is read
read_at : (bs cs : List ℕ) (n v : ℕ) → v < 2 ^ n → field_at (bs ++ (field n v ++ cs)) (length bs) n ≡ v
read_at bs cs n v h =
    rw (drop_at bs (field n v ++ cs) (length bs) refl, take_at (field n v) cs n (length_field n v)) (number_field n v h)

-- values that fit their widths are read back
pub fields_back : (ws vs pre post : List ℕ) → length ws ≡ length vs → ((k : ℕ) → k < length ws → get_or vs k 0 < 2 ^ get_or ws k 0) → numbers_in ws (pre ++ (fields ws vs ++ post)) (length pre) ≡ vs
unfolding fields numbers_in
fields_back [] [] pre post e h = refl
fields_back [] (v ∷ vs) pre post e h = absurd (omega arith)
fields_back (n ∷ ws) [] pre post e h = absurd (omega arith)
fields_back (n ∷ ws) (v ∷ vs) pre post e h =
    let bs : List ℕ = pre ++ ((field n v ++ fields ws vs) ++ post) in
    let a : bs ≡ pre ++ (field n v ++ (fields ws vs ++ post)) = simp append_assoc in
    let b : bs ≡ (pre ++ field n v) ++ (fields ws vs ++ post) = simp append_assoc in
    let l : length pre + n ≡ length (pre ++ field n v) = omega (arith, length-append pre (field n v), length_field n v) in
    let first : field_at bs (length pre) n ≡ v = rw a (read_at pre (fields ws vs ++ post) n v (h 0 (omega arith))) in
    let rest : numbers_in ws bs (length pre + n) ≡ vs = rw (l, b) (fields_back ws vs (pre ++ field n v) post (omega arith) (λ k lt. h (suc k) (omega arith))) in
    cc

bits_zeros : (n : ℕ) → Bits (replicate n 0)
bits_zeros n k = rw (← field_zero n) (bits_field n 0 k)

pub bits_padded : (bs : List ℕ) → Bits bs → Bits (padded bs)
bits_padded bs h = bits_append bs (replicate (filling (length bs)) 0) h (bits_zeros (filling (length bs)))

bits_rest : (bs : List ℕ) (n : ℕ) → Bits bs → Bits (drop n bs)
bits_rest bs n h k = rw (get_or-drop n bs k 0) (h (n + k))

length_bytes : (n : ℕ) (bs : List ℕ) → length (bytes_in n bs) ≡ n
unfolding bytes_in
length_bytes zero bs = refl
length_bytes (suc n) bs = rw (length_bytes n (drop 8 bs))

length_padded : (bs : List ℕ) → length (padded bs) ≡ 8 * byte_count (length bs)
length_padded bs = omega (arith, length-append bs (replicate (filling (length bs)) 0), length-replicate {A = ℕ} (filling (length bs)) 0)

pub length_as_bytes : (bs : List ℕ) → length (as_bytes bs) ≡ byte_count (length bs)
length_as_bytes bs = length_bytes (byte_count (length bs)) (padded bs)

-- bytes of bits have these bits
bytes_back : (n : ℕ) (bs : List ℕ) → Bits bs → length bs ≡ 8 * n → bits_of (bytes_in n bs) ≡ bs
unfolding bytes_in bits_of
bytes_back zero [] h e = refl
bytes_back zero (b ∷ bs) h e = absurd (omega arith)
bytes_back (suc n) bs h e =
    let l : length (take 8 bs) ≡ 8 = omega (arith, length-take 8 bs) in
    let f : field 8 (number_of (take 8 bs)) ≡ take 8 bs = ap (λ (k : ℕ). field k (number_of (take 8 bs))) (sym l) ∙ field_number (take 8 bs) (bits_part bs 0 8 h) in
    let r : bits_of (bytes_in n (drop 8 bs)) ≡ drop 8 bs = bytes_back n (drop 8 bs) (bits_rest bs 8 h) (omega (arith, length-drop 8 bs)) in
    rw (f, r) (take-append-drop 8 bs)

pub bits_as_bytes : (bs : List ℕ) → Bits bs → bits_of (as_bytes bs) ≡ padded bs
bits_as_bytes bs h = bytes_back (byte_count (length bs)) (padded bs) (bits_padded bs h) (length_padded bs)

bytes_below : (n : ℕ) (bs : List ℕ) → Bits bs → (k : ℕ) → get_or (bytes_in n bs) k 0 < 256
unfolding bytes_in
bytes_below zero bs h k = omega arith
bytes_below (suc n) bs h zero =
    let p : 2 ^ length (take 8 bs) ≤ 2 ^ 8 = pow_mono {j = 8} (omega (arith, length-take 8 bs)) in
    omega (arith, number_small (take 8 bs) (bits_part bs 0 8 h))
bytes_below (suc n) bs h (suc k) = bytes_below n (drop 8 bs) (bits_rest bs 8 h) k

pub bytes_small : (bs : List ℕ) → Bits bs → (k : ℕ) → get_or (as_bytes bs) k 0 < 256
bytes_small bs h = bytes_below (byte_count (length bs)) (padded bs) (bits_padded bs h)

-- bits put in front, with zeros that fill their last byte, are the front's bytes; the bytes behind are kept
pub bytes_put : (old new bs : List ℕ) → Bits bs → ((k : ℕ) → get_or old k 0 < 256) → ((k : ℕ) → get_or new k 0 < 256) → length (as_bytes bs) ≤ length old → bits_of new ≡ with_part (bits_of old) 0 (length (padded bs)) (padded bs) → new ≡ as_bytes bs ++ drop (length (as_bytes bs)) old
bytes_put old new bs h small small' room e =
    let n = length (as_bytes bs) in
    let l : 0 + length (padded bs) ≡ 8 * n = omega (arith, length_padded bs, length_as_bytes bs) in
    let f : bits_of (as_bytes bs ++ drop n old) ≡ padded bs ++ drop (8 * n) (bits_of old) = bits_both (as_bytes bs) (drop n old) ∙ rw (bits_as_bytes bs h, bits_drop old n room) in
    same_bytes new (as_bytes bs ++ drop n old) small' (below_append 256 (as_bytes bs) (drop n old) (bytes_small bs h) (λ k. rw (get_or-drop n old k 0) (small (n + k))))
    (e ∙ rw l (sym f))

pub equal_same : (xs ys : List ℕ) → equal xs ys ≡ true → xs ≡ ys
unfolding equal
equal_same [] [] t = refl
equal_same [] (y ∷ ys) t = absurd (true≢false (sym t))
equal_same (x ∷ xs) [] t = absurd (true≢false (sym t))
equal_same (x ∷ xs) (y ∷ ys) t =
    let a = both (eqb x y) (equal xs ys) t in
    let e : x ≡ y = eqb-true x y a.0 in
    let f : xs ≡ ys = equal_same xs ys a.1 in cc

pub same_equal : (xs : List ℕ) → equal xs xs ≡ true
unfolding equal
same_equal [] = refl
same_equal (x ∷ xs) = rw (eq-eqb x x refl, same_equal xs)

-- lists of different lengths are not equal
pub other_length : (xs ys : List ℕ) → (length xs ≡ length ys → ⊥) → equal xs ys ≡ false
unfolding equal
other_length [] [] h = absurd (h refl)
other_length [] (y ∷ ys) h = refl
other_length (x ∷ xs) [] h = refl
other_length (x ∷ xs) (y ∷ ys) h = rw (other_length xs ys (λ e. h (ap suc e))) (and-false (eqb x y))

-- the library's test of slices
pub equal_pointwise : (xs ys : List ℕ) → pointwise eqb xs ys ≡ equal xs ys
unfolding equal
equal_pointwise [] [] = refl
equal_pointwise [] (y ∷ ys) = refl
equal_pointwise (x ∷ xs) [] = refl
equal_pointwise (x ∷ xs) (y ∷ ys) = rw (equal_pointwise xs ys)
