-- Laws of runs of bits that are read and put part after part. Assumes nothing.
use mathlib.Core.List.{List, ◌++◌, append_assoc}
use mathlib.Core.Path.{◌≡◌, sym, ◌∙◌, ap}
use Prim.Native.Nat.{ℕ, ◌+◌, ◌*◌, ◌/◌, ◌≤◌, ◌<◌, ◌^◌}
use native.Mathlib.Nat.{add-zero, add_assoc}
use native.Mathlib.Omega.{arith}
use lib.ListN.{length, take, drop, length-append, take-append-drop}
use lib.Seq.{take-add, take_at, drop-drop, drop-append-add, length-take-le}
use Rattle.words.specs.Parts.{part, with_part}
use Rattle.words.proofs.Parts.{length_part, part_same, part_other}
use Rattle.bits.specs.Bits.{field, number_of, field_at}
use Rattle.bits.proofs.Fields.{Bits, bits_part, number_small, number_both, field_none, field_parts, length_field, number_field}

pub part_small : (m : List ℕ) (p k : ℕ) → Bits m → p + k ≤ length m → number_of (part m p k) < 2 ^ k
part_small m p k bits fits = rw (length_part m p k fits) at (number_small (part m p k) (bits_part m p k bits))

-- k bits more are read
pub part_more : (m : List ℕ) (p j k : ℕ) → p + j + k ≤ length m → number_of (part m p (j + k)) ≡ number_of (part m p j) * 2 ^ k + number_of (part m (p + j) k)
part_more m p j k fits =
    rw (take-add j k (drop p m), drop-drop j p m, number_both (part m p j) (part m (p + j) k), length_part m (p + j) k fits)

-- j bits are put, then k behind them
pub put_then : (m xs ys : List ℕ) (p j k : ℕ) → p + j ≤ length m → length xs ≡ j → with_part (with_part m p j xs) (p + j) k ys ≡ with_part m p (j + k) (xs ++ ys)
put_then m xs ys p j k fits long =
    let a = take p m ++ xs in
    let r = drop (p + j) m in
    let len : length a ≡ p + j = omega (arith, length-append (take p m) xs, length-take-le p m (omega arith)) in
    let d : drop (p + j + k) (a ++ r) ≡ drop (p + (j + k)) m = ap (λ (n : ℕ). drop (n + k) (a ++ r)) (sym len) ∙ drop-append-add a r k ∙ drop-drop k (p + j) m ∙ ap (λ (n : ℕ). drop n m) (add_assoc p j k) in
    rw (← append_assoc (take p m) xs r, take_at a r (p + j) len, d) (simp append_assoc)

-- j bits of a field are put, and k behind them are left to put
pub put_more : (m : List ℕ) (p j k v : ℕ) → p + j ≤ length m → with_part (with_part m p j (field j (v / 2 ^ k))) (p + j) k (field k v) ≡ with_part m p (j + k) (field (j + k) v)
put_more m p j k v fits = put_then m (field j (v / 2 ^ k)) (field k v) p j k fits (length_field j (v / 2 ^ k)) ∙ rw (field_parts j k v)

-- none is left to put
pub put_none : (m : List ℕ) (p v : ℕ) → with_part m p 0 (field 0 v) ≡ m
put_none m p v = rw (field_none v, add-zero p) (take-append-drop p m)

-- n bits of m from p on: a field that is put there is read back, and fields that lie elsewhere are kept
module _ (m : List ℕ) (p n : ℕ) (fits : p + n ≤ length m) (v : ℕ) where
  pub put_read : v < 2 ^ n → field_at (with_part m p n (field n v)) p n ≡ v
  put_read small = ap number_of (part_same m (field n v) p n (length_field n v) fits) ∙ number_field n v small

  pub put_apart : (q k : ℕ) → ((j : ℕ) → q ≤ j → j < q + k → p ≤ j → j < p + n → ⊥) → field_at (with_part m p n (field n v)) q k ≡ field_at m q k
  put_apart q k apart = ap number_of (part_other m (field n v) p n (length_field n v) fits q k apart)
