-- Laws of bits put one run behind the other. Assumes nothing.
use mathlib.Core.List.{List, [], ◌++◌}
use mathlib.Core.Path.{◌≡◌, refl, sym, ◌∙◌, ap}
use Prim.Native.Nat.{ℕ, ◌+◌, ◌*◌, ◌≤◌}
use native.Mathlib.Nat.{add-zero}
use native.Mathlib.Omega.{arith}
use lib.ListN.{length, get_or, length-append, take-append-drop, replicate, length-replicate}
use Rattle.words.specs.Parts.{with_part}
use Rattle.bits.specs.Bits.{bits_of, field, fields, filling, total}
use Rattle.bits.specs.Inner.{FieldsFit}
use Rattle.bits.proofs.Fields.{field_zero}
use Rattle.bits.proofs.Bytes.{length_bits}
use Rattle.bits.proofs.Lists.{length_fields}
use Rattle.bits.proofs.Runs.{put_then}
use Rattle.pack.specs.Inner.{Room, Put}

-- fields that are these bits
module _ (ws vs : List ℕ) {bs : List ℕ} (e : fields ws vs ≡ bs) where
  pub length_as : length bs ≡ total ws
  length_as = sym (ap length e) ∙ length_fields ws vs

  -- what their writer asks
  pub room_fields : {m : List ℕ} {at : ℕ} → Room m at bs → ((k : ℕ) → get_or ws k 0 ≤ 32) → FieldsFit m at ws
  room_fields r short = record { inside = omega (arith, r.inside, length_as); counted = omega (arith, r.counted, length_as); short = short }

  -- what it did
  pub put_as : {m m' : List ℕ} {at r : ℕ} → r ≡ at + total ws → bits_of m' ≡ with_part (bits_of m) at (total ws) (fields ws vs) → Put m at bs r m'
  put_as {m} {m'} {at} behind put =
      record {
        bits = rw (length_as) (put ∙ ap (λ (xs : List ℕ). with_part (bits_of m) at (total ws) xs) e);
        behind = omega (arith, behind, length_as);
      }

-- bits put behind those
pub put_both : {m m' m'' : List ℕ} {at r r' : ℕ} {xs ys : List ℕ} → Put m at xs r m' → Put m' r ys r' m'' → at + length xs ≤ 8 * length m → Put m at (xs ++ ys) r' m''
put_both {m} {m'} {m''} {at} {r} {r'} {xs} {ys} p q fits =
    let e : with_part (with_part (bits_of m) at (length xs) xs) (at + length xs) (length ys) ys ≡ with_part (bits_of m) at (length xs + length ys) (xs ++ ys) = put_then (bits_of m) xs ys at (length xs) (length ys) (omega (arith, length_bits m)) refl in
    record {
      bits = q.bits ∙ rw (p.bits, p.behind, length-append xs ys) e;
      behind = omega (arith, p.behind, q.behind, length-append xs ys);
    }

-- room for all is room for the first, and behind them for the others
module _ {m : List ℕ} {at : ℕ} (xs ys : List ℕ) (r : Room m at (xs ++ ys)) where
  pub room_first : Room m at xs
  room_first = record { inside = omega (arith, r.inside, length-append xs ys); counted = omega (arith, r.counted, length-append xs ys) }

  pub room_behind : {m' : List ℕ} {p : ℕ} → length m' ≡ length m → p ≡ at + length xs → Room m' p ys
  room_behind e f = record { inside = omega (arith, r.inside, length-append xs ys); counted = omega (arith, r.counted, length-append xs ys) }

-- nothing is put
pub put_none : (m : List ℕ) (at : ℕ) → Put m at [] at m
put_none m at = record { bits = sym (rw (add-zero at) (take-append-drop at (bits_of m))); behind = sym (add-zero at) }

-- zeros are put to the end of the last byte
pub put_filling : {m m' : List ℕ} {at : ℕ} → bits_of m' ≡ with_part (bits_of m) at (filling at) (field (filling at) 0) → Put m at (replicate (filling at) 0) (at + filling at) m'
put_filling {m} {m'} {at} e =
    let n = filling at in
    let l : length (replicate {A = ℕ} n 0) ≡ n = length-replicate n 0 in
    record { bits = rw l (e ∙ ap (λ (xs : List ℕ). with_part (bits_of m) at n xs) (field_zero n)); behind = omega arith }
