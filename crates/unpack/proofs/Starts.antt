-- Where the objects of a table begin, and what bytes that are complete hold. Assumes nothing.
use mathlib.Core.Bool.{Bool, true, false, not}
use mathlib.Core.List.{List}
use mathlib.Core.Path.{◌≡◌, refl, sym, ◌∙◌}
use Prim.Native.Nat.{ℕ, zero, suc, ◌+◌, ◌*◌, ◌-◌, ◌≤◌, ◌<◌, ◌^◌}
use native.Mathlib.Numerals.{add-one}
use native.Mathlib.Omega.{arith}
use lib.Dec.{leb}
use lib.ListN.{length, get_or}
use borrow.Author.Tests.{le-leb, lt-leb, leb-true, leb-false, not-true, not-false}
use Rattle.arithmetic.proofs.Test.{both, not_right}
use Rattle.bits.specs.Bits.{bits_of, field_at, total}
use Rattle.bits.specs.Inner.{FieldFits, FieldsFit}
use Rattle.bits.proofs.Bytes.{length_bits}
use Rattle.saved_table.specs.Held.{start_held}
use Rattle.saved_table.proofs.Lengths.{kind_total}
use Rattle.unpack.specs.Inner.{end_held, complete}

-- bits of bytes, by the test
module _ (s : List ℕ) {t : Bool} {n : ℕ} (e : t ≡ leb n (length (bits_of s))) where
  pub bits_there : not t ≡ false → n ≤ length (bits_of s)
  bits_there f = leb-true _ _ (sym e ∙ not-false _ f)

  pub bits_missing : not t ≡ true → length (bits_of s) < n
  bits_missing f = leb-false _ _ (sym e ∙ not-true _ f)

-- fields that may be read
pub field_there : (s : List ℕ) {p n : ℕ} → p + n ≤ length (bits_of s) → p < 2 ^ 33 → n ≤ 32 → FieldFits s p n
field_there s h lt few = record { inside = omega (arith, length_bits s); counted = omega arith; short = few }

pub fields_there : (s : List ℕ) (p : ℕ) {ws : List ℕ} → p + total ws ≤ length (bits_of s) → p < 2 ^ 33 → total ws ≤ 354 → ((k : ℕ) → get_or ws k 0 ≤ 32) → FieldsFit s p ws
fields_there s p h lt few short = record { inside = omega (arith, length_bits s); counted = omega arith; short = short }

module _ (bs : List ℕ) where
  pub start_none : start_held bs 0 ≡ 425
  unfolding start_held
  start_none = refl

  pub start_more : (i : ℕ) → start_held bs (i + 1) ≡ end_held bs (start_held bs i)
  unfolding start_held
  start_more i = rw add-one

  pub start_few : (i : ℕ) → start_held bs i ≤ 425 + 389 * i
  unfolding start_held
  start_few zero = omega arith
  start_few (suc i) = omega (arith, start_few i, kind_total (field_at bs (start_held bs i) 3))

  pub start_first : (i : ℕ) → 425 ≤ start_held bs i
  unfolding start_held
  start_first zero = omega arith
  start_first (suc i) = omega (arith, start_first i)

  start_later : (i m : ℕ) → start_held bs i ≤ start_held bs (i + m)
  unfolding start_held
  start_later i zero = let e : i + 0 ≡ i = omega arith in rw e (omega arith)
  start_later i (suc m) = let e : i + suc m ≡ suc (i + m) = omega arith in rw e (omega (arith, start_later i m))

  -- an object ends before a later one begins
  pub start_next : (i j : ℕ) → i < j → end_held bs (start_held bs i) ≤ start_held bs j
  start_next i j lt = omega (arith, start_more i, by (j - suc i) (omega arith))
    where
      by : (m : ℕ) → j ≡ i + 1 + m → start_held bs (i + 1) ≤ start_held bs j
      by m e = rw e (start_later (i + 1) m)

  -- the test, by its parts
  pub record Complete : Type 0 where
    pub few : field_at bs 62 9 ≤ 256
    pub long : start_held bs (field_at bs 62 9) ≤ length bs

  pub complete_parts : complete bs ≡ true → Complete
  unfolding complete
  complete_parts e =
      let p = both (leb (field_at bs 62 9) 256) (leb (start_held bs (field_at bs 62 9)) (length bs)) e in
      record { few = leb-true _ _ p.0; long = leb-true _ _ p.1 }

  pub too_many : 256 < field_at bs 62 9 → false ≡ complete bs
  unfolding complete
  too_many lt = rw (lt-leb _ _ lt)

  pub too_short : length bs < start_held bs (field_at bs 62 9) → false ≡ complete bs
  unfolding complete
  too_short lt = sym (not_right (leb (field_at bs 62 9) 256) (lt-leb _ _ lt))

  pub by_end : {t : Bool} → field_at bs 62 9 ≤ 256 → t ≡ leb (start_held bs (field_at bs 62 9)) (length bs) → t ≡ complete bs
  unfolding complete
  by_end few e = rw (le-leb _ _ few) e
