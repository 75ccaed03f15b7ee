-- The blocks of numbers into which fields are read. Assumes nothing.
use mathlib.Core.Bool.{Bool, true, false, cond, ◌&&◌}
use mathlib.Core.List.{List, [], ◌∷◌, ◌++◌, append-nil}
use mathlib.Core.Path.{◌≡◌, refl, ◌∙◌, ap}
use Prim.Native.Nat.{ℕ, zero, suc, ◌≤◌}
use native.Mathlib.Omega.{arith}
use lib.Dec.{eqb, leb}
use lib.ListN.{length, get_or}
use borrow.Author.Tests.{ne_eqb, leb-true}
use Rattle.arithmetic.proofs.Test.{both}
use Rattle.bits.specs.Bits.{numbers_in}
use Rattle.bits.proofs.Lists.{length_numbers}
use Rattle.gdi.specs.declared.GdiObject.TheVariants.{Dc as DcOf}
use Rattle.numbers.specs.Block.{dc_fields, object_of}
use Rattle.saved_table.specs.Table.{dc_widths, widths_of}
use Rattle.saved_table.specs.Held.{object_held}
use Rattle.unpack.specs.Inner.{block_held}

-- a DC's numbers behind that of its surface
module _ (bs : List ℕ) (p : ℕ) {x : List ℕ} (e : x ≡ numbers_in dc_widths bs p ++ []) where
  pub dc_block : x ++ [] ≡ numbers_in dc_widths bs p
  dc_block = append-nil x ∙ e ∙ append-nil (numbers_in dc_widths bs p)

  pub dc_block_long : length (x ++ []) ≡ 13
  dc_block_long = ap length dc_block ∙ length_numbers dc_widths bs p

-- every field has at most 32 bits
unfoldable are_short : List ℕ → Bool
are_short [] = true
are_short (n ∷ ns) = leb n 32 && are_short ns

short_each : (ws : List ℕ) → are_short ws ≡ true → (k : ℕ) → get_or ws k 0 ≤ 32
unfolding are_short
short_each [] e k = omega arith
short_each (n ∷ ns) e zero = leb-true n 32 (both (leb n 32) (are_short ns) e).0
short_each (n ∷ ns) e (suc k) = short_each ns (both (leb n 32) (are_short ns) e).1 k

pub dc_short : (k : ℕ) → get_or dc_widths k 0 ≤ 32
unfolding are_short
dc_short = short_each dc_widths refl

pub kind_short : (kind k : ℕ) → get_or (widths_of kind) k 0 ≤ 32
unfolding are_short
kind_short kind = by (eqb kind 0) (eqb kind 1) (eqb kind 3)
  where
    by : (a b c : Bool) (k : ℕ) → get_or (cond a dc_widths (cond b (13 ∷ 13 ∷ 1 ∷ []) (cond c (32 ∷ 32 ∷ []) (32 ∷ [])))) k 0 ≤ 32
    by true b c = dc_short
    by false true c = short_each (13 ∷ 13 ∷ 1 ∷ []) refl
    by false false true = short_each (32 ∷ 32 ∷ []) refl
    by false false false = short_each (32 ∷ []) refl

-- the object of each kind: the zeros behind its fields are not looked at
module _ (kind : ℕ) (bs : List ℕ) (p : ℕ) where
  pub held_dc : kind ≡ 0 → DcOf (dc_fields (1 ∷ numbers_in dc_widths bs p)) ≡ object_held kind bs p
  unfolding object_of
  held_dc e = rw e

  pub held_bitmap : kind ≡ 1 → object_of kind (block_held (13 ∷ 13 ∷ 1 ∷ []) bs p) ≡ object_held kind bs p
  unfolding object_of numbers_in
  held_bitmap e = rw e

  pub held_pen : kind ≡ 3 → object_of kind (block_held (32 ∷ 32 ∷ []) bs p) ≡ object_held kind bs p
  unfolding object_of numbers_in
  held_pen e = rw e

  pub held_other : (kind ≡ 0 → ⊥) → (kind ≡ 1 → ⊥) → (kind ≡ 3 → ⊥) → object_of kind (block_held (32 ∷ []) bs p) ≡ object_held kind bs p
  unfolding object_of numbers_in
  held_other a b d = rw (ne_eqb kind 0 a, ne_eqb kind 1 b, ne_eqb kind 3 d)
