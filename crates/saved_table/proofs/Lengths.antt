-- How long a table and its parts are. Assumes nothing.
use mathlib.Core.List.{[], ◌∷◌, ◌++◌}
use mathlib.Core.Path.{◌≡◌, refl, ◌∙◌, ap}
use Prim.Native.Nat.{ℕ, zero, suc, ◌+◌, ◌*◌, ◌≤◌}
use native.Mathlib.Omega.{arith}
use lib.ListN.{length, length-append}
use borrow.Author.Tests.{ne_eqb}
use Rattle.bits.specs.Bits.{fields, total}
use Rattle.bits.proofs.Lists.{length_fields}
use Rattle.gdi.specs.declared.Slot.{Slot}
use Rattle.gdi.specs.declared.GdiState.{GdiState}
use Rattle.gdi.specs.Lookup.{slot_at}
use Rattle.numbers.specs.Block.{kind_number}
use Rattle.saved_table.specs.Table.{dc_widths, dc_values, widths_of, values_of, slot_bits, slots_bits, head_widths, head_values, table_bits}

pub dc_total : total dc_widths ≡ 354
unfolding total
dc_total = refl

pub head_total : total head_widths ≡ 71
unfolding total
head_total = refl

-- the widths of a kind's fields
module _ (kind : ℕ) where
  pub widths_dc : kind ≡ 0 → widths_of kind ≡ dc_widths
  widths_dc e = rw e

  pub widths_bitmap : kind ≡ 1 → widths_of kind ≡ 13 ∷ 13 ∷ 1 ∷ []
  widths_bitmap e = rw e

  pub widths_pen : kind ≡ 3 → widths_of kind ≡ 32 ∷ 32 ∷ []
  widths_pen e = rw e

  pub widths_other : (kind ≡ 0 → ⊥) → (kind ≡ 1 → ⊥) → (kind ≡ 3 → ⊥) → widths_of kind ≡ 32 ∷ []
  widths_other a b c = rw (ne_eqb kind 0 a, ne_eqb kind 1 b, ne_eqb kind 3 c)

-- an object's fields, of whatever kind, have at most as many bits as a DC's
pub kind_total : (kind : ℕ) → total (widths_of kind) ≤ 354
unfolding total
kind_total zero = omega arith
kind_total (suc zero) = omega arith
kind_total (suc (suc zero)) = omega arith
kind_total (suc (suc (suc zero))) = omega arith
kind_total (suc (suc (suc (suc k)))) = rw (widths_other (suc (suc (suc (suc k)))) (λ e. omega arith) (λ e. omega arith) (λ e. omega arith)) (omega arith)

pub length_slot : (s : Slot) → length (slot_bits s) ≡ 35 + total (widths_of (kind_number s.object))
unfolding total
length_slot s =
    length-append (fields _ _) (fields (widths_of (kind_number s.object)) (values_of s.object))
    ∙ ap (λ (n : ℕ). n + length (fields (widths_of (kind_number s.object)) (values_of s.object))) (length_fields _ _)
    ∙ ap (λ (n : ℕ). 35 + n) (length_fields (widths_of (kind_number s.object)) (values_of s.object))

pub length_slots : (b : GdiState) (n : ℕ) → length (slots_bits b (suc n)) ≡ length (slots_bits b n) + (35 + total (widths_of (kind_number (slot_at b n).object)))
unfolding slots_bits
length_slots b n = length-append (slots_bits b n) (slot_bits (slot_at b n)) ∙ ap (λ (k : ℕ). length (slots_bits b n) + k) (length_slot (slot_at b n))

pub slots_short : (b : GdiState) (n : ℕ) → length (slots_bits b n) ≤ 389 * n
slots_short b zero = unfold slots_bits in omega arith
slots_short b (suc n) = omega (arith, length_slots b n, slots_short b n, kind_total (kind_number (slot_at b n).object))

pub length_table : (b : GdiState) → length (table_bits b) ≡ 425 + length (slots_bits b b.count)
unfolding table_bits
length_table b =
    let head : length (fields head_widths (head_values b) ++ fields dc_widths (dc_values b.screen)) ≡ 425 =
    length-append (fields head_widths (head_values b)) _
    ∙ ap (λ (n : ℕ). n + length (fields dc_widths (dc_values b.screen))) (length_fields head_widths (head_values b) ∙ head_total)
    ∙ ap (λ (n : ℕ). 71 + n) (length_fields dc_widths (dc_values b.screen) ∙ dc_total)
    in
    length-append (fields head_widths (head_values b) ++ fields dc_widths (dc_values b.screen)) (slots_bits b b.count) ∙ ap (λ (n : ℕ). n + length (slots_bits b b.count)) head
