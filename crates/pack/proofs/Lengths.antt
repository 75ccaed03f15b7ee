-- How many bits a table's head has, and by how many bits a table grows. Assumes nothing.
use mathlib.Core.Path.{◌≡◌, ◌∙◌, ap}
use Prim.Native.Nat.{ℕ, zero, suc, ◌+◌, ◌≤◌, ◌<◌}
use native.Mathlib.Decide.{dec_lt}
use native.Mathlib.Omega.{arith}
use lib.ListN.{length, length-append}
use Rattle.bits.specs.Bits.{fields, total, byte_count}
use Rattle.bits.proofs.Lists.{length_fields, length_as_bytes}
use Rattle.gdi.specs.declared.GdiState.{GdiState}
use Rattle.gdi.specs.Lookup.{slot_at}
use Rattle.saved_table.specs.Table.{dc_widths, dc_values, slot_bits, slots_bits, head_widths, head_values, table_bits, saved_table}
use Rattle.saved_table.proofs.Lengths.{length_table}
use Rattle.pack.specs.Inner.{head_bits}

module _ (b : GdiState) where
  pub length_head : length (head_bits b) ≡ 425
  unfolding total
  length_head =
      omega (
        arith,
        length-append (fields head_widths (head_values b)) (fields dc_widths (dc_values b.screen)),
        length_fields head_widths (head_values b),
        length_fields dc_widths (dc_values b.screen),
      )

  pub length_next : (n : ℕ) → length (slots_bits b (suc n)) ≡ length (slots_bits b n) + length (slot_bits (slot_at b n))
  unfolding slots_bits
  length_next n = length-append (slots_bits b n) (slot_bits (slot_at b n))

  pub slots_grow : (i n : ℕ) → i ≤ n → length (slots_bits b i) ≤ length (slots_bits b n)
  slots_grow i n h = by n (dec_lt i n) h
    where
      by : (n : ℕ) → Dec (i < n) → i ≤ n → length (slots_bits b i) ≤ length (slots_bits b n)
      by zero d h = let e : i ≡ 0 = omega arith in rw e (omega arith)
      by (suc n) (yes lt) h = omega (arith, length_next n, by n (dec_lt i n) (omega arith))
      by (suc n) (no ge) h = let e : i ≡ suc n = omega arith in rw e (omega arith)

  pub length_saved : length (saved_table b) ≡ byte_count (425 + length (slots_bits b b.count))
  length_saved = length_as_bytes (table_bits b) ∙ ap byte_count (length_table b)
