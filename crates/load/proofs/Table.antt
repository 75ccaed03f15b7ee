-- Whether bytes are a table, from the record that was read from them. Assumes nothing.
use mathlib.Core.Bool.{Bool, true, false, ◌&&◌, true≢false}
use mathlib.Core.List.{List}
use mathlib.Core.Path.{◌≡◌, refl, sym, ◌∙◌, ap}
use Prim.Native.Nat.{ℕ, ◌*◌, ◌≤◌}
use borrow.Author.Tests.{le-leb}
use Rattle.std.proofs.Common.{Some, None}
use Rattle.arithmetic.proofs.Test.{together, not_left, not_right}
use Rattle.bits.specs.Bits.{bits_of, equal}
use Rattle.gdi.specs.declared.GdiState.{GdiState}
use Rattle.gdi.specs.Record.{size}
use Rattle.numbers.specs.Layout.{width_place, height_place}
use Rattle.numbers.specs.Block.{at}
use Rattle.numbers.specs.View.{view, Updated}
use Rattle.numbers.proofs.Seen.{width_seen, height_seen}
use Rattle.sound.specs.Sound.{sound_except_sizes, used}
use Rattle.sound.proofs.Sound.{parts_except, whole_except}
use Rattle.saved_table.specs.Table.{saved_table}
use Rattle.saved_table.specs.Held.{record_held, held_by, is_table}
use Rattle.saved_table.proofs.Tables.{table_complete, table_any}
use Rattle.unpack.specs.Inner.{complete}
use Rattle.unpack.proofs.Starts.{by_end}
use Rattle.ready.specs.Inner.{sound_end}
use Rattle.ready.proofs.Record.{ends_there, ends_at, area_seen}
use Rattle.load.specs.Inner.{TableSizes}

-- a table's bytes are long enough for their fields
pub table_is_complete : (b : GdiState) (bytes : List ℕ) → is_table b bytes ≡ true → complete (bits_of bytes) ≡ true
table_is_complete b bytes t = let p = table_complete b bytes t in sym (by_end (bits_of bytes) p.0 (sym (le-leb _ _ p.1)))

module _ (bytes : List ℕ) where
  pub not_complete : complete (bits_of bytes) ≡ false → (b : GdiState) → is_table b bytes ≡ false
  not_complete e b = by (is_table b bytes) refl
    where
      by : (t : Bool) → is_table b bytes ≡ t → t ≡ false
      by true f = absurd (true≢false (sym (table_is_complete b bytes f) ∙ e))
      by false f = refl

  -- the record that the bytes hold was read into the numbers l'
  module _ {l l' : List ℕ} (read : Updated l (held_by (view l) bytes) l') where
    table_seen : (b : GdiState) → is_table b bytes ≡ (sound_except_sizes (view l') && equal (saved_table (view l')) bytes)
    unfolding is_table
    table_seen b = table_any b (view l) bytes ∙ rw read.same

    pub not_sound : None ≡ sound_end l' → (b : GdiState) → is_table b bytes ≡ false
    not_sound e b = table_seen b ∙ not_left (equal (saved_table (view l')) bytes) (by (sound_except_sizes (view l')) refl)
      where
        by : (t : Bool) → sound_except_sizes (view l') ≡ t → t ≡ false
        by true f = let h = ends_there l' read.is_record_lem (parts_except (view l') f) refl in cc
        by false f = refl

    pub not_saved : equal (saved_table (view l')) bytes ≡ false → (b : GdiState) → is_table b bytes ≡ false
    not_saved e b = table_seen b ∙ not_right (sound_except_sizes (view l')) e

    module _ {end : ℕ} (e : Some end ≡ sound_end l') where
      -- the panel's sides
      pub few_pixels : at l' width_place * at l' height_place ≤ 16777216
      few_pixels = area_seen (ends_at l' e)

      pub table_sizes : equal (saved_table (view l')) bytes ≡ true → TableSizes bytes (record { panel = 2 * (at l' width_place * at l' height_place); end = end })
      unfolding record_held
      table_sizes f =
          let s = ends_at l' e in
          record {
            table = λ b. table_seen b ∙ together (whole_except (view l') s.except) f;
            end = λ b. s.used_so ∙ ap used read.same;
            panel = λ b. rw (← width_seen l', ← height_seen l') (ap (λ (x : GdiState). size x.width x.height) read.same);
          }
