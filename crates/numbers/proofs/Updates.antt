-- Numbers of which one part changed encode the record, or the bitmap, with that part changed. The numbers before the screen DC and
-- those of a bitmap are listed one by one here and nowhere else. Assumes nothing.
use mathlib.Core.Bool.{true}
use mathlib.Core.List.{List}
use mathlib.Core.Path.{◌≡◌, ◌∙◌, ap}
use Prim.Native.Nat.{ℕ, ◌+◌, ◌-◌, ◌*◌, ◌<◌}
use native.Mathlib.Omega.{arith}
use lib.Dec.{eqb}
use Rattle.arithmetic.proofs.Test.{both, all_same}
use Rattle.words.specs.Parts.{part}
use Rattle.gdi.specs.declared.Dc.{Dc}
use Rattle.gdi.specs.declared.GdiObject.TheVariants.{Bitmap}
use Rattle.gdi.specs.declared.Slot.{Slot}
use Rattle.gdi.specs.Updates.{with_sides, with_frames, with_stock_dirty, with_objects, with_screen, with_host_dirty}
use Rattle.numbers.specs.Layout.{dc_size, object_size, head_size, panel_len_place, store_len_place, width_place, height_place, frames_low_place, frames_high_place, next_handle_place, stock_dirty_place, count_place, screen_place, bitmap_width_in, bitmap_height_in, bitmap_dirty_in, bitmap_size}
use Rattle.numbers.specs.Block.{at, is_flag, dc_fields, bitmap_fields, object_of, zeros_from, is_object, ObjectCoded}
use Rattle.numbers.specs.View.{slot_table, view}

module _ (l l' : List ℕ) where
  -- the numbers before the screen DC are kept, except for two
  abbrev pub KeptBut : (a b : ℕ) → Type 0
  KeptBut a b = (k : ℕ) → k < head_size → (k ≡ a → ⊥) → (k ≡ b → ⊥) → at l' k ≡ at l k

  module _ (screen : part l' screen_place dc_size ≡ part l screen_place dc_size) where
    pub objects_seen : KeptBut next_handle_place count_place → {next count : ℕ} {t : List Slot} → at l' next_handle_place ≡ next → at l' count_place ≡ count → slot_table l' (at l' count_place) ≡ t
        → view l' ≡ with_objects (view l) next count t
    unfolding view
    objects_seen kept named counted table =
        rw (
          table,
          screen,
          named,
          counted,
          kept panel_len_place (omega arith) (λ x. omega arith) (λ x. omega arith),
          kept store_len_place (omega arith) (λ x. omega arith) (λ x. omega arith),
          kept width_place (omega arith) (λ x. omega arith) (λ x. omega arith),
          kept height_place (omega arith) (λ x. omega arith) (λ x. omega arith),
          kept frames_low_place (omega arith) (λ x. omega arith) (λ x. omega arith),
          kept frames_high_place (omega arith) (λ x. omega arith) (λ x. omega arith),
          kept stock_dirty_place (omega arith) (λ x. omega arith) (λ x. omega arith),
        )

    module _ (table : slot_table l' (at l' count_place) ≡ slot_table l (at l count_place)) where
      pub sides_seen : KeptBut width_place height_place → {w h : ℕ} → at l' width_place ≡ w → at l' height_place ≡ h → view l' ≡ with_sides (view l) w h
      unfolding view
      sides_seen kept wide high =
          rw (
            table,
            screen,
            wide,
            high,
            kept panel_len_place (omega arith) (λ x. omega arith) (λ x. omega arith),
            kept store_len_place (omega arith) (λ x. omega arith) (λ x. omega arith),
            kept frames_low_place (omega arith) (λ x. omega arith) (λ x. omega arith),
            kept frames_high_place (omega arith) (λ x. omega arith) (λ x. omega arith),
            kept next_handle_place (omega arith) (λ x. omega arith) (λ x. omega arith),
            kept stock_dirty_place (omega arith) (λ x. omega arith) (λ x. omega arith),
            kept count_place (omega arith) (λ x. omega arith) (λ x. omega arith),
          )

      pub frames_seen : KeptBut frames_low_place frames_high_place → {n : ℕ} → at l' frames_low_place + 4294967296 * at l' frames_high_place ≡ n → view l' ≡ with_frames (view l) n
      unfolding view
      frames_seen kept more =
          rw (
            table,
            screen,
            more,
            kept panel_len_place (omega arith) (λ x. omega arith) (λ x. omega arith),
            kept store_len_place (omega arith) (λ x. omega arith) (λ x. omega arith),
            kept width_place (omega arith) (λ x. omega arith) (λ x. omega arith),
            kept height_place (omega arith) (λ x. omega arith) (λ x. omega arith),
            kept next_handle_place (omega arith) (λ x. omega arith) (λ x. omega arith),
            kept stock_dirty_place (omega arith) (λ x. omega arith) (λ x. omega arith),
            kept count_place (omega arith) (λ x. omega arith) (λ x. omega arith),
          )

      pub stock_seen : KeptBut stock_dirty_place stock_dirty_place → at l' stock_dirty_place ≡ 1 → view l' ≡ with_stock_dirty (view l)
      unfolding view
      stock_seen kept mark =
          rw (
            table,
            screen,
            mark,
            kept panel_len_place (omega arith) (λ x. omega arith) (λ x. omega arith),
            kept store_len_place (omega arith) (λ x. omega arith) (λ x. omega arith),
            kept width_place (omega arith) (λ x. omega arith) (λ x. omega arith),
            kept height_place (omega arith) (λ x. omega arith) (λ x. omega arith),
            kept frames_low_place (omega arith) (λ x. omega arith) (λ x. omega arith),
            kept frames_high_place (omega arith) (λ x. omega arith) (λ x. omega arith),
            kept next_handle_place (omega arith) (λ x. omega arith) (λ x. omega arith),
            kept count_place (omega arith) (λ x. omega arith) (λ x. omega arith),
          )

  pub screen_seen : KeptBut head_size head_size → slot_table l' (at l' count_place) ≡ slot_table l (at l count_place) → {d : Dc} → dc_fields (part l' screen_place dc_size) ≡ d → view l' ≡ with_screen (view l) d
  unfolding view
  screen_seen kept table dc =
      rw (
        table,
        dc,
        kept panel_len_place (omega arith) (λ x. omega arith) (λ x. omega arith),
        kept store_len_place (omega arith) (λ x. omega arith) (λ x. omega arith),
        kept width_place (omega arith) (λ x. omega arith) (λ x. omega arith),
        kept height_place (omega arith) (λ x. omega arith) (λ x. omega arith),
        kept frames_low_place (omega arith) (λ x. omega arith) (λ x. omega arith),
        kept frames_high_place (omega arith) (λ x. omega arith) (λ x. omega arith),
        kept next_handle_place (omega arith) (λ x. omega arith) (λ x. omega arith),
        kept stock_dirty_place (omega arith) (λ x. omega arith) (λ x. omega arith),
        kept count_place (omega arith) (λ x. omega arith) (λ x. omega arith),
      )

-- a bitmap's numbers, of which the dirty mark became 1
pub bitmap_marked : (xs ys : List ℕ) → ((k : ℕ) → k < object_size → (k ≡ bitmap_dirty_in → ⊥) → at xs k ≡ at ys k) → at xs bitmap_dirty_in ≡ 1 → is_object 1 ys ≡ true → ObjectCoded (Bitmap (with_host_dirty (bitmap_fields ys))) 1 xs
unfolding object_of is_object
bitmap_marked xs ys kept mark good =
    record {
      is_object_lem =
          rw mark
          (all_same (object_size - bitmap_size) (λ j. eqb (at xs (bitmap_size + j)) 0) (λ j. eqb (at ys (bitmap_size + j)) 0) (λ j lt. ap (λ (v : ℕ). eqb v 0) (kept (bitmap_size + j) (omega arith) (λ x. omega arith)))
          ∙ (both (is_flag (at ys bitmap_dirty_in)) (zeros_from ys bitmap_size) good).1);
      same =
          rw (
            mark,
            kept bitmap_width_in (omega arith) (λ x. omega arith),
            kept bitmap_height_in (omega arith) (λ x. omega arith),
          );
    }
