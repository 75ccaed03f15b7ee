-- Numbers into which a table's head and its objects were read encode the record that the bytes hold. Assumes nothing.
use mathlib.Core.Bool.{true, cond}
use mathlib.Core.List.{List, ◌∷◌}
use mathlib.Core.Path.{◌≡◌, sym, ◌∙◌, ap}
use Prim.Native.Nat.{ℕ, ◌+◌, ◌*◌, ◌≤◌, ◌<◌}
use native.Mathlib.Decide.{ℕ_discrete, dec_lt}
use native.Mathlib.Omega.{arith}
use lib.Dec.{ltb}
use lib.ListN.{length, drop, set, length-set}
use lib.Seq.{drop-drop, get_or-set_same, get_or-set_other}
use borrow.Author.Tests.{lt-ltb, le-ltb}
use Rattle.arithmetic.proofs.Test.{all_of}
use Rattle.words.specs.Parts.{part}
use Rattle.words.proofs.Parts.{length_part, part_same}
use Rattle.bits.specs.Bits.{field_at, numbers_in}
use Rattle.gdi.specs.declared.Dc.{Dc}
use Rattle.gdi.specs.declared.GdiObject.{GdiObject}
use Rattle.gdi.specs.Record.{vacant_slot}
use Rattle.numbers.specs.Layout.{dc_size, slot_size, head_size, record_size, panel_len_place, store_len_place, width_place, height_place, frames_low_place, frames_high_place, next_handle_place, stock_dirty_place, count_place, screen_place, slots_place, slot_place}
use Rattle.numbers.specs.Block.{at, is_dc, dc_fields, is_slot}
use Rattle.numbers.specs.View.{slot_in, slot_table, view, is_record, Updated}
use Rattle.numbers.proofs.Block.{DcCoded, SlotCoded, lent_back, lent_back_lem}
use Rattle.numbers.proofs.Record.{by_slots}
use Rattle.numbers.proofs.View.{table_same}
use Rattle.numbers.proofs.Slots.{lent_slot, slot_back, lent_long, slot_back_lem}
use Rattle.numbers.proofs.Kept.{Kept, kept_all, kept_set, kept_part, part_kept, tail_kept}
use Rattle.saved_table.specs.Table.{dc_widths}
use Rattle.saved_table.specs.Held.{object_held, slot_held, start_held, slots_held, record_held}
use Rattle.unpack.specs.Inner.{HeadRead, SlotsRead}

-- the head: the screen DC is written where it was lent, and then four numbers
module _ (l ys : List ℕ) (long : length l ≡ record_size) (len : length ys ≡ length (part l screen_place dc_size)) where
  abbrev lent : List ℕ
  lent = lent_back l screen_place dc_size ys

  dc_long : length ys ≡ dc_size
  dc_long = len ∙ length_part l screen_place dc_size (omega arith)

  lent_kept : Kept l screen_place dc_size lent
  lent_kept = rw (lent_back_lem l screen_place dc_size ys) (kept_part l ys screen_place dc_size screen_place dc_size dc_long (omega arith) (omega arith) (omega arith))

  pub dc_back_long : length lent ≡ record_size
  dc_back_long = lent_kept.long ∙ long

  module _ (w h n k : ℕ) where
    abbrev head : List ℕ
    head = set (set (set (set lent width_place w) height_place h) next_handle_place n) count_place k

    head_kept : Kept lent 0 head_size head
    head_kept =
        kept_set count_place k (kept_set next_handle_place n (kept_set height_place h (kept_set width_place w (kept_all lent 0 head_size) (omega arith) (omega arith)) (omega arith) (omega arith)) (omega arith) (omega arith)) (omega arith) (omega arith)

    other : (j : ℕ) → j < screen_place → (j ≡ width_place → ⊥) → (j ≡ height_place → ⊥) → (j ≡ next_handle_place → ⊥) → (j ≡ count_place → ⊥) → at head j ≡ at l j
    other j lt a b e f =
        get_or-set_other (set (set (set lent width_place w) height_place h) next_handle_place n) count_place j k 0 f
        ∙ get_or-set_other (set (set lent width_place w) height_place h) next_handle_place j n 0 e
        ∙ get_or-set_other (set lent width_place w) height_place j h 0 b
        ∙ get_or-set_other lent width_place j w 0 a
        ∙ lent_kept.same j (λ x y. omega arith)

    pub head_read : (bs : List ℕ) {d : Dc} → DcCoded d ys → d ≡ dc_fields (0 ∷ numbers_in dc_widths bs 71) → w ≡ field_at bs 4 13 → h ≡ field_at bs 17 13 → n ≡ field_at bs 30 32 → k ≡ field_at bs 62 9
        → HeadRead bs l head
    head_read bs coded is wide high next count =
        record {
          long = head_kept.long ∙ lent_kept.long;
          panel_len = other panel_len_place (omega arith) (λ e. omega arith) (λ e. omega arith) (λ e. omega arith) (λ e. omega arith);
          store_len = other store_len_place (omega arith) (λ e. omega arith) (λ e. omega arith) (λ e. omega arith) (λ e. omega arith);
          width =
              get_or-set_other (set (set (set lent width_place w) height_place h) next_handle_place n) count_place width_place k 0 (λ e. omega arith)
              ∙ get_or-set_other (set (set lent width_place w) height_place h) next_handle_place width_place n 0 (λ e. omega arith)
              ∙ get_or-set_other (set lent width_place w) height_place width_place h 0 (λ e. omega arith)
              ∙ get_or-set_same lent width_place w 0 (omega (arith, dc_back_long)) ∙ wide;
          height =
              get_or-set_other (set (set (set lent width_place w) height_place h) next_handle_place n) count_place height_place k 0 (λ e. omega arith)
              ∙ get_or-set_other (set (set lent width_place w) height_place h) next_handle_place height_place n 0 (λ e. omega arith)
              ∙ get_or-set_same (set lent width_place w) height_place h 0 (simp length-set (omega (arith, dc_back_long))) ∙ high;
          frames_low = other frames_low_place (omega arith) (λ e. omega arith) (λ e. omega arith) (λ e. omega arith) (λ e. omega arith);
          frames_high = other frames_high_place (omega arith) (λ e. omega arith) (λ e. omega arith) (λ e. omega arith) (λ e. omega arith);
          next_handle =
              get_or-set_other (set (set (set lent width_place w) height_place h) next_handle_place n) count_place next_handle_place k 0 (λ e. omega arith)
              ∙ get_or-set_same (set (set lent width_place w) height_place h) next_handle_place n 0 (simp length-set (omega (arith, dc_back_long))) ∙ next;
          stock_dirty = other stock_dirty_place (omega arith) (λ e. omega arith) (λ e. omega arith) (λ e. omega arith) (λ e. omega arith);
          count = get_or-set_same (set (set (set lent width_place w) height_place h) next_handle_place n) count_place k 0 (simp length-set (omega (arith, dc_back_long))) ∙ count;
          screen = rw (part_kept head_kept screen_place dc_size (λ j a b e f. omega arith), lent_back_lem l screen_place dc_size ys, part_same l ys screen_place dc_size dc_long (omega arith)) (rw is at coded);
          slots = tail_kept head_kept slots_place (omega arith) ∙ tail_kept lent_kept slots_place (omega arith);
        }

-- a slot, from its kind, its handle and its object
pub slot_coded : (bs : List ℕ) (p : ℕ) {kind h : ℕ} {o : GdiObject} {x : List ℕ} → kind ≡ field_at bs p 3 → h ≡ field_at bs (p + 3) 32 → o ≡ object_held kind bs (p + 35)
    → SlotCoded (record { handle = h; object = o }) x → SlotCoded (slot_held bs p) x
slot_coded bs p k e f coded = rw (e, f ∙ ap (λ (j : ℕ). object_held j bs (p + 35)) k) at coded

-- the slots: one more is written where it was lent
pub no_slots : (bs l : List ℕ) → SlotsRead bs 0 l l
no_slots bs l = record { kept = kept_all l slots_place 0; slot = λ i lt. absurd (omega (arith, lt)) }

pub slots_more : (bs l m x : List ℕ) (i : ℕ) → length l ≡ record_size → i < 256 → SlotsRead bs i l m → length x ≡ length (lent_slot m i) → SlotCoded (slot_held bs (start_held bs i)) x
    → SlotsRead bs (i + 1) l (slot_back m i x)
slots_more bs l m x i long lt r len coded = record { kept = kept; slot = λ j b. slot j b (ℕ_discrete j i) }
  where
    m_long : length m ≡ record_size
    m_long = r.kept.long ∙ long

    slot_long : length x ≡ slot_size
    slot_long = len ∙ lent_long m i m_long lt

    put : Kept m (slot_place i) slot_size (slot_back m i x)
    put = rw (slot_back_lem m i x) (kept_part m x (slot_place i) slot_size (slot_place i) slot_size slot_long (omega (arith, m_long)) (omega arith) (omega arith))

    kept : Kept l slots_place (slot_size * (i + 1)) (slot_back m i x)
    kept =
        record {
          long = put.long ∙ r.kept.long;
          same = λ k out. put.same k (λ a b. out (omega arith) (omega arith)) ∙ r.kept.same k (λ a b. out (omega arith) (omega arith));
        }

    slot : (j : ℕ) → j < i + 1 → Dec (j ≡ i) → SlotCoded (slot_held bs (start_held bs j)) (part (slot_back m i x) (slot_place j) slot_size)
    slot j b (yes e) = rw (e, slot_back_lem m i x, part_same m x (slot_place i) slot_size slot_long (omega (arith, m_long))) coded
    slot j b (no ne) = rw (part_kept put (slot_place j) slot_size (λ k p q s t. omega arith)) (r.slot j (omega arith))

-- both
module _ (bs l m l' : List ℕ) (long : length l ≡ record_size) (flag : at l stock_dirty_place ≤ 1) (few : field_at bs 62 9 ≤ 256)
    (head : HeadRead bs l m) (slots : SlotsRead bs (field_at bs 62 9) m l') where
  number : (k : ℕ) → k < slots_place → at l' k ≡ at m k
  number k lt = slots.kept.same k (λ a b. omega arith)

  counted : at l' count_place ≡ field_at bs 62 9
  counted = number count_place (omega arith) ∙ head.count

  screen : part l' screen_place dc_size ≡ part m screen_place dc_size
  screen = part_kept slots.kept screen_place dc_size (λ j a b e f. omega arith)

  slot_in_lem : (n i : ℕ) → n ≡ field_at bs 62 9 → Dec (i < n) → slot_in l' n i ≡ cond (ltb i n) (slot_held bs (start_held bs i)) vacant_slot
  slot_in_lem n i e (yes lt) = rw (lt-ltb i n lt) (slots.slot i (omega arith)).same
  slot_in_lem n i e (no ge) = rw (le-ltb i n (omega arith))

  objects : slot_table l' (at l' count_place) ≡ slots_held bs (field_at bs 62 9)
  objects =
      table_same (slot_in l' (at l' count_place)) (λ i. cond (ltb i (at l' count_place)) (slot_held bs (start_held bs i)) vacant_slot) (λ i lt. slot_in_lem (at l' count_place) i counted (dec_lt i (at l' count_place)))
      ∙ ap (slots_held bs) counted

  seen : view l' ≡ record_held (view l) bs
  unfolding view record_held
  seen =
      rw (
        objects,
        screen,
        head.screen.same,
        counted,
        number panel_len_place (omega arith) ∙ head.panel_len,
        number store_len_place (omega arith) ∙ head.store_len,
        number width_place (omega arith) ∙ head.width,
        number height_place (omega arith) ∙ head.height,
        number frames_low_place (omega arith) ∙ head.frames_low,
        number frames_high_place (omega arith) ∙ head.frames_high,
        number next_handle_place (omega arith) ∙ head.next_handle,
        number stock_dirty_place (omega arith) ∙ head.stock_dirty,
      )

  good : is_record l' ≡ true
  good =
      sym (by_slots l' (slots.kept.long ∙ head.long ∙ long) (omega (arith, number stock_dirty_place (omega arith), head.stock_dirty)) (omega (arith, counted)) (ap is_dc screen ∙ head.screen.is_dc_lem))
      ∙ all_of (at l' count_place) (λ i. is_slot (part l' (slot_place i) slot_size)) (λ i lt. (slots.slot i (omega (arith, counted))).is_slot_lem)

  rest : drop (slot_place (record_held (view l) bs).count) l' ≡ drop (slot_place (record_held (view l) bs).count) l
  unfolding record_held
  rest =
      tail_kept slots.kept (slot_place (field_at bs 62 9)) (omega arith)
      ∙ sym (drop-drop (slot_size * field_at bs 62 9) slots_place m)
      ∙ ap (drop (slot_size * field_at bs 62 9)) head.slots
      ∙ drop-drop (slot_size * field_at bs 62 9) slots_place l

  pub table_read : Updated l (record_held (view l) bs) l'
  table_read = record { is_record_lem = good; same = seen; rest = rest }
