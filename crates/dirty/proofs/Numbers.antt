-- A flat record into which a dirty mark was written encodes the record with that mark. Assumes nothing.
use Rattle.std.proofs.Common.{◌≡◌, ℕ, ◌+◌, ◌*◌, ◌/◌, ◌%◌, ◌<◌, ◌≤◌, Bool, true, false, List, length, set, sym, refl, ap, ◌∙◌, subst, arith, length-set, get_or-set_other, get_or-set_same}
use Rattle.words.specs.Parts.{part}
use Rattle.gdi.specs.declared.GdiState.{GdiState}
use Rattle.gdi.specs.declared.GdiObject.{GdiObject}
use Rattle.gdi.specs.declared.GdiObject.TheVariants.{Bitmap as BitmapOf}
use Rattle.gdi.specs.Lookup.{slot_at, handle_at, object_at}
use Rattle.gdi.specs.Updates.{with_stock_dirty, with_objects}
use Rattle.numbers.specs.Layout.{dc_size, object_size, slot_size, frames_low_place, frames_high_place, stock_dirty_place, count_place, screen_place, slot_place, handle_place, kind_place, object_place, bitmap_dirty_in}
use Rattle.numbers.specs.Block.{bitmap_fields, at, is_dc, is_object, slot_of, ObjectCoded}
use Rattle.numbers.specs.View.{view, is_record, Updated}
use Rattle.numbers.proofs.Block.{SlotCoded}
use Rattle.numbers.proofs.Record.{parts}
use Rattle.numbers.proofs.Seen.{bitmap_dirty_place, handle_seen, object_seen, object_bitmap, object_part, part_at, by_kind}
use Rattle.numbers.proofs.View.{slot_seen}
use Rattle.place.specs.declared.SurfaceId.{SurfaceId}
use Rattle.dirty.specs.Dirty.{object_dirtied, slot_dirtied, next_frame, dirtied, dirtied_if}
use Rattle.numbers.proofs.Updates.{frames_seen, stock_seen as stock-same, bitmap_marked}
use Rattle.numbers.proofs.Kept.{updated_same, Kept, kept_all, kept_set, part_kept, table_kept, front_record, front_rest, slot_updated}
use Rattle.lookup.proofs.Updates.{slot_from}

-- an equal record
pub updated_as : {l l' : List ℕ} {b b' : GdiState} → b ≡ b' → Updated l b l' → Updated l b' l'
updated_as {l} {l'} e s = subst (λ (b : GdiState). Updated l b l') e s

-- a mark that is due, and one that is not
pub due_updated : {l l' : List ℕ} (b : GdiState) (s : SurfaceId) {due : Bool} → due ≡ true → Updated l (dirtied b s) l' → Updated l (dirtied_if due s b) l'
unfolding dirtied_if
due_updated b s e h = rw e h

pub undue_updated : (l : List ℕ) (s : SurfaceId) {due : Bool} → is_record l ≡ true → due ≡ false → Updated l (dirtied_if due s (view l)) l
unfolding dirtied_if
undue_updated l s r e = rw e (updated_same r)

module _ (l l' : List ℕ) (r : is_record l ≡ true) where
  -- a number of the record's head, other than the count
  module _ {p n : ℕ} (kept : Kept l p n l') (front : p + n ≤ count_place) where
    pub screen : part l' screen_place dc_size ≡ part l screen_place dc_size
    screen = part_kept kept screen_place dc_size (λ j a b c d. omega arith)

    behind : (k : ℕ) → p + n ≤ k → at l' k ≡ at l k
    behind k h = kept.same k (λ a b. omega arith)

    pub head_updated : {b : GdiState} → view l' ≡ b → b.count ≡ at l count_place → at l' stock_dirty_place ≤ 1 → Updated l b l'
    head_updated seen count flag =
        record {
          is_record_lem = front_record l l' r kept (omega arith) (behind count_place front) flag (ap is_dc screen ∙ (parts l r).screen);
          same = seen;
          rest = rw count (front_rest l l' r kept (omega arith) (behind count_place front));
        }

  -- the frame counter
  module _ (kept : Kept l frames_low_place 2 l') (more : at l' frames_low_place + 4294967296 * at l' frames_high_place ≡ (at l frames_low_place + 4294967296 * at l frames_high_place + 1) % 18446744073709551616) where
    other : (k : ℕ) → (frames_low_place ≤ k → k < frames_low_place + 2 → ⊥) → at l' k ≡ at l k
    other k h = kept.same k h

    counter_seen : view l' ≡ next_frame (view l)
    unfolding view
    counter_seen =
        frames_seen l l' (screen kept (omega arith)) (table_kept l l' r kept (omega arith) (other count_place (λ a b. omega arith)))
        (λ k h a b. other k (λ x y. omega arith)) more

    pub counter_updated : Updated l (next_frame (view l)) l'
    unfolding view
    counter_updated = head_updated kept (omega arith) counter_seen refl (omega (arith, other stock_dirty_place (λ a b. omega arith), (parts l r).flag))

  -- the stock bitmap's mark
  module _ (kept : Kept l stock_dirty_place 1 l') (mark : at l' stock_dirty_place ≡ 1) where
    beside : (k : ℕ) → (stock_dirty_place ≤ k → k < stock_dirty_place + 1 → ⊥) → at l' k ≡ at l k
    beside k h = kept.same k h

    stock_seen : view l' ≡ with_stock_dirty (view l)
    stock_seen =
        stock-same l l' (screen kept (omega arith)) (table_kept l l' r kept (omega arith) (beside count_place (λ a b. omega arith)))
        (λ k h a b. beside k (λ x y. omega arith)) mark

    pub stock_updated : Updated l (with_stock_dirty (view l)) l'
    unfolding view
    stock_updated = head_updated kept (omega arith) stock_seen refl (omega arith)

module _ (l : List ℕ) (r : is_record l ≡ true) (i : ℕ) (lt : i < at l count_place) where
  abbrev slot_marked : GdiState
  slot_marked = with_objects (view l) (view l).next_handle (view l).count (set (view l).objects i (slot_dirtied (slot_at (view l) i)))

  pub room : slot_place i + slot_size ≤ length l
  room = omega (arith, lt, (parts l r).few, (parts l r).long)

  -- a slot that holds no bitmap
  pub other_kept : (at l (slot_place i + kind_place) ≡ 1 → ⊥) → Updated l slot_marked l
  other_kept ne = slot_updated l l r i lt (kept_all l (slot_place i) slot_size) (record { is_slot_lem = (parts l r).slots i lt; same = same ∙ ap slot_dirtied (sym seen) })
    where
      slot : List ℕ
      slot = part l (slot_place i) slot_size

      seen : slot_at (view l) i ≡ slot_of slot
      seen = slot_seen l i lt (omega (arith, (parts l r).few))

      kind : at slot kind_place ≡ 1 → ⊥
      kind e = ne (sym (part_at l (slot_place i) slot_size kind_place (omega arith)) ∙ e)

      same : slot_of slot ≡ slot_dirtied (slot_of slot)
      same =
          ap (λ (o : GdiObject). record { handle = at slot handle_place; object = o })
          (by_kind (at slot kind_place) (part slot object_place object_size) (λ o. o ≡ object_dirtied o) (λ e. refl) (λ e. absurd (kind e)) (λ x. refl) (λ x. refl) (λ x. refl))

  -- the slot of a bitmap that was marked
  bitmap_updated : at l (slot_place i + kind_place) ≡ 1 → (l' : List ℕ) → Kept l (slot_place i + bitmap_dirty_place) 1 l' → at l' (slot_place i + bitmap_dirty_place) ≡ 1 → Updated l slot_marked l'
  bitmap_updated one l' kept mark = slot_updated l l' r i lt (record { long = kept.long; same = λ k out. kept.same k (λ a b. out (omega arith) (omega arith)) }) put
    where
      same : (k : ℕ) → (k ≡ bitmap_dirty_place → ⊥) → at l' (slot_place i + k) ≡ at l (slot_place i + k)
      same k ne = kept.same (slot_place i + k) (λ a b. ne (omega arith))

      xs : List ℕ
      xs = part l' (slot_place i + object_place) object_size

      ys : List ℕ
      ys = part l (slot_place i + object_place) object_size

      number : (k : ℕ) → k < object_size → (k ≡ bitmap_dirty_in → ⊥) → at xs k ≡ at ys k
      number k b ne =
          part_at l' (slot_place i + object_place) object_size k b ∙ ap (at l') (omega arith) ∙ same (object_place + k) (λ e. ne (omega arith)) ∙ ap (at l) (omega arith) ∙ sym (part_at l (slot_place i + object_place) object_size k b)

      third : slot_place i + object_place + bitmap_dirty_in ≡ slot_place i + bitmap_dirty_place
      third = omega arith

      good : is_object 1 ys ≡ true
      good = rw (part_at l (slot_place i) slot_size kind_place (omega arith), one, object_part l (slot_place i)) at ((parts l r).slots i lt)

      was : object_at (view l) i ≡ BitmapOf (bitmap_fields ys)
      was = object_seen l r i lt ∙ object_bitmap _ _ one

      coded : ObjectCoded (object_dirtied (object_at (view l) i)) 1 xs
      coded =
          rw was
          (bitmap_marked xs ys number (part_at l' (slot_place i + object_place) object_size bitmap_dirty_in (omega arith) ∙ ap (at l') third ∙ mark) good)

      put : SlotCoded (slot_dirtied (slot_at (view l) i)) (part l' (slot_place i) slot_size)
      put =
          slot_from 1 (handle_at (view l).objects i) (part l' (slot_place i) slot_size) xs
          (part_at l' (slot_place i) slot_size handle_place (omega arith) ∙ same handle_place (λ e. omega arith) ∙ ap (at l) (omega arith) ∙ sym (handle_seen l r i lt))
          (part_at l' (slot_place i) slot_size kind_place (omega arith) ∙ same kind_place (λ e. omega arith) ∙ one)
          (object_part l' (slot_place i)) coded

  pub bitmap_set : at l (slot_place i + kind_place) ≡ 1 → Updated l slot_marked (set l (slot_place i + bitmap_dirty_place) 1)
  bitmap_set one =
      bitmap_updated one (set l (slot_place i + bitmap_dirty_place) 1) (kept_set (slot_place i + bitmap_dirty_place) 1 (kept_all l (slot_place i + bitmap_dirty_place) 1) (omega arith) (omega arith))
      (get_or-set_same l (slot_place i + bitmap_dirty_place) 1 0 (omega (arith, room)))

-- the same, as the code stores the numbers
module _ (l : List ℕ) (r : is_record l ≡ true) where
  pub stock_set : Updated l (with_stock_dirty (view l)) (set l stock_dirty_place 1)
  stock_set = stock_updated l (set l stock_dirty_place 1) r (kept_set stock_dirty_place 1 (kept_all l stock_dirty_place 1) (omega arith) (omega arith)) (get_or-set_same l stock_dirty_place 1 0 (omega (arith, (parts l r).long)))

  pub counter_set : (n : ℕ) → n ≡ (at l frames_low_place + 4294967296 * at l frames_high_place + 1) % 18446744073709551616 → Updated l (next_frame (view l)) (set (set l frames_low_place (n % 4294967296)) frames_high_place (n / 4294967296))
  counter_set n e = counter_updated l whole r (kept_set frames_high_place high (kept_set frames_low_place low (kept_all l frames_low_place 2) (omega arith) (omega arith)) (omega arith) (omega arith)) (rw (first, second) (omega arith))
    where
      low : ℕ
      low = n % 4294967296

      high : ℕ
      high = n / 4294967296

      whole : List ℕ
      whole = set (set l frames_low_place low) frames_high_place high

      first : at whole frames_low_place ≡ low
      first = get_or-set_other (set l frames_low_place low) frames_high_place frames_low_place high 0 (λ x. omega arith) ∙ get_or-set_same l frames_low_place low 0 (omega (arith, (parts l r).long))

      second : at whole frames_high_place ≡ high
      second = get_or-set_same (set l frames_low_place low) frames_high_place high 0 (omega (arith, length-set l frames_low_place low, (parts l r).long))
