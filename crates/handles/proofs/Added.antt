-- The record with one more object: its slots are those before and the new one after them, and it is sound. Assumes nothing.
use Rattle.std.proofs.Common.{◌≡◌, ℕ, zero, suc, ◌+◌, ◌<◌, ◌≤◌, Bool, true, false, not, ◌&&◌, eqb, List, [], ◌∷◌, ◌++◌, length, get_or, take, drop, ap, ◌∙◌, add-one, arith, length-take-le, get_or-take}
use lib.ListN.{get_or-append}
use lib.Seq.{get_or_at}
use borrow.Author.Tests.{not-true}
use Rattle.arithmetic.specs.Test.{all_below}
use Rattle.arithmetic.specs.Sum.{sum_below}
use Rattle.arithmetic.proofs.Test.{both, together, all_more, all_same}
use Rattle.arithmetic.proofs.Sum.{sum_suc, sum_same}
use Rattle.gdi.specs.declared.GdiState.{GdiState}
use Rattle.gdi.specs.declared.Slot.{Slot}
use Rattle.gdi.specs.declared.GdiObject.{GdiObject}
use Rattle.gdi.specs.Record.{no_slot, bytes_of}
use Rattle.gdi.specs.Stock.{is_stock}
use Rattle.gdi.specs.Lookup.{handle_at}
use Rattle.sound.specs.Sound.{object_fits, slot_fits, absent, distinct, used, is_sound}
use Rattle.sound.proofs.Sound.{parts, whole, table_long}
use Rattle.place.specs.Place.{slots_from, live}
use Rattle.handles.specs.Handles.{free, new_handle, inserted, added_as, added}
use Rattle.handles.proofs.Pigeon.{new_free}

module _ (l : List Slot) (n : ℕ) (s : Slot) (long : n ≤ length l) where
  pub slot_old : (i : ℕ) → i < n → get_or (inserted l n s) i no_slot ≡ get_or l i no_slot
  slot_old i lt =
      let h : length (take n l) ≡ n = length-take-le n l long in
      get_or-append (take n l) (s ∷ drop (suc n) l) no_slot i (omega arith) ∙ get_or-take n l i no_slot lt

  pub slot_new : get_or (inserted l n s) n no_slot ≡ s
  slot_new = get_or_at (take n l) s (drop (suc n) l) no_slot n (length-take-le n l long)

  -- a test and a sum over the slots
  all_added : (p : Slot → Bool) → p s ≡ true → all_below n (λ i. p (get_or l i no_slot)) ≡ true → all_below (n + 1) (λ i. p (get_or (inserted l n s) i no_slot)) ≡ true
  all_added p e a =
      all_more n (λ i. p (get_or (inserted l n s) i no_slot))
      (all_same n (λ i. p (get_or (inserted l n s) i no_slot)) (λ i. p (get_or l i no_slot)) (λ i lt. ap p (slot_old i lt)) ∙ a)
      (ap p slot_new ∙ e)

  sum_added : (f : Slot → ℕ) → sum_below (n + 1) (λ i. f (get_or (inserted l n s) i no_slot)) ≡ sum_below n (λ i. f (get_or l i no_slot)) + f s
  sum_added f =
      rw (add-one, sum_suc, slot_new)
      (ap (λ (m : ℕ). m + f s) (sum_same n (λ i. f (get_or (inserted l n s) i no_slot)) (λ i. f (get_or l i no_slot)) (λ i lt. ap f (slot_old i lt))))

  -- handles that differ
  absent_same : (k h : ℕ) → k ≤ n → absent (inserted l n s) k h ≡ absent l k h
  absent_same k h le =
      all_same k (λ j. not (eqb (handle_at (inserted l n s) j) h)) (λ j. not (eqb (handle_at l j) h))
      (λ j lt. ap (λ (z : Slot). not (eqb z.handle h)) (slot_old j (omega arith)))

  distinct_added : absent l n s.handle ≡ true → distinct l n ≡ true → distinct (inserted l n s) (n + 1) ≡ true
  distinct_added e d =
      all_more n (λ k. absent (inserted l n s) k (handle_at (inserted l n s) k))
      (all_same n (λ k. absent (inserted l n s) k (handle_at (inserted l n s) k)) (λ k. absent l k (handle_at l k))
      (λ k lt. absent_same k _ (omega arith) ∙ ap (λ (z : Slot). absent l k z.handle) (slot_old k lt)) ∙ d)
      (absent_same n _ (omega arith) ∙ ap (λ (z : Slot). absent l n z.handle) slot_new ∙ e)

  slots_added : (k m : ℕ) → k + m ≡ n → slots_from (inserted l n s) k (suc m) ≡ slots_from l k m ++ (s ∷ [])
  unfolding slots_from
  slots_added k zero e = let z : k ≡ n = omega arith in rw (z, slot_new)
  slots_added k (suc m) e = rw (slot_old k (omega arith), slots_added (suc k) m (omega arith))

-- the slot of the new object
abbrev pub new_slot : GdiState → GdiObject → Slot
new_slot b o = record { handle = new_handle b; object = o }

-- a free handle is not 0, not stock and not live
record Free (l : List Slot) (n h : ℕ) : Type 0 where
  no_zero : not (eqb h 0) ≡ true
  no_stock : not (is_stock h) ≡ true
  no_live : absent l n h ≡ true

free_parts : (l : List Slot) (n h : ℕ) → free l n h ≡ true → Free l n h
unfolding free
free_parts l n h e =
    let p = both (not (eqb h 0)) (not (is_stock h) && absent l n h) e in
    let q = both (not (is_stock h)) (absent l n h) p.1 in
    record { no_zero = p.0; no_stock = q.0; no_live = q.1 }

module _ (b : GdiState) (sound : is_sound b ≡ true) where
  new : Free b.objects b.count (new_handle b)
  new = free_parts b.objects b.count (new_handle b) (new_free b.objects b.count b.next_handle (parts b sound).count)

  pub new_no_stock : is_stock (new_handle b) ≡ false
  new_no_stock = not-true _ new.no_stock

  pub new_absent : absent b.objects b.count (new_handle b) ≡ true
  new_absent = new.no_live

module _ (b : GdiState) (o : GdiObject) (sound : is_sound b ≡ true) where
  pub live_added : live (added b o) ≡ live b ++ (new_slot b o ∷ [])
  unfolding added
  live_added = rw add-one (slots_added b.objects b.count (new_slot b o) (table_long (parts b sound)) 0 b.count (omega arith))

  -- the record is sound again
  pub added_sound : object_fits o ≡ true → b.count < 256 → used b + bytes_of o ≤ b.store_len → is_sound (added b o) ≡ true
  unfolding added
  added_sound fits room bytes =
      let s = parts b sound in
      let long : b.count ≤ length b.objects = table_long s in
      whole (added_as b (new_handle b) o) (record {
        panel_len = s.panel_len;
        store_len = s.store_len;
        count = omega arith;
        width = s.width;
        height = s.height;
        panel = s.panel;
        screen = s.screen;
        slots = all_added b.objects b.count (new_slot b o) long slot_fits (together (new b sound).no_zero (together (new b sound).no_stock fits)) s.slots;
        apart = distinct_added b.objects b.count (new_slot b o) long (new_absent b sound) s.apart;
        store = rw (sum_added b.objects b.count (new_slot b o) long (λ (z : Slot). bytes_of z.object)) (omega arith);
      })
