-- Delete and remove: the object that is found, as the code reads it, and the cases of their plans. Assumes nothing.
use Rattle.std.specs.Prelude.{Option, Some, None}
use mathlib.Core.Bool.{true, false}
use mathlib.Core.List.{List}
use mathlib.Core.Path.{◌≡◌, sym, ◌∙◌}
use Prim.Native.Nat.{ℕ, ◌+◌, ◌-◌, ◌<◌}
use native.Mathlib.Omega.{arith}
use Rattle.words.specs.Parts.{part}
use Rattle.gdi.specs.declared.GdiState.{GdiState}
use Rattle.gdi.specs.declared.GdiObject.{GdiObject}
use Rattle.gdi.specs.Record.{bytes_of}
use Rattle.gdi.specs.Stock.{is_stock}
use Rattle.gdi.specs.Lookup.{object_at, find_of}
use Rattle.numbers.specs.Layout.{object_size, slot_size, count_place, slot_place, kind_place, object_place}
use Rattle.numbers.specs.Block.{at, object_of}
use Rattle.numbers.specs.View.{view, is_record, Updated}
use Rattle.numbers.proofs.Seen.{object_seen}
use Rattle.sound.specs.Sound.{start_of, used}
use Rattle.memory.specs.Gap.{closed_up}
use Rattle.removal.specs.Removal.{without_at}
use Rattle.paint.specs.Memories.{memories}
use Rattle.paint.specs.Paint.{painted_by, after}
use Rattle.plan.specs.Answer.{Parts}
use Rattle.plan.specs.Plan.{record_only}
use Rattle.plan.specs.Delete.{deletion_at, deletion_of}
use Rattle.plan.specs.Followed.{Followed}
use Rattle.plan.proofs.Followed.{acceptance}

module _ (l : List ℕ) (r : is_record l ≡ true) (i : ℕ) (lt : i < at l count_place) where
  -- the object as the code reads it
  pub object_read : {o : GdiObject} → o ≡ object_of (at l (slot_place i + kind_place)) (part l (slot_place i + object_place) (slot_place i + slot_size - (slot_place i + object_place))) → o ≡ object_at (view l) i
  object_read e = let m : slot_place i + slot_size - (slot_place i + object_place) ≡ object_size = omega arith in (rw m at e) ∙ sym (object_seen l r i lt)

-- the cases of a plan: a stock object, a created one and none
module _ (stock : Parts) (gone : ℕ → Parts) (none : Parts) (b : GdiState) (h : ℕ) where
  pub stays : is_stock h ≡ true → deletion_of stock gone none b h ≡ record_only b stock
  unfolding deletion_of
  stays e = rw e

  module _ (ns : is_stock h ≡ false) {q : Option ℕ} (f : q ≡ find_of b h) where
    looked : deletion_of stock gone none b h ≡ deletion_at gone none b h q
    unfolding deletion_of
    looked = rw (ns, ← f)

    pub is_none : q ≡ None → deletion_of stock gone none b h ≡ record_only b none
    is_none g = looked ∙ rw g

    pub leaves : {i : ℕ} → q ≡ Some i → deletion_of stock gone none b h ≡ deletion_at gone none b h (Some i)
    leaves g = looked ∙ rw g

-- a created object that was removed, with the answer a
pub gone_followed : (stock : Parts) (gone : ℕ → Parts) (none : Parts) (l : List ℕ) (h : ℕ) {i : ℕ} {a : Parts} {l' store store' : List ℕ}
    → deletion_of stock gone none (view l) h ≡ deletion_at gone none (view l) h (Some i) → a ≡ gone i → a.number ≡ 0 → Updated l (without_at (view l) i) l'
    → store' ≡ closed_up 0 store (start_of (view l) i) (bytes_of (object_at (view l) i)) (used (view l))
    → (panel : List ℕ) → Followed (deletion_of stock gone none (view l) h) l (memories panel store) a l' (memories panel store')
unfolding after painted_by
gone_followed stock gone none l h e a z s closed panel = acceptance z (rw (e, a)) s (rw (e, closed))
