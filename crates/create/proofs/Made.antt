-- The steps of the create calls follow their plans. Assumes nothing.
use mathlib.Core.Bool.{true}
use mathlib.Core.List.{List}
use mathlib.Core.Path.{◌≡◌, refl, sym, ◌∙◌, ap}
use Prim.Native.Nat.{ℕ, ◌+◌, ◌<◌, ◌≤◌}
use native.Mathlib.Omega.{arith}
use Rattle.gdi.specs.declared.GdiObject.{GdiObject}
use Rattle.gdi.specs.declared.GdiObject.TheVariants.{Bitmap}
use Rattle.gdi.specs.Record.{bytes_of, fresh_bitmap}
use Rattle.numbers.specs.Layout.{store_len_place, count_place}
use Rattle.numbers.specs.Block.{at}
use Rattle.numbers.specs.View.{view, is_record, Updated}
use Rattle.numbers.proofs.Seen.{count_seen, store_len_seen}
use Rattle.sound.specs.Sound.{start_of, used}
use Rattle.memory.specs.Gap.{blanked}
use Rattle.handles.specs.Handles.{new_handle, added_as, added}
use Rattle.paint.specs.Memories.{Memories, memories}
use Rattle.paint.specs.Paint.{painted_by, after}
use Rattle.plan.specs.Answer.{Parts, refused, answered}
use Rattle.plan.specs.Create.{creation, create_of, side_of, create_bitmap}
use Rattle.plan.specs.Followed.{Followed}
use Rattle.plan.proofs.Create.{full_plan, short_plan, creation_plan, wide_plan, high_plan, bitmap_plan}
use Rattle.plan.proofs.Followed.{followed_as, refusal, acceptance}

-- `make`: a full table, a full store, and a new object
module _ (l : List ℕ) (r : is_record l ≡ true) (o : GdiObject) where
  pub full : 256 ≤ at l count_place → (ms : Memories) → Followed (create_of (view l) o) l ms (refused 5) l ms
  full le ms = refusal r (full_plan (view l) o (omega (arith, count_seen l)))

  module _ (few : at l count_place < 256) {start n : ℕ} (begin : start ≡ start_of (view l) (at l count_place)) (bytes : n ≡ bytes_of o) where
    fewer : (view l).count < 256
    fewer = omega (arith, count_seen l)

    ends : start ≡ used (view l)
    ends = begin ∙ ap (start_of (view l)) (sym (count_seen l))

    pub short : at l store_len_place < start + n → (ms : Memories) → Followed (create_of (view l) o) l ms (refused 7) l ms
    short lt ms = refusal r (short_plan (view l) o fewer (omega (arith, store_len_seen l, ends, bytes)))

    pub new : {h : ℕ} {l' s s' : List ℕ} → start + n ≤ at l store_len_place → s' ≡ blanked s start n → h ≡ new_handle (view l) → Updated l (added_as (view l) h o) l'
        → (panel : List ℕ) → Followed (create_of (view l) o) l (memories panel s) (answered h) l' (memories panel s')
    unfolding after painted_by added
    new fits zeroed named appended panel =
        acceptance refl (rw (plan, named)) appended (rw plan (ap (memories panel) (zeroed ∙ rw (ends, bytes))))
      where
        plan : create_of (view l) o ≡ creation (view l) o
        plan = creation_plan (view l) o fewer (omega (arith, store_len_seen l, ends, bytes, fits))

-- `create_compatible_bitmap`: a side that is too long, and the sides that the code uses
module _ (l : List ℕ) (w h : ℕ) where
  pub too_wide : is_record l ≡ true → 4096 < w → (ms : Memories) → Followed (create_bitmap (view l) w h) l ms (refused 6) l ms
  too_wide r lt ms = refusal r (wide_plan w h (view l) lt)

  module _ (wide : w ≤ 4096) where
    pub too_high : is_record l ≡ true → 4096 < h → (ms : Memories) → Followed (create_bitmap (view l) w h) l ms (refused 6) l ms
    too_high r lt ms = refusal r (high_plan w h (view l) wide lt)

    pub sized : h ≤ 4096 → {x y : ℕ} {a : Parts} {l' : List ℕ} {ms ms' : Memories} → x ≡ side_of w → y ≡ side_of h
        → Followed (create_of (view l) (Bitmap (fresh_bitmap x y))) l ms a l' ms' → Followed (create_bitmap (view l) w h) l ms a l' ms'
    sized high width height f = followed_as (bitmap_plan w h (view l) wide high ∙ rw (width, height)) f
