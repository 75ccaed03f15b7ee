-- Whatever is asked of a device keeps the 256 slots of the table, those past the count vacant, and the screen DC the screen's. Assumes
-- nothing.
use Rattle.std.specs.Prelude.{Option, Some, None}
use mathlib.Core.Bool.{Bool, true, false, cond, ◌||◌}
use mathlib.Core.List.{List, [], ◌∷◌}
use mathlib.Core.Path.{◌≡◌, refl, sym, ◌∙◌, ap}
use Prim.Native.Nat.{ℕ, suc, ◌+◌, ◌-◌, ◌≤◌, ◌<◌}
use native.Mathlib.Decide.{dec_lt}
use native.Mathlib.Omega.{arith}
use lib.Dec.{eqb, leb, ltb}
use lib.ListN.{length, get_or, take, drop, length-append, length-take, length-drop, length-set, length-replicate, get_or-replicate}
use lib.Seq.{get_or-set_other, get_or-append-add, get_or-drop, length-take-le}
use borrow.Author.Tests.{eqb-true, le-ltb, leb-false}
use Rattle.gdi.specs.declared.GdiState.{GdiState}
use Rattle.gdi.specs.declared.GdiObject.{GdiObject}
use Rattle.gdi.specs.declared.Slot.{Slot}
use Rattle.gdi.specs.declared.Dc.{Dc}
use Rattle.gdi.specs.declared.Spot.{Spot}
use Rattle.gdi.specs.declared.Spot.TheVariants.{Screen, Created}
use Rattle.gdi.specs.Record.{no_slot, vacant_slot, bytes_of}
use Rattle.gdi.specs.Updates.{with_sides, with_stock_dirty, with_dc}
use Rattle.gdi.specs.Stock.{is_stock, stock_bitmap}
use Rattle.gdi.specs.Lookup.{slot_at, find_of, dc_of, kind_of}
use Rattle.gdi.proofs.Scan.{found_count, dc_found_lem, screen_found}
use Rattle.bits.specs.Bits.{bits_of, field_at}
use Rattle.numbers.specs.Block.{dc_fields}
use Rattle.numbers.proofs.View.{length_table, table_slot}
use Rattle.sound.specs.Sound.{used}
use Rattle.saved_table.specs.Held.{slot_held, start_held, record_held, held_by}
use Rattle.sound.proofs.Sound.{Sound, parts, table_long}
use Rattle.memory.proofs.Gap.{closed_length, closed_freed, closed_past}
use Rattle.ready.specs.Ready.{common_refusal}
use Rattle.ready.proofs.Ready.{ready}
use Rattle.place.specs.declared.SurfaceId.{SurfaceId}
use Rattle.place.specs.declared.SurfaceId.TheVariants.{Panel, Bitmap}
use Rattle.dirty.specs.Dirty.{next_frame, created_dirtied, dirtied, dirtied_if}
use Rattle.handles.specs.Handles.{inserted, added}
use Rattle.removal.specs.Removal.{without_at}
use Rattle.plan.specs.declared.Call.{Call}
use Rattle.plan.specs.declared.Call.TheVariants.{CreateMemoryDc, CreateCompatibleBitmap, CreateSolidBrush, CreatePen, CreateFont, Delete, Remove, SelectInto, SetTextColor, SetTextAlign, SetBkColor, SetBkMode, PatternFill, Rectangle, Text, PanelFill, Resize, Blit, MoveTo, LineTo}
use Rattle.plan.specs.Answer.{Parts, answered}
use Rattle.plan.specs.Plan.{Plan, record_only, refuse}
use Rattle.plan.specs.Stroke.{Stroke, dirtied_by}
use Rattle.plan.specs.Create.{creation, new_bitmap, create_of, create_bitmap}
use Rattle.plan.specs.Delete.{deletion_at, deletion_of}
use Rattle.plan.specs.Select.{is_other, select_at, select_into}
use Rattle.plan.specs.Settings.{setting_at, setting}
use Rattle.plan.specs.declared.Point.{Point}
use Rattle.plan.specs.Lines.{moved_at, moved_to}
use Rattle.plan.specs.Load.{load_table}
use Rattle.plan.specs.Calls.{act, Invocation, call, load, save, when_ready, plan}
use Rattle.plan.specs.Restorable.{Restorable, StaysRestorable}
use Rattle.plan.proofs.Cases.{pattern_fill_by, rectangle_by, text_by, move_by, line_by, blit_by, resize_by, load_by, save_by}
use Rattle.plan.proofs.Select.{select_same}

-- a slot after the inserted one
behind : (l : List Slot) (n : ℕ) (s : Slot) → n ≤ length l → (i : ℕ) → n < i → get_or (inserted l n s) i no_slot ≡ get_or l i no_slot
behind l n s long i lt =
    let h : length (take n l) ≡ n = length-take-le n l long in
    let e : i ≡ length (take n l) + suc (i - suc n) = omega arith in
    let f : suc n + (i - suc n) ≡ i = omega arith in
    ap (λ (j : ℕ). get_or (inserted l n s) j no_slot) e
    ∙ get_or-append-add (take n l) (s ∷ drop (suc n) l) (suc (i - suc n)) no_slot
    ∙ get_or-drop (suc n) l (i - suc n) no_slot
    ∙ ap (λ (j : ℕ). get_or l j no_slot) f

inserted_long : (l : List Slot) (n : ℕ) (s : Slot) → n < length l → length (inserted l n s) ≡ length l
inserted_long l n s lt = simp (length-append, length-take, length-drop) (omega arith)

module _ (b : GdiState) (sound : Sound b) (v : Restorable b) where
  -- one object is added
  added_restorable : (o : GdiObject) → b.count < 256 → Restorable (added b o)
  unfolding added
  added_restorable o few = record { table = inserted_long b.objects b.count _ (omega (arith, v.table)) ∙ v.table; vacant = λ i le lt. behind b.objects b.count _ (table_long sound) i (omega arith) ∙ v.vacant i (omega arith) lt; screen = v.screen }

  create_restorable : (o : GdiObject) → Restorable (create_of b o).outcome.state
  unfolding create_of
  create_restorable o = by (leb 256 b.count) refl (ltb b.store_len (used b + bytes_of o))
    where
      by : (s : Bool) → leb 256 b.count ≡ s → (t : Bool) → Restorable (cond s (refuse 5 b) (cond t (refuse 7 b) (creation b o))).outcome.state
      by true e t = v
      by false e true = v
      by false e false = added_restorable o (leb-false 256 b.count e)

  bitmap_restorable : (w h : ℕ) → Restorable (create_bitmap b w h).outcome.state
  unfolding create_bitmap
  bitmap_restorable w h = by (ltb 4096 w || ltb 4096 h)
    where
      by : (t : Bool) → Restorable (cond t (refuse 6 b) (create_of b (new_bitmap w h))).outcome.state
      by true = v
      by false = create_restorable (new_bitmap w h)

  -- one object is removed
  gone_restorable : (i : ℕ) → i < b.count → Restorable (without_at b i)
  unfolding without_at
  gone_restorable i lt = record { table = closed_length vacant_slot b.objects i 1 b.count (omega arith) (table_long sound) ∙ v.table; vacant = λ j le few. by j le few (dec_lt j b.count); screen = v.screen }
    where
      fits : b.count ≤ length b.objects
      fits = table_long sound

      by : (j : ℕ) → b.count - 1 ≤ j → j < 256 → Dec (j < b.count) → slot_at (without_at b i) j ≡ vacant_slot
      by j le few (yes c) = closed_freed vacant_slot b.objects i 1 b.count (omega arith) fits no_slot j le c
      by j le few (no c) = closed_past vacant_slot b.objects i 1 b.count (omega arith) fits no_slot j (omega arith) ∙ v.vacant j (omega arith) few

  goes_restorable : (stock : Parts) (gone : ℕ → Parts) (none : Parts) (h : ℕ) → Restorable (deletion_of stock gone none b h).outcome.state
  unfolding deletion_of
  goes_restorable stock gone none h = by (is_stock h) (find_of b h) refl
    where
      by : (t : Bool) (q : Option ℕ) → find_of b h ≡ q → Restorable (cond t (record_only b stock) (deletion_at gone none b h q)).outcome.state
      by true q e = v
      by false (Some i) e = gone_restorable i (found_count b h e)
      by false None e = v

  -- a DC's record changes
  updated_restorable : (dc : ℕ) (p : Spot) (d₀ d : Dc) → dc_of b dc ≡ Some (p, d₀) → d.surface ≡ d₀.surface → Restorable (with_dc b dc p d)
  updated_restorable dc Screen d₀ d e f = record { table = v.table; vacant = v.vacant; screen = f ∙ ap (λ (x : Dc). x.surface) (sym (screen_found b dc e)) ∙ v.screen }
  updated_restorable dc (Created i) d₀ d e f =
      let lt : i < b.count = found_count b dc (dc_found_lem b dc e).0 in
      record { table = length-set b.objects i _ ∙ v.table; vacant = λ j le few. get_or-set_other b.objects i j _ no_slot (λ q. absurd (omega (arith, q, lt))) ∙ v.vacant j le few; screen = v.screen }

  select_restorable : (dc h : ℕ) → Restorable (select_into b dc h).outcome.state
  unfolding select_into
  select_restorable dc h = by (is_other (kind_of b h)) (dc_of b dc) refl
    where
      by : (t : Bool) (q : Option (Spot × Dc)) → dc_of b dc ≡ q → Restorable (cond t (record_only b (answered 0)) (select_at b dc h (kind_of b h) q)).outcome.state
      by true q e = v
      by false (Some (p, d)) e = updated_restorable dc p d _ e (select_same d h (kind_of b h)).surface
      by false None e = v

  setting_restorable : (old : Dc → Parts) (new : Dc → Dc) → ((d : Dc) → (new d).surface ≡ d.surface) → (dc : ℕ) → Restorable (setting old new b dc).outcome.state
  unfolding setting
  setting_restorable old new same dc = by (dc_of b dc) refl
    where
      by : (q : Option (Spot × Dc)) → dc_of b dc ≡ q → Restorable (setting_at old new b dc q).outcome.state
      by (Some (p, d)) e = updated_restorable dc p d _ e (same d)
      by None e = v

  moved_restorable : (dc : ℕ) (to : Point) → Restorable (moved_to b dc to)
  moved_restorable dc to = by (dc_of b dc) refl
    where
      by : (q : Option (Spot × Dc)) → dc_of b dc ≡ q → Restorable (moved_at b dc to q)
      by (Some (p, d)) e = updated_restorable dc p d _ e refl
      by None e = v

-- a dirty mark is made
next_frame_restorable : (b : GdiState) → Restorable b → Restorable (next_frame b)
next_frame_restorable b v = record { table = v.table; vacant = v.vacant; screen = v.screen }

dirtied_restorable : (b : GdiState) (s : SurfaceId) → Restorable b → Restorable (dirtied b s)
unfolding dirtied
dirtied_restorable b Panel v = next_frame_restorable b v
dirtied_restorable b (Bitmap h) v = by (eqb h stock_bitmap) (find_of b h) refl
  where
    by : (t : Bool) (q : Option ℕ) → find_of b h ≡ q → Restorable (cond t (with_stock_dirty b) (created_dirtied b q))
    by true q e = record { table = v.table; vacant = v.vacant; screen = v.screen }
    by false (Some i) e =
        let lt : i < b.count = found_count b h e in
        record { table = length-set b.objects i _ ∙ v.table; vacant = λ j le few. get_or-set_other b.objects i j _ no_slot (λ q. absurd (omega (arith, q, lt))) ∙ v.vacant j le few; screen = v.screen }
    by false None e = v

dirtied_if_restorable : (due : Bool) (s : SurfaceId) (b : GdiState) → Restorable b → Restorable (dirtied_if due s b)
unfolding dirtied_if
dirtied_if_restorable true s b v = dirtied_restorable b s v
dirtied_if_restorable false s b v = v

strokes_restorable : (ss : List Stroke) (b : GdiState) → Restorable b → Restorable (dirtied_by b ss)
unfolding dirtied_by
strokes_restorable [] b v = v
strokes_restorable (s ∷ ss) b v = strokes_restorable ss _ (dirtied_if_restorable s.due s.drawing.target b v)

module _ (b : GdiState) (sound : Sound b) (v : Restorable b) where
  abbrev After : Plan → Type 0
  After p = Restorable p.outcome.state

  none : (n : ℕ) → After (refuse n b)
  none n = v

  -- one line for each call
  act_restorable : (c : Call) (us : List ℕ) → Restorable (act c us b).outcome.state
  unfolding act
  act_restorable CreateMemoryDc us = create_restorable b sound v _
  act_restorable (CreateCompatibleBitmap w h) us = bitmap_restorable b sound v w h
  act_restorable (CreateSolidBrush c) us = create_restorable b sound v _
  act_restorable (CreatePen c w) us = create_restorable b sound v _
  act_restorable (CreateFont h) us = create_restorable b sound v _
  act_restorable (Delete h) us = goes_restorable b sound v _ _ _ h
  act_restorable (Remove h) us = goes_restorable b sound v _ _ _ h
  act_restorable (SelectInto dc h) us = select_restorable b sound v dc h
  act_restorable (SetTextColor dc c) us = setting_restorable b sound v _ _ (λ d. refl) dc
  act_restorable (SetTextAlign dc t) us = setting_restorable b sound v _ _ (λ d. refl) dc
  act_restorable (SetBkColor dc c) us = setting_restorable b sound v _ _ (λ d. refl) dc
  act_restorable (SetBkMode dc t) us = setting_restorable b sound v _ _ (λ d. refl) dc
  act_restorable (PatternFill dc a rop) us = pattern_fill_by After b none dc a rop (λ s d. strokes_restorable _ b v)
  act_restorable (Rectangle dc a) us = rectangle_by After b none dc a (λ s d. strokes_restorable _ b v)
  act_restorable (Text dc at) us = text_by After b none us dc at (λ s d. strokes_restorable _ b v)
  act_restorable (PanelFill c) us = strokes_restorable _ b v
  act_restorable (Resize w h) us = resize_by After b none w h v (λ e f g. dirtied_restorable (with_sides b w h) Panel (record { table = v.table; vacant = v.vacant; screen = v.screen }))
  act_restorable (Blit dc a src from rop) us = blit_by After b none dc a src from rop (λ s d. strokes_restorable _ b v) (λ s d q. strokes_restorable _ b v)
  act_restorable (MoveTo dc to) us = move_by After b none dc to (λ e d. moved_restorable b sound v dc to)
  act_restorable (LineTo dc to) us = line_by After b none dc to (λ e s d. strokes_restorable _ (moved_to b dc to) (moved_restorable b sound v dc to))

-- a loaded record: its slots are those of the table, and its screen DC is the screen's
held_restorable : (b : GdiState) (bytes : List ℕ) → Restorable (held_by b bytes)
unfolding record_held dc_fields
held_restorable b bytes =
    let bs : List ℕ = bits_of bytes in
    let n : ℕ = field_at bs 62 9 in
    let slot : ℕ → Slot = λ i. cond (ltb i n) (slot_held bs (start_held bs i)) vacant_slot in
    record {
      table = length_table slot 0 256;
      vacant = λ i le lt. table_slot slot i lt ∙ ap (λ (t : Bool). cond t (slot_held bs (start_held bs i)) vacant_slot) (le-ltb i n le);
      screen = refl;
    }

-- what is asked, if the device is ready
ready_restorable : (b : GdiState) (n k : ℕ) (p : Plan) → Restorable b → (Sound b → Restorable p.outcome.state) → Restorable (when_ready b n k p).outcome.state
ready_restorable b n k p v f = by (eqb (common_refusal b n k) 0) refl
  where
    by : (t : Bool) → eqb (common_refusal b n k) 0 ≡ t → Restorable (cond t p (refuse (common_refusal b n k) b)).outcome.state
    by true e = f (parts b (ready b n k _ refl (eqb-true _ _ e)).sound)
    by false e = v

invocation_restorable : (c : Invocation) (b : GdiState) (n k : ℕ) → Restorable b → Restorable (plan c b n k).outcome.state
unfolding plan
invocation_restorable (call c us) b n k v = ready_restorable b n k (act c us b) v (λ s. act_restorable b s v c us)
invocation_restorable (load bytes) b n k v = ready_restorable b n k (load_table b bytes) v (λ s. load_by (λ (p : Plan). Restorable p.outcome.state) b (λ m. v) bytes (λ e f. dirtied_restorable (held_by b bytes) Panel (held_restorable b bytes)))
invocation_restorable (save room) b n k v = save_by (λ (p : Plan). Restorable p.outcome.state) b (λ m. v) room v

pub stays_restorable : StaysRestorable
stays_restorable =
    record {
      first = λ n k w h. record { table = length-replicate 256 vacant_slot; vacant = λ i le lt. get_or-replicate 256 i vacant_slot no_slot lt; screen = refl };
      stays = invocation_restorable;
    }
