-- No refused call changes anything. Assumes nothing.
use Rattle.std.specs.Prelude.{Option, Some, None}
use mathlib.Core.Bool.{Bool, true, false, cond, ◌||◌}
use mathlib.Core.List.{List}
use mathlib.Core.Path.{◌≡◌, refl}
use Prim.Native.Nat.{ℕ, ◌+◌}
use lib.Dec.{eqb, leb, ltb}
use Rattle.gdi.specs.declared.Spot.{Spot}
use Rattle.gdi.specs.declared.GdiState.{GdiState}
use Rattle.gdi.specs.declared.GdiObject.{GdiObject}
use Rattle.gdi.specs.declared.Dc.{Dc}
use Rattle.gdi.specs.declared.Kind.{Kind}
use Rattle.gdi.specs.Record.{bytes_of}
use Rattle.gdi.specs.Stock.{is_stock}
use Rattle.gdi.specs.Lookup.{find_of, dc_of, kind_of}
use Rattle.sound.specs.Sound.{used}
use Rattle.ready.specs.Ready.{common_refusal}
use Rattle.plan.specs.declared.Call.{Call}
use Rattle.plan.specs.declared.Call.TheVariants.{CreateMemoryDc, CreateCompatibleBitmap, CreateSolidBrush, CreatePen, CreateFont, Delete, Remove, SelectInto, SetTextColor, SetTextAlign, SetBkColor, SetBkMode, PatternFill, Rectangle, Text, PanelFill, Resize, Blit, MoveTo, LineTo}
use Rattle.plan.specs.Answer.{Parts, answered}
use Rattle.plan.specs.Plan.{Plan, record_only, refuse}
use Rattle.plan.specs.Create.{creation, new_bitmap, create_of, create_bitmap}
use Rattle.plan.specs.Delete.{deletion_at, deletion_of}
use Rattle.plan.specs.Select.{is_other, select_at, select_into}
use Rattle.plan.specs.Settings.{setting_at, setting}
use Rattle.plan.specs.Calls.{act, Invocation, call as call_of, load, save, when_ready, plan}
use Rattle.plan.specs.Refusal.{refusal_number, RefusalsKeep}
use Rattle.plan.proofs.Cases.{pattern_fill_by, rectangle_by, text_by, move_by, line_by, blit_by, resize_by, load_by, save_by}

-- a plan that changes nothing if it refuses
record Keeps (b : GdiState) (p : Plan) : Type 0 where
  keeps : (refusal_number p ≡ 0 → ⊥) → p ≡ refuse (refusal_number p) b

refusal : (b : GdiState) (n : ℕ) → Keeps b (refuse n b)
refusal b n = record { keeps = λ h. refl }

accepted : (b : GdiState) (p : Plan) → refusal_number p ≡ 0 → Keeps b p
accepted b p e = record { keeps = λ h. absurd (h e) }

create : (b : GdiState) (o : GdiObject) → Keeps b (create_of b o)
unfolding create_of
create b o = by (leb 256 b.count) (ltb b.store_len (used b + bytes_of o))
  where
    by : (s t : Bool) → Keeps b (cond s (refuse 5 b) (cond t (refuse 7 b) (creation b o)))
    by true t = refusal b 5
    by false true = refusal b 7
    by false false = accepted b _ refl

bitmap : (b : GdiState) (w h : ℕ) → Keeps b (create_bitmap b w h)
unfolding create_bitmap
bitmap b w h = by (ltb 4096 w || ltb 4096 h)
  where
    by : (t : Bool) → Keeps b (cond t (refuse 6 b) (create_of b (new_bitmap w h)))
    by true = refusal b 6
    by false = create b (new_bitmap w h)

module _ (stock : Parts) (gone : ℕ → Parts) (none : Parts) (b : GdiState) (h : ℕ)
    (s : stock.number ≡ 0) (g : (i : ℕ) → (gone i).number ≡ 0) (n : none.number ≡ 0) where
  leave : Keeps b (deletion_of stock gone none b h)
  unfolding deletion_of
  leave = by (is_stock h) (find_of b h)
    where
      by : (t : Bool) (q : Option ℕ) → Keeps b (cond t (record_only b stock) (deletion_at gone none b h q))
      by true q = accepted b _ s
      by false (Some i) = accepted b _ (g i)
      by false None = accepted b _ n

select : (b : GdiState) (dc h : ℕ) → Keeps b (select_into b dc h)
unfolding select_into
select b dc h = by (is_other (kind_of b h)) (kind_of b h) (dc_of b dc)
  where
    by : (t : Bool) (k : Kind) (q : Option (Spot × Dc)) → Keeps b (cond t (record_only b (answered 0)) (select_at b dc h k q))
    by true k q = accepted b _ refl
    by false k (Some (p, d)) = accepted b _ refl
    by false k None = accepted b _ refl

set : (old : Dc → Parts) (new : Dc → Dc) (b : GdiState) (dc : ℕ) → ((d : Dc) → (old d).number ≡ 0) → Keeps b (setting old new b dc)
unfolding setting
set old new b dc e = by (dc_of b dc)
  where
    by : (q : Option (Spot × Dc)) → Keeps b (setting_at old new b dc q)
    by (Some (p, d)) = accepted b _ (e d)
    by None = refusal b 1

-- one line for each call
call : (c : Call) (us : List ℕ) (b : GdiState) → Keeps b (act c us b)
unfolding act
call CreateMemoryDc us b = create b _
call (CreateCompatibleBitmap w h) us b = bitmap b w h
call (CreateSolidBrush c) us b = create b _
call (CreatePen c w) us b = create b _
call (CreateFont h) us b = create b _
call (Delete h) us b = leave _ _ _ b h refl (λ i. refl) refl
call (Remove h) us b = leave _ _ _ b h refl (λ i. refl) refl
call (SelectInto dc h) us b = select b dc h
call (SetTextColor dc c) us b = set _ _ b dc (λ d. refl)
call (SetTextAlign dc v) us b = set _ _ b dc (λ d. refl)
call (SetBkColor dc c) us b = set _ _ b dc (λ d. refl)
call (SetBkMode dc t) us b = set _ _ b dc (λ d. refl)
call (PatternFill dc a rop) us b = pattern_fill_by (Keeps b) b (refusal b) dc a rop (λ s d. accepted b _ refl)
call (Rectangle dc a) us b = rectangle_by (Keeps b) b (refusal b) dc a (λ s d. accepted b _ refl)
call (Text dc at) us b = text_by (Keeps b) b (refusal b) us dc at (λ s d. accepted b _ refl)
call (PanelFill c) us b = accepted b _ refl
call (Resize w h) us b = resize_by (Keeps b) b (refusal b) w h (accepted b _ refl) (λ e f g. accepted b _ refl)
call (Blit dc a src from rop) us b = blit_by (Keeps b) b (refusal b) dc a src from rop (λ s d. accepted b _ refl) (λ s d q. accepted b _ refl)
call (MoveTo dc to) us b = move_by (Keeps b) b (refusal b) dc to (λ e d. accepted b _ refl)
call (LineTo dc to) us b = line_by (Keeps b) b (refusal b) dc to (λ e s d. accepted b _ refl)

-- what is asked, if the device is ready
ready_keeps : (b : GdiState) (n k : ℕ) {p : Plan} → Keeps b p → Keeps b (when_ready b n k p)
ready_keeps b n k {p} keeps = by (eqb (common_refusal b n k) 0)
  where
    by : (t : Bool) → Keeps b (cond t p (refuse (common_refusal b n k) b))
    by true = keeps
    by false = refusal b _

invocation : (c : Invocation) (b : GdiState) (n k : ℕ) → Keeps b (plan c b n k)
unfolding plan
invocation (call_of c us) b n k = ready_keeps b n k (call c us b)
invocation (load bytes) b n k = ready_keeps b n k (load_by (Keeps b) b (refusal b) bytes (λ e f. accepted b _ refl))
invocation (save room) b n k = save_by (Keeps b) b (refusal b) room (accepted b _ refl)

pub refusals_keep : RefusalsKeep
refusals_keep c b n k = (invocation c b n k).keeps
