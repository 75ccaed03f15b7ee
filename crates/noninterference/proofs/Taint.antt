-- The pixels tainted after each call are those that document 01 names, and no others. Assumes nothing.
use Rattle.std.specs.Prelude.{Some, None}
use mathlib.Core.Bool.{Bool, true, false, cond, ◌||◌, not}
use mathlib.Core.List.{List, []}
use mathlib.Core.Logic.Iff
use mathlib.Core.Logic.{◌⊎◌, ◌↔◌, inl, inr}
use mathlib.Core.Path.{◌≡◌, refl, sym, ◌∙◌, ap}
use Prim.Native.Nat.{ℕ, ◌+◌}
use native.Mathlib.Omega.{arith}
use lib.Dec.{eqb, leb, ltb}
use borrow.Author.Tests.{eqb-false}
use Rattle.rop3.specs.Rop3.{table_of, uses_src, uses_dst}
use Rattle.text.specs.Ink.{unit_count, text_ink}
use Rattle.gdi.specs.declared.GdiState.{GdiState}
use Rattle.gdi.specs.declared.GdiObject.{GdiObject}
use Rattle.gdi.specs.declared.Dc.{Dc}
use Rattle.gdi.specs.Record.{size, bytes_of, is_position}
use Rattle.gdi.specs.Stock.{is_stock, stock_bitmap}
use Rattle.gdi.specs.Lookup.{find_of}
use Rattle.sound.specs.Sound.{used, sizes_fit}
use Rattle.ready.specs.Ready.{common_refusal}
use Rattle.saved_table.specs.Held.{held_by, is_table}
use Rattle.place.specs.declared.Site.{Site}
use Rattle.place.specs.declared.SurfaceId.{SurfaceId}
use Rattle.place.specs.declared.SurfaceId.TheVariants.{Panel, Bitmap}
use Rattle.place.specs.Place.{same, where_is, target_of, on}
use Rattle.place.proofs.Apart.{clash}
use Rattle.handles.specs.Handles.{new_handle}
use Rattle.paint.specs.Paint.{draw, closing}
use Rattle.paint.specs.Taint.{Taint, tainted_by, tainted, Keeps, Exactly, Untaints, Clears, everywhere}
use Rattle.paint.proofs.After.{ruled, draw_exact, two_exact, blank_exact, close_exact}
use Rattle.plan.specs.Answer.{Parts, refused, answered}
use Rattle.plan.specs.declared.Area.{Area}
use Rattle.plan.specs.declared.Point.{Point}
use Rattle.plan.specs.declared.Call.{Call}
use Rattle.plan.specs.declared.Call.TheVariants.{Delete, Remove, PatternFill, Rectangle, Text, PanelFill, Resize, Blit, LineTo}
use Rattle.plan.specs.Plan.{Plan, record_only, refuse}
use Rattle.plan.specs.Stroke.{paints_of}
use Rattle.plan.specs.Create.{creation, create_of, new_bitmap, create_bitmap}
use Rattle.plan.specs.Delete.{deletion_at, deletion_of}
use Rattle.plan.specs.Drawing.{patterned, box_of, rim_of, pattern_fill_on, pattern_fill, rectangle_on, rectangle, text_on, text, blit_box, blitted, blit_on, blit}
use Rattle.plan.specs.Panel.{no_effect, resized, resize}
use Rattle.plan.specs.Lines.{position_of, unless_far, line_of, line_on, line_to}
use Rattle.plan.specs.Load.{loaded, load_table}
use Rattle.plan.specs.Calls.{act, Invocation, call, load as load_of, save as save_into, plan}
use Rattle.plan.specs.Refusal.{refusal_number}
use Rattle.plan.proofs.Refusal.{refusals_keep}
use Rattle.plan.proofs.Cases.{move_by, save_by}
use Rattle.plan.proofs.Select.{select_unpainted, setting_unpainted}
use Rattle.noninterference.specs.Claim.{taint_after}
use Rattle.noninterference.specs.Taint.{Creates, memory_dc, bitmap, brush, pen, font, Sets, selection, text_color, text_align, bk_color, bk_mode, move, by_destination, by_source, number, number_for, taint_by, taint_for, ExactTaint}

-- a drawing without a source, and one without a code
plain_exact : (m : Taint) (s : SurfaceId) (region : (x y : ℕ) → Bool) (t c : ℕ) → Exactly m (tainted_by (draw (patterned s region t c)) m) s region (λ x y. (uses_dst t ≡ true) × m s x y)
plain_exact m s region t c = ruled (draw_exact m (patterned s region t c)) (λ x y. (by x y, λ i. inl i))
  where
    by : (x y : ℕ) → ((uses_dst t ≡ true) × m s x y) ⊎ ((uses_src t ≡ true) × ⊥) → (uses_dst t ≡ true) × m s x y
    by x y (inl i) = i
    by x y (inr i) = absurd i.1

solid_exact : (m : Taint) (s : SurfaceId) (region : (x y : ℕ) → Bool) (c : ℕ) → Untaints m (tainted_by (draw (patterned s region 0xF0 c)) m) s region
solid_exact m s region c = ruled (plain_exact m s region 0xF0 c) (λ x y. ((λ i. clash i.0), (λ i. absurd i)))

-- a load clears the panel and all created bitmaps
abbrev others : SurfaceId → Bool
others u = not (same u (Bitmap stock_bitmap))

loaded_clears : (b : GdiState) (m : Taint) → Clears m (tainted (loaded b).paint m) others
unfolding tainted tainted_by
loaded_clears b m = record { clear = gone; others = kept }
  where
    gone : (u : SurfaceId) (x y : ℕ) → others u ≡ true → tainted (loaded b).paint m u x y → ⊥
    gone Panel x y e z = z
    gone (Bitmap h) x y e z = rw e at z

    kept : (u : SurfaceId) (x y : ℕ) → others u ≡ false → tainted (loaded b).paint m u x y ↔ m u x y
    kept Panel x y e = clash (sym e)
    kept (Bitmap h) x y e = rw e Iff.rfl

module _ (b : GdiState) (n k : ℕ) (us : List ℕ) (m : Taint) where
  -- an accepted call has its own plan
  accepted_plan : (c : Call) → number b n k us c ≡ 0 → plan (call c us) b n k ≡ act c us b
  unfolding plan
  accepted_plan c = by (eqb (common_refusal b n k) 0) refl
    where
      by : (t : Bool) → eqb (common_refusal b n k) 0 ≡ t → refusal_number (cond t (act c us b) (refuse (common_refusal b n k) b)) ≡ 0
          → cond t (act c us b) (refuse (common_refusal b n k) b) ≡ act c us b
      by true f e = refl
      by false f e = absurd (eqb-false _ _ f e)

  -- the taint after the paints of the call's plan
  by_plan : (c : Call) {p : Plan} {s : SurfaceId} {r : (x y : ℕ) → Bool} {f : (x y : ℕ) → Type 0} → plan (call c us) b n k ≡ p
      → Exactly m (tainted p.paint m) s r f → Exactly m (taint_by b n k us m c) s r f
  unfolding taint_after
  by_plan c e x = rw e x

  unpainted_plan : (c : Invocation) {p : Plan} → plan c b n k ≡ p → p.paint ≡ [] → Keeps m (taint_for b n k us m c)
  unfolding taint_after tainted
  unpainted_plan c e z = rw (e, z) (record { keeps = λ u x y. Iff.rfl })

  -- a call that paints nothing
  unpainted : (c : Call) → (act c us b).paint ≡ [] → Keeps m (taint_by b n k us m c)
  unfolding plan
  unpainted c z = by (eqb (common_refusal b n k) 0) refl
    where
      by : (t : Bool) → eqb (common_refusal b n k) 0 ≡ t → Keeps m (taint_by b n k us m c)
      by true f = unpainted_plan (call c us) {p = act c us b} (rw f) z
      by false f = unpainted_plan (call c us) {p = refuse (common_refusal b n k) b} (rw f) refl

  module _ (dc : ℕ) (a : Area) (s : SurfaceId) (i : Site) (d : Dc) (e : target_of b dc ≡ on s i d) where
    fill_plan : (rop : ℕ) → pattern_fill b dc a rop ≡ pattern_fill_on b a (table_of rop) s d
    unfolding pattern_fill
    fill_plan rop = rw e

    fill_taint : (rop : ℕ) → number b n k us (PatternFill dc a rop) ≡ 0
        → Exactly m (taint_by b n k us m (PatternFill dc a rop)) s (box_of a) (by_destination m rop s)
    unfolding act paints_of tainted
    fill_taint rop z = by_plan (PatternFill dc a rop) (accepted_plan (PatternFill dc a rop) z ∙ fill_plan rop) (plain_exact m s (box_of a) (table_of rop) _)

    rectangle_taint : number b n k us (Rectangle dc a) ≡ 0 → Untaints m (taint_by b n k us m (Rectangle dc a)) s (λ x y. box_of a x y || rim_of a x y)
    unfolding act paints_of tainted
    rectangle_taint z = by_plan (Rectangle dc a) (accepted_plan (Rectangle dc a) z ∙ is) (two_exact (solid_exact m s (box_of a) _) (solid_exact _ s (rim_of a) _))
      where
        is : rectangle b dc a ≡ rectangle_on b a s d
        is = unfold rectangle in rw e

    module _ (src : ℕ) (p : Point) (rop : ℕ) (z : number b n k us (Blit dc a src p rop) ≡ 0) where
      ignoring_taint : uses_src (table_of rop) ≡ false → Exactly m (taint_by b n k us m (Blit dc a src p rop)) s (box_of a) (by_destination m rop s)
      unfolding act paints_of tainted
      ignoring_taint f = by_plan (Blit dc a src p rop) (accepted_plan (Blit dc a src p rop) z ∙ is ∙ fill_plan rop) (plain_exact m s (box_of a) (table_of rop) _)
        where
          is : blit b dc a src p rop ≡ pattern_fill b dc a rop
          is = unfold blit in rw f

      blit_taint : (q : SurfaceId) (j : Site) (o : Dc) → uses_src (table_of rop) ≡ true → target_of b src ≡ on q j o
          → Exactly m (taint_by b n k us m (Blit dc a src p rop)) s (blit_box (where_is b q) a p) (λ x y. by_destination m rop s x y ⊎ by_source m rop q a p x y)
      unfolding act paints_of tainted
      blit_taint q j o f g =
          by_plan (Blit dc a src p rop) (accepted_plan (Blit dc a src p rop) z ∙ is)
          (draw_exact m (blitted s q (where_is b q) a p (table_of rop) _))
        where
          is : blit b dc a src p rop ≡ blit_on b a p (table_of rop) s d q
          is = unfold blit in rw (f, e, g)

  text_taint : (dc : ℕ) (at : Point) (s : SurfaceId) (i : Site) (d : Dc) → number b n k us (Text dc at) ≡ 0 → target_of b dc ≡ on s i d
      → Untaints m (taint_by b n k us m (Text dc at)) s (text_ink us (unit_count us) at.x at.y)
  unfolding act paints_of tainted
  text_taint dc at s i d z e = by_plan (Text dc at) (accepted_plan (Text dc at) z ∙ is) (solid_exact m s _ _)
    where
      by : (t : Bool) → refusal_number (cond t (text_on b us (unit_count us) at s d) (refuse 10 b)) ≡ 0 → cond t (text_on b us (unit_count us) at s d) (refuse 10 b) ≡ text_on b us (unit_count us) at s d
      by true z = refl
      by false z = absurd (omega arith)

      shown : text b us dc at ≡ cond (leb (unit_count us) 65535) (text_on b us (unit_count us) at s d) (refuse 10 b)
      shown = unfold text in rw e

      is : text b us dc at ≡ text_on b us (unit_count us) at s d
      is = shown ∙ by (leb (unit_count us) 65535) (ap refusal_number (sym (accepted_plan (Text dc at) z ∙ shown)) ∙ z)

  line_taint : (dc : ℕ) (to : Point) (s : SurfaceId) (i : Site) (d : Dc) → number b n k us (LineTo dc to) ≡ 0 → target_of b dc ≡ on s i d
      → Untaints m (taint_by b n k us m (LineTo dc to)) s (line_of (position_of d) to)
  unfolding act paints_of tainted
  line_taint dc to s i d z e = by_plan (LineTo dc to) (accepted_plan (LineTo dc to) z ∙ is) (solid_exact m s _ _)
    where
      by : (t : Bool) → refusal_number (cond t (line_on b dc to s d) (refuse 11 b)) ≡ 0 → cond t (line_on b dc to s d) (refuse 11 b) ≡ line_on b dc to s d
      by true z = refl
      by false z = absurd (omega arith)

      shown : line_to b dc to ≡ unless_far b to (line_on b dc to s d)
      shown = unfold line_to in rw e

      is : line_to b dc to ≡ line_on b dc to s d
      is = shown ∙ by (is_position to.x to.y) (ap refusal_number (sym (accepted_plan (LineTo dc to) z ∙ shown)) ∙ z)

  resize_taint : (w h : ℕ) → number b n k us (Resize w h) ≡ 0 → no_effect b w h ≡ false → Untaints m (taint_by b n k us m (Resize w h)) Panel everywhere
  unfolding act tainted
  resize_taint w h z e = by_plan (Resize w h) (accepted_plan (Resize w h) z ∙ is) (blank_exact m _ _ _ Panel)
    where
      by : (t u : Bool) → refusal_number (cond t (refuse 6 b) (cond u (refuse 7 b) (resized b w h))) ≡ 0 → cond t (refuse 6 b) (cond u (refuse 7 b) (resized b w h)) ≡ resized b w h
      by true u z = absurd (omega arith)
      by false true z = absurd (omega arith)
      by false false z = refl

      shown : resize b w h ≡ cond (ltb 4096 w || ltb 4096 h) (refuse 6 b) (cond (ltb b.panel_len (size w h)) (refuse 7 b) (resized b w h))
      shown = unfold resize in rw e

      is : resize b w h ≡ resized b w h
      is = shown ∙ by (ltb 4096 w || ltb 4096 h) (ltb b.panel_len (size w h)) (ap refusal_number (sym (accepted_plan (Resize w h) z ∙ shown)) ∙ z)

  -- a new object, named by the answered handle; a refusal answers none
  refused_no_handle : (i h : ℕ) {A : Type 0} → (i ≡ 0 → ⊥) → refused i ≡ answered h → A
  refused_no_handle i h ne e = absurd (ne (ap (λ (a : Parts). a.number) e))

  module _ (h : ℕ) where
    abbrev UntaintsNew : Plan → Type 0
    UntaintsNew p = p.outcome.answer ≡ answered h → Untaints m (tainted p.paint m) (Bitmap h) everywhere

    create_taint : (o : GdiObject) → UntaintsNew (create_of b o)
    unfolding create_of tainted
    create_taint o = by (leb 256 b.count) (ltb b.store_len (used b + bytes_of o))
      where
        by : (t u : Bool) → UntaintsNew (cond t (refuse 5 b) (cond u (refuse 7 b) (creation b o)))
        by true u e = refused_no_handle 5 h (λ z. omega arith) e
        by false true e = refused_no_handle 7 h (λ z. omega arith) e
        by false false e = let q : new_handle b ≡ h = ap (λ (a : Parts). a.value) e in rw (← q) (blank_exact m _ _ _ (Bitmap (new_handle b)))

    bitmap_taint : (w v : ℕ) → UntaintsNew (create_bitmap b w v)
    unfolding create_bitmap
    bitmap_taint w v = by (ltb 4096 w || ltb 4096 v)
      where
        by : (t : Bool) → UntaintsNew (cond t (refuse 6 b) (create_of b (new_bitmap w v)))
        by true e = refused_no_handle 6 h (λ z. omega arith) e
        by false e = create_taint (new_bitmap w v) e

    act_created : {c : Call} → Creates c → UntaintsNew (act c us b)
    unfolding act
    act_created memory_dc = create_taint _
    act_created (bitmap {w = w} {h = v}) = bitmap_taint w v
    act_created brush = create_taint _
    act_created pen = create_taint _
    act_created font = create_taint _

    created_taint : (c : Call) → Creates c → (plan (call c us) b n k).outcome.answer ≡ answered h → Untaints m (taint_by b n k us m c) (Bitmap h) everywhere
    unfolding plan taint_after
    created_taint c i = by (eqb (common_refusal b n k) 0) refl
      where
        by : (t : Bool) → eqb (common_refusal b n k) 0 ≡ t → UntaintsNew (cond t (act c us b) (refuse (common_refusal b n k) b))
        by true f e = act_created i e
        by false f e = refused_no_handle (common_refusal b n k) h (eqb-false (common_refusal b n k) 0 f) e

    -- an object that is deleted or removed, or stays
    module _ (stock : Parts) (answer : ℕ → Parts) (none : Parts) where
      goes_plan : (i : ℕ) → is_stock h ≡ false → find_of b h ≡ Some i → (deletion_of stock answer none b h).paint ≡ closing b h i
      unfolding deletion_of
      goes_plan i e f = rw (e, f)

      stays_plan : (is_stock h ≡ true) ⊎ (find_of b h ≡ None) → (deletion_of stock answer none b h).paint ≡ []
      unfolding deletion_of
      stays_plan (inl e) = rw e
      stays_plan (inr f) = by (is_stock h)
        where
          by : (t : Bool) → (cond t (record_only b stock) (deletion_at answer none b h (find_of b h))).paint ≡ []
          by true = refl
          by false = rw f

    deletion_taint : (c : Call) (i : ℕ) → number b n k us c ≡ 0 → (act c us b).paint ≡ closing b h i → Untaints m (taint_by b n k us m c) (Bitmap h) everywhere
    unfolding tainted
    deletion_taint c i z e = by_plan c {p = act c us b} (accepted_plan c z) (rw e (close_exact m h _ _ _))

  load_taint : (bytes : List ℕ) → number_for b n k us (load_of bytes) ≡ 0 → Clears m (taint_for b n k us m (load_of bytes)) others
  unfolding plan load_table taint_after
  load_taint bytes = by (eqb (common_refusal b n k) 0) refl (is_table b bytes) (sizes_fit (held_by b bytes))
    where
      by : (s : Bool) → eqb (common_refusal b n k) 0 ≡ s → (t u : Bool)
          → refusal_number (cond s (cond t (cond u (loaded (held_by b bytes)) (refuse 7 b)) (refuse 12 b)) (refuse (common_refusal b n k) b)) ≡ 0
          → Clears m (tainted (cond s (cond t (cond u (loaded (held_by b bytes)) (refuse 7 b)) (refuse 12 b)) (refuse (common_refusal b n k) b)).paint m) others
      by true f true true z = loaded_clears (held_by b bytes) m
      by true f true false z = absurd (omega arith)
      by true f false u z = absurd (omega arith)
      by false f t u z = absurd (eqb-false _ _ f z)

  act_set : {c : Call} → Sets c → (act c us b).paint ≡ []
  unfolding act
  act_set (selection {dc = dc} {h = h}) = (select_unpainted b dc h).paint
  act_set (text_color {dc = dc}) = (setting_unpainted _ _ (λ d. record { surface = refl; position = refl }) b dc).paint
  act_set (text_align {dc = dc}) = (setting_unpainted _ _ (λ d. record { surface = refl; position = refl }) b dc).paint
  act_set (bk_color {dc = dc}) = (setting_unpainted _ _ (λ d. record { surface = refl; position = refl }) b dc).paint
  act_set (bk_mode {dc = dc}) = (setting_unpainted _ _ (λ d. record { surface = refl; position = refl }) b dc).paint
  act_set (move {dc = dc} {to = to}) = move_by (λ p. p.paint ≡ []) b (λ i. refl) dc to (λ e d. refl)

  not_resized : (w h : ℕ) → no_effect b w h ≡ true → (resize b w h).paint ≡ []
  unfolding resize
  not_resized w h e = rw e

  pub exact_taint : ExactTaint b n k us m
  unfolding act
  exact_taint =
      record {
        rectangle = λ dc a s i d z e. rectangle_taint dc a s i d e z;
        text = text_taint;
        line = line_taint;
        panel_fill = λ c z. unfold paints_of tainted in by_plan (PanelFill c) (accepted_plan (PanelFill c) z) (solid_exact m Panel everywhere c.0);
        resize = resize_taint;
        pattern_fill = λ dc a rop s i d z e. fill_taint dc a s i d e rop z;
        blit = λ dc a src p rop s q i j d o z u e f. blit_taint dc a s i d e src p rop z q j o u f;
        blit_ignoring = λ dc a src p rop s i d z u e. ignoring_taint dc a s i d e src p rop z u;
        refused = λ c ne. unpainted_plan c (refusals_keep c b n k ne) refl;
        save = λ room. unpainted_plan (save_into room) refl (unfold plan in save_by (λ p. p.paint ≡ []) b (λ i. refl) room refl);
        set = λ c i. unpainted c (act_set i);
        not_resized = λ w h e. unpainted (Resize w h) (not_resized w h e);
        not_deleted = λ h e. unpainted (Delete h) (stays_plan h _ _ _ e);
        not_removed = λ h e. unpainted (Remove h) (stays_plan h _ _ _ e);
        deleted = λ h i z e f. deletion_taint h (Delete h) i z (goes_plan h _ _ _ i e f);
        removed = λ h i z e f. deletion_taint h (Remove h) i z (goes_plan h _ _ _ i e f);
        created = λ c h. created_taint h c;
        load = load_taint;
      }
