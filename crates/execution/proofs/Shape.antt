-- The four shapes of a plan; every plan of a ready device has one of them. A law of all calls is proved by these four cases. Assumes
-- nothing.
use Rattle.std.specs.Prelude.{Option, Some, None}
use mathlib.Core.Bool.{Bool, true, false, cond, ◌||◌}
use mathlib.Core.List.{List, [], ◌∷◌}
use mathlib.Core.Path.{◌≡◌, refl, sym, ◌∙◌}
use Prim.Native.Nat.{ℕ, ◌+◌, ◌-◌, ◌≤◌, ◌<◌}
use native.Mathlib.Omega.{arith}
use lib.Dec.{leb, ltb}
use borrow.Author.Tests.{leb-true, leb-false, ltb-false, lt-ltb}
use Rattle.arithmetic.proofs.Test.{both, neither, together}
use Rattle.rop3.specs.Rop3.{table_of}
use Rattle.clip_blit.specs.Blit.{drawn_along}
use Rattle.clip_blit.proofs.Blit.{drawn_source}
use Rattle.surface.specs.Refusal.{side}
use Rattle.gdi.specs.declared.GdiState.{GdiState}
use Rattle.gdi.specs.declared.GdiObject.{GdiObject}
use Rattle.gdi.specs.Record.{size, bytes_of}
use Rattle.gdi.specs.Updates.{with_sides}
use Rattle.gdi.specs.Stock.{is_stock}
use Rattle.gdi.specs.Lookup.{find_of}
use Rattle.sound.specs.Sound.{object_fits, used, sizes_fit, is_sound}
use Rattle.sound.proofs.Sound.{ExceptSizes, parts, whole}
use Rattle.saved_table.specs.Held.{record_held, held_by, is_table}
use Rattle.saved_table.proofs.Tables.{table_parts}
use Rattle.ready.proofs.Ready.{Ready}
use Rattle.place.specs.declared.Memory.{Memory}
use Rattle.place.specs.declared.Memory.TheVariants.{Panel as PanelMemory, Store}
use Rattle.place.specs.declared.Place.{Place}
use Rattle.place.specs.declared.Place.TheVariants.{Nowhere, At}
use Rattle.place.specs.declared.SurfaceId.{SurfaceId}
use Rattle.place.specs.declared.SurfaceId.TheVariants.{Panel, Bitmap}
use Rattle.place.specs.Place.{where_is, length_of}
use Rattle.place.proofs.Same.{Still, still_same}
use Rattle.dirty.specs.Dirty.{next_frame, dirtied}
use Rattle.dirty.proofs.Still.{dirtied_still}
use Rattle.handles.specs.Handles.{added}
use Rattle.handles.proofs.Added.{added_sound}
use Rattle.paint.specs.Memories.{width_of, height_of, has_pixel}
use Rattle.paint.specs.Paint.{Paint, blank, only, created}
use Rattle.paint.proofs.Draws.{Sourced}
use Rattle.paint.proofs.Blanks.{Blanked, new_blanked, sized_blanked, store_blanked}
use Rattle.plan.specs.declared.Area.{Area}
use Rattle.plan.specs.declared.Point.{Point}
use Rattle.plan.specs.declared.Call.{Call}
use Rattle.plan.specs.declared.Call.TheVariants.{CreateMemoryDc, CreateCompatibleBitmap, CreateSolidBrush, CreatePen, CreateFont, Delete, Remove, SelectInto, SetTextColor, SetTextAlign, SetBkColor, SetBkMode, PatternFill, Rectangle, Text, PanelFill, Resize, Blit, MoveTo, LineTo}
use Rattle.plan.specs.Answer.{Parts, done}
use Rattle.plan.specs.Plan.{Plan, record_only, refuse}
use Rattle.plan.specs.Stroke.{Stroke, drawn_by}
use Rattle.plan.specs.Create.{creation, create_of, new_bitmap, create_bitmap}
use Rattle.plan.specs.Delete.{deletion_at, deletion_of}
use Rattle.plan.specs.Drawing.{packed_of, blitted, blit}
use Rattle.plan.specs.Panel.{panel_fill_stroke, resized}
use Rattle.plan.specs.Lines.{moved_to}
use Rattle.plan.specs.Load.{loaded, load_table}
use Rattle.plan.specs.Calls.{act, Invocation, call, load, save, when_ready, plan}
use Rattle.plan.proofs.Cases.{pattern_fill_by, rectangle_by, text_by, move_by, line_by, blit_by, resize_by, load_by, save_by}
use Rattle.plan.proofs.Create.{bitmap_fits}
use Rattle.plan.proofs.Select.{Unpainted, select_unpainted, setting_unpainted, moved_still}

-- the source of each stroke has a pixel for every pixel that is drawn
abbrev pub AllSourced : GdiState → List Stroke → Type 0
AllSourced b [] = Unit
AllSourced b (s ∷ ss) = Sourced b s.drawing × AllSourced b ss

-- Bytes of a memory are blanked, and the record b becomes b': the bytes lie inside the memory; each surface that is cleared lies
-- among them afterwards; every other surface stays in its place, apart from them; and b' is ready if b is.
pub record Blanks (b b' : GdiState) (k : Memory) (p n : ℕ) (clears : SurfaceId → Bool) : Type 0 where
  pub fits : p + n ≤ length_of b.panel_len b.store_len k
  pub surfaces : is_sound b ≡ true → (u : SurfaceId) → Blanked k p n (clears u) (where_is b u) (where_is b' u)
  pub ready : (panel_len store_len : ℕ) → Ready b panel_len store_len → Ready b' panel_len store_len

-- Bytes are blanked one after the other, each time with a change of the record.
pub data Blanking : (b b' : GdiState) → List Paint → Type 0 where
  last : {b b' : GdiState} (k : Memory) (p n : ℕ) (clears : SurfaceId → Bool) → Blanks b b' k p n clears → Blanking b b' (blank k p n clears ∷ [])
  before : {b b₁ b' : GdiState} {ps : List Paint} (k : Memory) (p n : ℕ) (clears : SurfaceId → Bool) → Blanks b b₁ k p n clears → Blanking b₁ b' ps
      → Blanking b b' (blank k p n clears ∷ ps)

-- The shapes: nothing is painted, and every surface stays in its place; strokes are made, after a change of the record that leaves
-- every surface in its place; surfaces are new and black; a created object is removed.
pub data Shape (b : GdiState) : Plan → Type 0 where
  record_only_lem : {p : Plan} → Unpainted b p → Shape b p
  strokes : (b' : GdiState) (ss : List Stroke) (a : Parts) → Still b b' → AllSourced b ss → Shape b (drawn_by b' ss a)
  blanks : (b' : GdiState) (a : Parts) (ps : List Paint) → Blanking b b' ps → Shape b (record { outcome = record { state = b'; answer = a }; paint = ps })
  deletion : (gone : ℕ → Parts) (none : Parts) (h i : ℕ) → is_stock h ≡ false → find_of b h ≡ Some i → Shape b (deletion_at gone none b h (Some i))

module _ (b : GdiState) where
  -- a refusal, or an answer without a change
  unchanged : (a : Parts) → Shape b (record_only b a)
  unchanged a = record_only_lem (record { paint = refl; still = still_same b })

  refused : (n : ℕ) → Shape b (refuse n b)
  refused n = unchanged _

  -- strokes without another change of the record
  drawn : (ss : List Stroke) (a : Parts) → AllSourced b ss → Shape b (drawn_by b ss a)
  drawn ss a i = strokes b ss a (still_same b) i

  -- a creation: the new object's pixels are new and black
  new_object : (o : GdiObject) → object_fits o ≡ true → b.count < 256 → used b + bytes_of o ≤ b.store_len → Shape b (creation b o)
  new_object o fits few room =
      blanks (added b o) _ _ (last Store (used b) (bytes_of o) _ (record {
        fits = room;
        surfaces = new_blanked b o;
        ready = λ m j r. record { sound = added_sound b o r.sound fits few room; panel = unfold added in r.panel; store = unfold added in r.store };
      }))

  create_shape : (o : GdiObject) → object_fits o ≡ true → Shape b (create_of b o)
  unfolding create_of
  create_shape o fits = by (leb 256 b.count) refl (ltb b.store_len (used b + bytes_of o)) refl
    where
      by : (t : Bool) → leb 256 b.count ≡ t → (u : Bool) → ltb b.store_len (used b + bytes_of o) ≡ u → Shape b (cond t (refuse 5 b) (cond u (refuse 7 b) (creation b o)))
      by true e u f = refused 5
      by false e true f = refused 7
      by false e false f = new_object o fits (leb-false _ _ e) (ltb-false _ _ f)

  bitmap_shape : (w h : ℕ) → Shape b (create_bitmap b w h)
  unfolding create_bitmap
  bitmap_shape w h = by (ltb 4096 w || ltb 4096 h) refl
    where
      by : (t : Bool) → (ltb 4096 w || ltb 4096 h) ≡ t → Shape b (cond t (refuse 6 b) (create_of b (new_bitmap w h)))
      by true e = refused 6
      by false e = let s = neither (ltb 4096 w) (ltb 4096 h) e in create_shape (new_bitmap w h) (bitmap_fits w h (ltb-false 4096 w s.0) (ltb-false 4096 h s.1))

  goes_shape : (stock : Parts) (gone : ℕ → Parts) (none : Parts) (h : ℕ) → Shape b (deletion_of stock gone none b h)
  unfolding deletion_of
  goes_shape stock gone none h = by (is_stock h) refl (find_of b h) refl
    where
      by : (t : Bool) → is_stock h ≡ t → (q : Option ℕ) → find_of b h ≡ q → Shape b (cond t (record_only b stock) (deletion_at gone none b h q))
      by true e q f = unchanged stock
      by false e (Some i) f = deletion gone none h i e f
      by false e None f = unchanged none

  -- a blit reads only pixels of its source
  source_inside : (at : Place) (x y : ℕ) → x < width_of at → y < height_of at → has_pixel at x y ≡ true
  source_inside Nowhere x y e f = absurd (omega (arith, e))
  source_inside (At m p w h) x y e f = together (lt-ltb x w e) (lt-ltb y h f)

  blit_sourced : (s q : SurfaceId) (a : Area) (p : Point) (t c : ℕ) → Sourced b (blitted s q (where_is b q) a p t c)
  blit_sourced s q a p t c x y e =
      let (col, row) = both (drawn_along a.x p.x a.w (width_of (where_is b q)) x) _ e in
      source_inside (where_is b q) _ _ (drawn_source a.x p.x a.w (width_of (where_is b q)) x col) (drawn_source a.y p.y a.h (height_of (where_is b q)) y row)

  blit_shape : (dc : ℕ) (a : Area) (src : ℕ) (p : Point) (rop : ℕ) → Shape b (blit b dc a src p rop)
  blit_shape dc a src p rop =
      blit_by (Shape b) b refused dc a src p rop
      (λ s d. drawn _ _ ((λ x y e. refl), tt))
      (λ s d q. drawn _ _ (blit_sourced s q a p (table_of rop) (packed_of d.brush_color), tt))

  -- the panel at a new size, new and black
  sized_sound : (w h : ℕ) → side w ≡ true → side h ≡ true → size w h ≤ b.panel_len → is_sound b ≡ true → is_sound (with_sides b w h) ≡ true
  sized_sound w h wide high fits s =
      let p = parts b s in
      whole (with_sides b w h) (record {
        panel_len = p.panel_len;
        store_len = p.store_len;
        count = p.count;
        width = wide;
        height = high;
        panel = fits;
        screen = p.screen;
        slots = p.slots;
        apart = p.apart;
        store = p.store;
      })

  -- whatever else changes, if every surface stays in its place
  sized : (w h : ℕ) → side w ≡ true → side h ≡ true → size w h ≤ b.panel_len → {b' : GdiState} → Still (with_sides b w h) b' → Blanks b b' PanelMemory 0 (size w h) (only Panel)
  sized w h wide high fits {b'} s =
      record {
        fits = omega (arith, fits);
        surfaces = λ z. sized_blanked b b' w h (s.places Panel) (λ k. s.places (Bitmap k));
        ready = λ m j r. record {
          sound = s.sound (sized_sound w h wide high fits r.sound);
          panel = r.panel ∙ sym s.panel_len;
          store = r.store ∙ sym s.store_len;
        };
      }

  resized_shape : (w h : ℕ) → side w ≡ true → side h ≡ true → size w h ≤ b.panel_len → Shape b (resized b w h)
  resized_shape w h wide high fits = blanks _ done _ (last PanelMemory 0 (size w h) (only Panel) (sized w h wide high fits (dirtied_still (with_sides b w h) Panel)))

  -- a load: the panel at its new size, then all store past the stock bitmap
  module _ (bytes : List ℕ) (table : is_table b bytes ≡ true) (room : sizes_fit (held_by b bytes) ≡ true) where
    abbrev r : GdiState
    r = held_by b bytes

    sound_so : ExceptSizes r
    sound_so = (table_parts b bytes table).sound

    panel_fits : size r.width r.height ≤ b.panel_len
    unfolding record_held
    panel_fits = leb-true _ _ (both (leb (size r.width r.height) b.panel_len) _ room).0

    store_fits : used r ≤ b.store_len
    unfolding record_held
    store_fits = leb-true _ _ (both (leb (size r.width r.height) b.panel_len) _ room).1

    panel_same : r.panel_len ≡ b.panel_len
    unfolding record_held
    panel_same = refl

    store_same : r.store_len ≡ b.store_len
    unfolding record_held
    store_same = refl

    -- the record with the new panel; then everything else is from the table
    abbrev first : GdiState
    first = with_sides b r.width r.height

    held_sound : is_sound first ≡ true → is_sound r ≡ true
    held_sound s =
        let p = parts first s in
        whole r (record {
          panel_len = omega (arith, panel_same, p.panel_len);
          store_len = omega (arith, store_same, p.store_len);
          count = sound_so.count;
          width = sound_so.width;
          height = sound_so.height;
          panel = omega (arith, panel_same, panel_fits);
          screen = sound_so.screen;
          slots = sound_so.slots;
          apart = sound_so.apart;
          store = omega (arith, store_same, store_fits);
        })

    stored : Blanks first (dirtied r Panel) Store 2 (r.store_len - 2) created
    stored =
        let marked = dirtied_still r Panel in
        record {
          fits = omega (arith, store_same, store_fits);
          surfaces = λ z. unfold dirtied in store_blanked first (next_frame r) (unfold dirtied in marked.sound (held_sound z)) refl;
          ready = λ m j q. record {
            sound = marked.sound (held_sound q.sound);
            panel = q.panel ∙ sym (marked.panel_len ∙ panel_same);
            store = q.store ∙ sym (marked.store_len ∙ store_same);
          };
        }

    loaded_shape : Shape b (loaded r)
    loaded_shape =
        blanks (dirtied r Panel) done _
        (before PanelMemory 0 (size r.width r.height) (only Panel) (sized r.width r.height sound_so.width sound_so.height panel_fits (still_same first))
        (last Store 2 (r.store_len - 2) created stored))

  -- one line for each call
  pub act_shape : (c : Call) (us : List ℕ) → Shape b (act c us b)
  unfolding act
  act_shape CreateMemoryDc us = create_shape _ refl
  act_shape (CreateCompatibleBitmap w h) us = bitmap_shape w h
  act_shape (CreateSolidBrush c) us = create_shape _ refl
  act_shape (CreatePen c w) us = create_shape _ refl
  act_shape (CreateFont h) us = create_shape _ refl
  act_shape (Delete h) us = goes_shape _ _ _ h
  act_shape (Remove h) us = goes_shape _ _ _ h
  act_shape (SelectInto dc h) us = record_only_lem (select_unpainted b dc h)
  act_shape (SetTextColor dc c) us = record_only_lem (setting_unpainted _ _ (λ d. record { surface = refl; position = refl }) b dc)
  act_shape (SetTextAlign dc v) us = record_only_lem (setting_unpainted _ _ (λ d. record { surface = refl; position = refl }) b dc)
  act_shape (SetBkColor dc c) us = record_only_lem (setting_unpainted _ _ (λ d. record { surface = refl; position = refl }) b dc)
  act_shape (SetBkMode dc t) us = record_only_lem (setting_unpainted _ _ (λ d. record { surface = refl; position = refl }) b dc)
  act_shape (PatternFill dc a rop) us = pattern_fill_by (Shape b) b refused dc a rop (λ s d. drawn _ _ ((λ x y e. refl), tt))
  act_shape (Rectangle dc a) us = rectangle_by (Shape b) b refused dc a (λ s d. drawn _ _ ((λ x y e. refl), ((λ x y e. refl), tt)))
  act_shape (Text dc at) us = text_by (Shape b) b refused us dc at (λ s d. drawn _ _ ((λ x y e. refl), tt))
  act_shape (PanelFill c) us = drawn (panel_fill_stroke c.0 ∷ []) done ((λ x y e. refl), tt)
  act_shape (Resize w h) us = resize_by (Shape b) b refused w h (unchanged _) (resized_shape w h)
  act_shape (Blit dc a src from rop) us = blit_shape dc a src from rop
  act_shape (MoveTo dc to) us = move_by (Shape b) b refused dc to (λ e d. record_only_lem (record { paint = refl; still = moved_still b dc to e }))
  act_shape (LineTo dc to) us = line_by (Shape b) b refused dc to (λ e s d. strokes (moved_to b dc to) _ _ (moved_still b dc to e) ((λ x y g. refl), tt))

  load_shape : (bytes : List ℕ) → Shape b (load_table b bytes)
  load_shape bytes = load_by (Shape b) b refused bytes (loaded_shape bytes)

  -- What is asked is a call or a load, which a ready device performs, or a question.
  pub data Form (n k : ℕ) : Plan → Type 0 where
    checked : (p : Plan) → Shape b p → Form n k (when_ready b n k p)
    question : (a : Parts) → Form n k (record_only b a)

  pub form_of : (c : Invocation) (n k : ℕ) → Form n k (plan c b n k)
  unfolding plan
  form_of (call c us) n k = checked (act c us b) (act_shape c us)
  form_of (load bytes) n k = checked (load_table b bytes) (load_shape bytes)
  form_of (save room) n k = save_by (Form n k) b (λ m. question _) room (question _)
