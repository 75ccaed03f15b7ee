-- The taint after a call, exactly: a field for each sentence of document 01's 'Marked pixels'. The claim alone would also hold of
-- too much taint.
use Rattle.std.specs.Prelude.{Bool, true, false, not, ◌||◌, List, [], ◌∷◌, ◌⊎◌, ◌≡◌, ℕ, ℤ, Some, None}
use Rattle.color.specs.declared.Colorref.{Colorref}
use Rattle.color.specs.declared.Rgb565.{Rgb565}
use Rattle.rop3.specs.Rop3.{table_of, uses_src, uses_dst}
use Rattle.text.specs.Ink.{unit_count, text_ink}
use Rattle.gdi.specs.declared.GdiState.{GdiState}
use Rattle.gdi.specs.declared.Dc.{Dc}
use Rattle.gdi.specs.Stock.{is_stock, stock_bitmap}
use Rattle.gdi.specs.Lookup.{find_of}
use Rattle.place.specs.declared.Site.{Site}
use Rattle.place.specs.declared.SurfaceId.{SurfaceId}
use Rattle.place.specs.declared.SurfaceId.TheVariants.{Panel, Bitmap}
use Rattle.place.specs.Place.{same, where_is, target_of, on}
use Rattle.paint.specs.Taint.{Taint, Keeps, Exactly, Untaints, Clears, everywhere}
use Rattle.plan.specs.Answer.{answered}
use Rattle.plan.specs.declared.Area.{Area}
use Rattle.plan.specs.declared.Point.{Point}
use Rattle.plan.specs.declared.Call.{Call}
use Rattle.plan.specs.declared.Call.TheVariants.{CreateMemoryDc, CreateCompatibleBitmap, CreateSolidBrush, CreatePen, CreateFont, Delete, Remove, SelectInto, SetTextColor, SetTextAlign, SetBkColor, SetBkMode, PatternFill, Rectangle, Text, PanelFill, Resize, Blit, MoveTo, LineTo}
use Rattle.plan.specs.Drawing.{box_of, rim_of, blit_box, column_for, row_for}
use Rattle.plan.specs.Panel.{no_effect}
use Rattle.plan.specs.Lines.{position_of, line_of}
use Rattle.plan.specs.Calls.{Invocation, call, load as load_of, save as save_into, plan}
use Rattle.plan.specs.Refusal.{refusal_number}
use Rattle.noninterference.specs.Claim.{taint_after}

-- a call that makes an object
pub data Creates : Call → Type 0 where
  memory_dc : Creates CreateMemoryDc
  bitmap : {w h : ℕ} → Creates (CreateCompatibleBitmap w h)
  brush : {c : Colorref} → Creates (CreateSolidBrush c)
  pen : {c : Colorref} {w : ℕ} → Creates (CreatePen c w)
  font : {h : ℤ} → Creates (CreateFont h)

-- a selection, a setting or a move
pub data Sets : Call → Type 0 where
  selection : {dc h : ℕ} → Sets (SelectInto dc h)
  text_color : {dc : ℕ} {c : Colorref} → Sets (SetTextColor dc c)
  text_align : {dc v : ℕ} → Sets (SetTextAlign dc v)
  bk_color : {dc : ℕ} {c : Colorref} → Sets (SetBkColor dc c)
  bk_mode : {dc : ℕ} {t : Bool} → Sets (SetBkMode dc t)
  move : {dc : ℕ} {to : Point} → Sets (MoveTo dc to)

-- the code uses D and the pixel was tainted
abbrev pub by_destination : Taint → (rop : ℕ) → SurfaceId → (x y : ℕ) → Type 0
by_destination m rop s x y = (uses_dst (table_of rop) ≡ true) × m s x y

-- the code uses S and the pixel's source pixel, on q, was tainted before the call
abbrev pub by_source : Taint → (rop : ℕ) → SurfaceId → Area → Point → (x y : ℕ) → Type 0
by_source m rop q a p x y = (uses_src (table_of rop) ≡ true) × m q (column_for a p x) (row_for a p y)

-- One call on a record, lent with memories of these lengths.
module _ (b : GdiState) (panel_len store_len : ℕ) (units : List ℕ) where
  -- its number; 0 if it is accepted. The same of a load or a save
  abbrev pub number_for : Invocation → ℕ
  number_for c = refusal_number (plan c b panel_len store_len)

  abbrev pub number : Call → ℕ
  number c = number_for (call c units)

  -- the taint after it, as in the claim; m is the taint before it
  abbrev pub taint_for : Taint → Invocation → Taint
  taint_for m c = taint_after (c ∷ []) b panel_len store_len m

  abbrev pub taint_by : Taint → Call → Taint
  taint_by m c = taint_for m (call c units)

  -- For every call and every outcome: which pixels are drawn, and which are tainted afterwards.
  pub record ExactTaint (m : Taint) : Type 0 where
    -- pixels drawn without a code are not tainted afterwards: a fill, an outline, ink, a line, a panel fill, an effective resize
    pub rectangle : (dc : ℕ) (a : Area) (s : SurfaceId) (i : Site) (d : Dc) → number (Rectangle dc a) ≡ 0 → target_of b dc ≡ on s i d
        → Untaints m (taint_by m (Rectangle dc a)) s (λ x y. box_of a x y || rim_of a x y)
    pub text : (dc : ℕ) (at : Point) (s : SurfaceId) (i : Site) (d : Dc) → number (Text dc at) ≡ 0 → target_of b dc ≡ on s i d
        → Untaints m (taint_by m (Text dc at)) s (text_ink units (unit_count units) at.x at.y)
    pub line : (dc : ℕ) (to : Point) (s : SurfaceId) (i : Site) (d : Dc) → number (LineTo dc to) ≡ 0 → target_of b dc ≡ on s i d
        → Untaints m (taint_by m (LineTo dc to)) s (line_of (position_of d) to)
    pub panel_fill : (c : Rgb565) → number (PanelFill c) ≡ 0 → Untaints m (taint_by m (PanelFill c)) Panel everywhere
    pub resize : (w h : ℕ) → number (Resize w h) ≡ 0 → no_effect b w h ≡ false → Untaints m (taint_by m (Resize w h)) Panel everywhere
    -- under a raster code a drawn pixel is tainted afterwards exactly if the code uses D and the pixel was tainted
    pub pattern_fill : (dc : ℕ) (a : Area) (rop : ℕ) (s : SurfaceId) (i : Site) (d : Dc) → number (PatternFill dc a rop) ≡ 0 → target_of b dc ≡ on s i d
        → Exactly m (taint_by m (PatternFill dc a rop)) s (box_of a) (by_destination m rop s)
    -- or the call is a blit whose code uses S and the pixel's source pixel was tainted before the call
    pub blit : (dc : ℕ) (a : Area) (src : ℕ) (p : Point) (rop : ℕ) (s q : SurfaceId) (i j : Site) (d e : Dc) → number (Blit dc a src p rop) ≡ 0
        → uses_src (table_of rop) ≡ true → target_of b dc ≡ on s i d → target_of b src ≡ on q j e
        → Exactly m (taint_by m (Blit dc a src p rop)) s (blit_box (where_is b q) a p) (λ x y. by_destination m rop s x y ⊎ by_source m rop q a p x y)
    -- a blit whose code ignores S is a pattern fill
    pub blit_ignoring : (dc : ℕ) (a : Area) (src : ℕ) (p : Point) (rop : ℕ) (s : SurfaceId) (i : Site) (d : Dc) → number (Blit dc a src p rop) ≡ 0
        → uses_src (table_of rop) ≡ false → target_of b dc ≡ on s i d
        → Exactly m (taint_by m (Blit dc a src p rop)) s (box_of a) (by_destination m rop s)
    -- pixels not drawn keep their taint, and a refused call keeps all: a selection, a setting, a move, a resize without effect, a save,
    -- and a deletion or removal of a stock or absent handle draw no pixel
    pub refused : (c : Invocation) → (number_for c ≡ 0 → ⊥) → Keeps m (taint_for m c)
    pub save : (room : ℕ) → Keeps m (taint_for m (save_into room))
    pub set : (c : Call) → Sets c → Keeps m (taint_by m c)
    pub not_resized : (w h : ℕ) → no_effect b w h ≡ true → Keeps m (taint_by m (Resize w h))
    pub not_deleted : (h : ℕ) → (is_stock h ≡ true) ⊎ (find_of b h ≡ None) → Keeps m (taint_by m (Delete h))
    pub not_removed : (h : ℕ) → (is_stock h ≡ true) ⊎ (find_of b h ≡ None) → Keeps m (taint_by m (Remove h))
    -- a bitmap that is deleted or removed has no taint; field `resize` says the same of pixels outside a resized panel
    pub deleted : (h i : ℕ) → number (Delete h) ≡ 0 → is_stock h ≡ false → find_of b h ≡ Some i → Untaints m (taint_by m (Delete h)) (Bitmap h) everywhere
    pub removed : (h i : ℕ) → number (Remove h) ≡ 0 → is_stock h ≡ false → find_of b h ≡ Some i → Untaints m (taint_by m (Remove h)) (Bitmap h) everywhere
    -- a new bitmap has no taint
    pub created : (c : Call) (h : ℕ) → Creates c → (plan (call c units) b panel_len store_len).outcome.answer ≡ answered h
        → Untaints m (taint_by m c) (Bitmap h) everywhere
    -- loading clears the colour marks of panel and created bitmaps, of whatever handle; the stock bitmap's stay
    pub load : (bytes : List ℕ) → number_for (load_of bytes) ≡ 0 → Clears m (taint_for m (load_of bytes)) (λ u. not (same u (Bitmap stock_bitmap)))
