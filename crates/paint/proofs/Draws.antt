-- One law for every drawing, whatever its target, region, table and source. Assumes nothing.
use mathlib.Core.Bool.{Bool, true, false, cond, ◌&&◌}
use mathlib.Core.List.{List}
use mathlib.Core.Path.{◌≡◌, refl, sym, ◌∙◌, ap, subst}
use Prim.Native.Nat.{ℕ, ◌+◌, ◌*◌, ◌/◌, ◌%◌, ◌≤◌, ◌<◌}
use native.Mathlib.Nat.{add-mul-mod_self_right, add-mul-div_right, mod-eq_of_lt, div-eq_of_lt, mul-le-mul_right, mul_comm}
use native.Mathlib.Omega.{arith}
use lib.Dec.{ltb}
use lib.ListN.{length}
use borrow.Author.Tests.{eqb-true, ltb-true}
use Rattle.arithmetic.proofs.Test.{both}
use Rattle.words.specs.Words.{word}
use Rattle.words.specs.Parts.{part, with_part}
use Rattle.words.proofs.Painted.{length_painted, agree_painted}
use Rattle.words.proofs.Parts.{length_part, length_with, part_same, part_other}
use Rattle.rop3.specs.Rop3.{applied, uses_src, uses_dst}
use Rattle.rop3.proofs.Uses.{without_src, without_dst}
use Rattle.surface.specs.Region.{words_of}
use Rattle.gdi.specs.declared.GdiState.{GdiState}
use Rattle.gdi.specs.Record.{size}
use Rattle.place.specs.declared.Memory.{Memory}
use Rattle.place.specs.declared.Memory.TheVariants.{Panel as PanelMemory, Store}
use Rattle.place.specs.declared.Place.{Place}
use Rattle.place.specs.declared.Place.TheVariants.{Nowhere, At}
use Rattle.place.specs.declared.SurfaceId.{SurfaceId}
use Rattle.place.specs.declared.SurfaceId.TheVariants.{Panel, Bitmap}
use Rattle.place.specs.Place.{same, where_is}
use Rattle.place.proofs.Apart.{clash, Apart, no_first, no_second, panel_store, store_panel, before, behind, turn, apart}
use Rattle.paint.specs.Memories.{Memories, width_of, pixels_at, over, colour_at}
use Rattle.paint.specs.Paint.{Source, black, sampled, Draw, draw, operand, drawn_bytes, painted_by}
use Rattle.paint.specs.Taint.{Taint, sample_tainted, Reads, by_d, by_s, tainted_by}
use Rattle.paint.specs.Memories.{has_pixel}
use Rattle.paint.proofs.Alike.{Alike, ReadyWith, Fits, surface_fits}

-- the results are equal if each operand that the code uses is
same_result : (t c : ℕ) {s s' d d' : ℕ} → (uses_src t ≡ true → s ≡ s') → (uses_dst t ≡ true → d ≡ d') → applied t c s d ≡ applied t c s' d'
same_result t c {s} {s'} {d} {d'} src dst = by_src (uses_src t) refl ∙ by_dst (uses_dst t) refl
  where
    by_src : (u : Bool) → uses_src t ≡ u → applied t c s d ≡ applied t c s' d
    by_src true e = ap (λ (z : ℕ). applied t c z d) (src e)
    by_src false e = without_src t e c s s' d

    by_dst : (u : Bool) → uses_dst t ≡ u → applied t c s' d ≡ applied t c s' d'
    by_dst true e = ap (λ (z : ℕ). applied t c s' z) (dst e)
    by_dst false e = without_dst t e c s' d d'

-- the column and the row of a pixel's word
column : (x y w : ℕ) → x < w → (x + y * w) % w ≡ x
column x y w lt = add-mul-mod_self_right x y w ∙ mod-eq_of_lt lt

row : (x y w : ℕ) → x < w → (x + y * w) / w ≡ y
row x y w lt =
    let some : 0 < w = omega arith in
    let z : x / w ≡ 0 = div-eq_of_lt lt in
    add-mul-div_right x y some ∙ omega arith

-- a pixel's word is in its surface's part
word_fits : (m : List ℕ) (p w h x y : ℕ) → p + size w h ≤ length m → x < w → y < h → 2 * (x + y * w) + 1 < length (part m p (size w h))
word_fits m p w h x y f a b = omega (arith, length_part m p (size w h) f, mul-le-mul_right w b, mul_comm w h)

-- a surface's bytes replaced by f of them, where f keeps their number
module _ (f : List ℕ → List ℕ) (keeps : (bytes : List ℕ) → length (f bytes) ≡ length bytes) where
  module _ (l : List ℕ) (p n : ℕ) (fits : p + n ≤ length l) where
    as_many : length (f (part l p n)) ≡ n
    as_many = keeps (part l p n) ∙ length_part l p n fits

    put_length : length (with_part l p n (f (part l p n))) ≡ length l
    put_length = length_with l (f (part l p n)) p n as_many fits

    put_same : part (with_part l p n (f (part l p n))) p n ≡ f (part l p n)
    put_same = part_same l (f (part l p n)) p n as_many fits

    put_other : (q k : ℕ) → ((j : ℕ) → q ≤ j → j < q + k → p ≤ j → j < p + n → ⊥) → part (with_part l p n (f (part l p n))) q k ≡ part l q k
    put_other = part_other l (f (part l p n)) p n as_many fits

  module _ (ms : Memories) where
    over_panel : (at : Place) → Fits ms at → length (over at f ms).panel ≡ length ms.panel
    over_panel Nowhere i = refl
    over_panel (At PanelMemory p w h) i = put_length ms.panel p (size w h) i.fits
    over_panel (At Store p w h) i = refl

    over_store : (at : Place) → Fits ms at → length (over at f ms).store ≡ length ms.store
    over_store Nowhere i = refl
    over_store (At PanelMemory p w h) i = refl
    over_store (At Store p w h) i = put_length ms.store p (size w h) i.fits

    -- the surface has the new bytes
    pixels_same : (m : Memory) (p w h : ℕ) → Fits ms (At m p w h) → pixels_at (over (At m p w h) f ms) (At m p w h) ≡ f (pixels_at ms (At m p w h))
    pixels_same PanelMemory p w h i = put_same ms.panel p (size w h) i.fits
    pixels_same Store p w h i = put_same ms.store p (size w h) i.fits

    -- all other bytes are kept
    pixels_other : {at on : Place} → Apart at on → Fits ms at → pixels_at (over at f ms) on ≡ pixels_at ms on
    pixels_other no_first i = refl
    pixels_other no_second i = refl
    pixels_other panel_store i = refl
    pixels_other store_panel i = refl
    pixels_other (before {p = p} {w = w} {h = h} {q = q} {x = x} {y = y} e) i = put_other ms.store p (size w h) i.fits q (size x y) (λ j a b c d. omega arith)
    pixels_other (behind {p = p} {w = w} {h = h} {q = q} {x = x} {y = y} e) i = put_other ms.store p (size w h) i.fits q (size x y) (λ j a b c d. omega arith)

drawn_length : (d : Draw) (s : ℕ → ℕ → ℕ) (w : ℕ) (l : List ℕ) → length (drawn_bytes d s w l) ≡ length l
drawn_length d s w l = length_painted _ _ l

-- a pixel of the target: equal on both if the results are equal where it is drawn, and the old colours where it is not
on_target_lem : (d : Draw) (s t : ℕ → ℕ → ℕ) (ms ns : Memories) (at : Place) (x y : ℕ) → Fits ms at → Fits ns at → has_pixel at x y ≡ true
    → (d.region x y ≡ true → applied d.table d.pattern (s x y) (colour_at ms at x y) ≡ applied d.table d.pattern (t x y) (colour_at ns at x y))
    → (d.region x y ≡ false → colour_at ms at x y ≡ colour_at ns at x y)
    → colour_at (over at (drawn_bytes d s (width_of at)) ms) at x y ≡ colour_at (over at (drawn_bytes d t (width_of at)) ns) at x y
on_target_lem d s t ms ns Nowhere x y i j e new old = clash e
on_target_lem d s t ms ns (At m p w h) x y i j e new old =
    rw (pixels_same (drawn_bytes d s w) (drawn_length d s w) ms m p w h i, pixels_same (drawn_bytes d t w) (drawn_length d t w) ns m p w h j)
    (agree_painted (words_of w d.region) (words_of w d.region) _ _ (pixels_at ms (At m p w h)) (pixels_at ns (At m p w h)) (x + y * w) (fit m ms i) (fit m ns j) refl
    (λ q. rw (column x y w a, row x y w a) (new (rw (column x y w a, row x y w a) at q)))
    (λ q. old (rw (column x y w a, row x y w a) at q)))
  where
    a : x < w
    a = ltb-true _ _ (both (ltb x w) (ltb y h) e).0

    b : y < h
    b = ltb-true _ _ (both (ltb x w) (ltb y h) e).1

    fit : (m : Memory) (ms : Memories) → Fits ms (At m p w h) → 2 * (x + y * w) + 1 < length (pixels_at ms (At m p w h))
    fit PanelMemory ms i = word_fits ms.panel p w h x y i.fits a b
    fit Store ms i = word_fits ms.store p w h x y i.fits a b

-- the source pixel of x, y is a pixel of the source surface
abbrev pub taken_inside : GdiState → Source → (x y : ℕ) → Bool
taken_inside b black x y = true
taken_inside b (sampled s fx fy) x y = has_pixel (where_is b s) (fx x) (fy y)

-- the same for every drawn pixel: a condition on the drawing
abbrev pub Sourced : GdiState → Draw → Type 0
Sourced b d = (x y : ℕ) → d.region x y ≡ true → taken_inside b d.source x y ≡ true

same_operand : (b : GdiState) (o : Source) (m : Taint) (ms ns : Memories) → Alike b m ms ns → (x y : ℕ) → taken_inside b o x y ≡ true
    → (sample_tainted m o x y → ⊥) → operand b ms o x y ≡ operand b ns o x y
same_operand b black m ms ns like x y i n = refl
same_operand b (sampled s fx fy) m ms ns like x y i n = like s (fx x) (fy y) i n

same_surface : (u v : SurfaceId) → same u v ≡ true → u ≡ v
same_surface Panel Panel e = refl
same_surface Panel (Bitmap h) e = clash e
same_surface (Bitmap h) Panel e = clash e
same_surface (Bitmap h) (Bitmap k) e = ap Bitmap (eqb-true h k e)

module _ (b : GdiState) (d : Draw) (ms : Memories) (l : ReadyWith b ms) where
  -- the target's bytes after it
  abbrev drawing : List ℕ → List ℕ
  drawing = drawn_bytes d (operand b ms d.source) (width_of (where_is b d.target))

  keeps : (bytes : List ℕ) → length (drawing bytes) ≡ length bytes
  keeps = drawn_length d (operand b ms d.source) (width_of (where_is b d.target))

  pub drawn_panel : length (painted_by b (draw d) ms).panel ≡ length ms.panel
  unfolding painted_by
  drawn_panel = over_panel drawing keeps ms (where_is b d.target) (surface_fits b ms l d.target)

  pub drawn_store : length (painted_by b (draw d) ms).store ≡ length ms.store
  unfolding painted_by
  drawn_store = over_store drawing keeps ms (where_is b d.target) (surface_fits b ms l d.target)

  pub drawn_ready : ReadyWith b (painted_by b (draw d) ms)
  drawn_ready = record { sound = l.sound; panel = drawn_panel ∙ l.panel; store = drawn_store ∙ l.store }

  -- a pixel of another surface
  off_target : (u : SurfaceId) (x y : ℕ) → same u d.target ≡ false → colour_at (painted_by b (draw d) ms) (where_is b u) x y ≡ colour_at ms (where_is b u) x y
  unfolding painted_by
  off_target u x y e =
      ap (λ (bytes : List ℕ). word bytes (x + y * width_of (where_is b u)))
      (pixels_other drawing keeps ms (turn (apart b u d.target e)) (surface_fits b ms l d.target))

-- the law: a drawing keeps untainted pixels equal
pub draw_alike : (b : GdiState) (d : Draw) → Sourced b d → (m : Taint) (ms ns : Memories) → ReadyWith b ms → ReadyWith b ns → Alike b m ms ns
    → Alike b (tainted_by (draw d) m) (painted_by b (draw d) ms) (painted_by b (draw d) ns)
unfolding tainted_by
draw_alike b d sourced m ms ns lm ln like u x y i n = by (same u d.target) refl n
  where
    after : Memories → SurfaceId → ℕ
    after l v = colour_at (painted_by b (draw d) l) (where_is b v) x y

    on : has_pixel (where_is b d.target) x y ≡ true → (cond (d.region x y) (Reads m d d.target x y) (m d.target x y) → ⊥) → after ms d.target ≡ after ns d.target
    on i n = unfold painted_by in
        on_target_lem d (operand b ms d.source) (operand b ns d.source) ms ns (where_is b d.target) x y (surface_fits b ms lm d.target) (surface_fits b ns ln d.target) i
        (λ e. let k : Reads m d d.target x y → ⊥ = rw e at n in
        same_result d.table d.pattern
        (λ q. same_operand b d.source m ms ns like x y (sourced x y e) (λ z. k (by_s q z)))
        (λ q. like d.target x y i (λ z. k (by_d q z))))
        (λ e. like d.target x y i (rw e at n))

    by : (t : Bool) → same u d.target ≡ t → (cond (t && d.region x y) (Reads m d u x y) (m u x y) → ⊥) → after ms u ≡ after ns u
    by true e n =
        subst (λ (v : SurfaceId). has_pixel (where_is b v) x y ≡ true → (cond (d.region x y) (Reads m d v x y) (m v x y) → ⊥) → after ms v ≡ after ns v)
        (sym (same_surface u d.target e)) on i n
    by false e n = off_target b d ms lm u x y e ∙ like u x y i n ∙ sym (off_target b d ns ln u x y e)
