-- A blit within one memory: its rows from the top and from the bottom, none of which is read after it is drawn; together they are its
-- definition. Assumes nothing.
use mathlib.Core.Path.{◌≡◌, refl, sym, ◌∙◌, ap}
use mathlib.Core.Bool.{Bool, true, false, ◌&&◌, ◌||◌}
use mathlib.Core.List.{List}
use mathlib.Core.Logic.{◌⊎◌, inl, inr}
use Prim.Native.Nat.{ℕ, ◌+◌, ◌*◌, ◌-◌, ◌/◌, ◌%◌, ◌≤◌, ◌<◌}
use native.Mathlib.Nat.{mul-le-mul_right, div-lt_iff_lt-mul}
use native.Mathlib.Omega.{arith}
use lib.Dec.{leb}
use lib.ListN.{length}
use borrow.Author.Tests.{le-leb, lt-leb}
use Rattle.std.proofs.lemmas.Bool.Decides.{nat_tests}
use Rattle.arithmetic.specs.Interval.{between}
use Rattle.arithmetic.proofs.Interval.{Lies, inside, before, behind, where_is_lem, between_yes, bounds}
use Rattle.arithmetic.proofs.Test.{both, not_left, not_right}
use Rattle.words.specs.Words.{word, painted}
use Rattle.words.proofs.Painted.{painted_none, painted_same, word_kept}
use Rattle.rop3.specs.Rop3.{applied}
use Rattle.raster.specs.Raster.{ropped}
use Rattle.clip_blit.specs.declared.BlitRect.{BlitRect}
use Rattle.surface.specs.Region.{words_of}
use Rattle.surface.proofs.Rows.{rect, run_row, row_fits, off_rows, no_rows}
use Rattle.blit.specs.declared.Blit.{Blit}
use Rattle.blit.specs.Blit.{clipped, region, source_word}
use Rattle.blit.specs.Inner.{columns, row_at, source_row_at, source_for}
use Rattle.blit_within.specs.Inner.{blit_within, Placed, row_within, rows_at, rows_within, RoomWithin}
use Rattle.blit.proofs.Pixels.{Empty, is_empty, across, down, boxed, none_drawn, taken_same}
use Rattle.blit.proofs.Rows.{next_row, fits, in_row, taken_row, below, above}

-- a row of a surface that begins at word at
placed_row : (at d n i : ℕ) → at ≤ i → between (at + d) (at + d + n) i ≡ between d (d + n) (i - at)
placed_row at d n i h = grind (arith, nat_tests)

placed_more : (at d n i : ℕ) (old all : Bool) → all ≡ (between d (d + n) (i - at) || old) → (leb at i && all) ≡ (between (at + d) (at + d + n) i || (leb at i && old))
placed_more at d n i old all e = grind (arith, nat_tests)

-- a row, as the code draws it from the source row q that it computes
pub row_drawn : (box : BlitRect) (at W src-at SW table pat y : ℕ) (m : List ℕ) {q : ℕ} {m' : List ℕ} → q ≡ box.src_y0 + (y - box.y0)
    → m' ≡ painted (between (at + row_at box W y) (at + row_at box W y + columns box)) (ropped table pat (λ i. word m (src-at + (q * SW + box.src_x0) + (i - (at + row_at box W y)))) m) m
    → m' ≡ row_within box at W src-at SW table pat y m
unfolding row_within
row_drawn box at W src-at SW table pat y m is e = e ∙ rw is

-- rows within one memory
module _ (box : BlitRect) (at W src-at SW table pat : ℕ) (m₀ : List ℕ) (room : RoomWithin (length m₀) at W src-at SW box) where
  abbrev Word : ℕ → ℕ
  Word i = word m₀ (src-at + source_for box W SW (i - at))

  -- no row is drawn
  pub first_within : (y : ℕ) → m₀ ≡ rows_within box at W src-at SW table pat y y m₀
  unfolding rows_within
  first_within y = painted_none (rows_at box at W y y) (ropped table pat Word m₀) m₀ (λ i lt. not_right (leb at i) (no_rows W box.x0 box.x1 y y (i - at) (omega arith)))

  -- a row and its source end in the memory
  pub end_within : (y : ℕ) → y < box.y1 → 2 * (at + row_at box W y + columns box) ≤ length m₀
  end_within y to =
      omega (arith, room.bottom, row_fits W box.y1 box.x0 (columns box) y box.y1 (fits box W room.across) to (omega arith))

  abbrev last : ℕ
  last = box.src_y0 + (box.y1 - box.y0)

  end_source : (y : ℕ) → box.y0 ≤ y → y < box.y1 → source_row_at box SW y + columns box ≤ last * SW
  end_source y from to = omega (arith, row_fits SW last box.src_x0 (columns box) (box.src_y0 + (y - box.y0)) last room.right_source (omega arith) (omega arith))

  pub source_within : (y : ℕ) → box.y0 ≤ y → y < box.y1 → {q : ℕ} → q ≡ box.src_y0 + (y - box.y0) → 2 * (src-at + (q * SW + box.src_x0) + columns box) ≤ length m₀
  source_within y from to is = rw is (omega (arith, room.bottom_source, end_source y from to))

  -- row y, drawn after rows top .. bottom
  module _ (y top bottom : ℕ) (from : box.y0 ≤ y) (to : y < box.y1) (low : bottom ≤ box.y1) where
    abbrev d : ℕ
    d = at + row_at box W y

    abbrev source : ℕ
    source = src-at + source_row_at box SW y

    abbrev source_row : ℕ
    source_row = box.src_y0 + (y - box.y0)

    -- no word of its source is drawn yet, if no source row of the same surface is
    clear : (k : ℕ) → k < columns box → (top ≤ source_row → source_row < bottom → ⊥) → rows_at box at W top bottom (source + k) ≡ false
    clear k lt off = by room.apart
      where
        by : ((at ≡ src-at) × (W ≡ SW)) ⊎ ((at + box.y1 * W ≤ src-at) ⊎ (src-at + last * SW ≤ at)) → rows_at box at W top bottom (source + k) ≡ false
        by (inl (e, f)) =
            let g : source_row * W ≡ source_row * SW = ap (λ (w : ℕ). source_row * w) f in
            let is : (source + k - at) / W ≡ source_row = run_row W box.src_x0 (columns box) source_row (source + k - at) room.across.some (omega (arith, room.right_source)) (between_yes _ _ (source + k - at) (omega arith) (omega arith)) in
            not_right (leb at (source + k)) (off_rows W box.x0 box.x1 top bottom (source + k - at) (λ p q. off (omega arith) (omega arith)))
        by (inr (inl e)) =
            not_right (leb at (source + k))
            (off_rows W box.x0 box.x1 top bottom (source + k - at)
            (λ p q. let lt : source + k - at < bottom * W = (div-lt_iff_lt-mul room.across.some).0 q in omega (arith, mul-le-mul_right W low)))
        by (inr (inr e)) = rw (lt-leb at (source + k) (omega (arith, end_source y from to)))

    -- one more row
    next_within : (top' bottom' : ℕ) {m m' : List ℕ}
        → ((i : ℕ) → words_of W (rect box.x0 box.x1 top' bottom') i ≡ (between (row_at box W y) (row_at box W y + columns box) i || words_of W (rect box.x0 box.x1 top bottom) i))
        → (top ≤ y → y < bottom → ⊥) → (top ≤ source_row → source_row < bottom → ⊥)
        → m ≡ rows_within box at W src-at SW table pat top bottom m₀ → m' ≡ row_within box at W src-at SW table pat y m → m' ≡ rows_within box at W src-at SW table pat top' bottom' m₀
    unfolding rows_within row_within
    next_within top' bottom' more own off =
        next_row table pat Word (λ l i. word l (source + (i - d))) (rows_at box at W top bottom) Run (rows_at box at W top' bottom') m₀
        (λ i. placed_more at (row_at box W y) (columns box) i (words_of W (rect box.x0 box.x1 top bottom) (i - at)) (words_of W (rect box.x0 box.x1 top' bottom') (i - at)) (more (i - at)))
        (λ i t. (omega (arith, end_within y to, in_run i t), not_right (leb at i) (off_rows W box.x0 box.x1 top bottom (i - at) (λ p q. let e = in_row box W room.across y (i - at) (on_row i t) in own (omega arith) (omega arith)))))
        takes
      where
        Run : ℕ → Bool
        Run i = between d (d + columns box) i

        in_run : (i : ℕ) → Run i ≡ true → (d ≤ i) × (i < d + columns box)
        in_run i t = bounds d (d + columns box) i t

        on_row : (i : ℕ) → Run i ≡ true → between (row_at box W y) (row_at box W y + columns box) (i - at) ≡ true
        on_row i t = sym (placed_row at (row_at box W y) (columns box) i (omega (arith, in_run i t))) ∙ t

        takes : (i : ℕ) → Run i ≡ true → word (painted (rows_at box at W top bottom) (ropped table pat Word m₀) m₀) (source + (i - d)) ≡ Word i
        takes i t =
            let e : src-at + (source_row_at box SW y + (i - at - row_at box W y)) ≡ source + (i - d) = omega arith in
            word_kept (rows_at box at W top bottom) (ropped table pat Word m₀) m₀ (source + (i - d)) (omega (arith, in_run i t, source_within y from to refl)) (clear (i - d) (omega (arith, in_run i t)) off)
            ∙ ap (word m₀) (sym (ap (λ (x : ℕ). src-at + x) (taken_row box W room.across SW y (i - at) (on_row i t)) ∙ e))

  -- one more row from the top, and one from the bottom
  pub next_down : (y : ℕ) {m m' : List ℕ} → box.y0 ≤ box.src_y0 → box.y0 ≤ y → y < box.y1
      → m ≡ rows_within box at W src-at SW table pat box.y0 y m₀ → m' ≡ row_within box at W src-at SW table pat y m
      → m' ≡ rows_within box at W src-at SW table pat box.y0 (y + 1) m₀
  next_down y order from to =
      next_within y box.y0 y from to (omega arith) box.y0 (y + 1)
      (λ i. below box W room.across y i from) (λ p q. omega arith) (λ p q. omega arith)

  pub next_up : (y : ℕ) {m m' : List ℕ} → box.src_y0 ≤ box.y0 → box.y0 ≤ y → y < box.y1
      → m ≡ rows_within box at W src-at SW table pat (y + 1) box.y1 m₀ → m' ≡ row_within box at W src-at SW table pat y m
      → m' ≡ rows_within box at W src-at SW table pat y box.y1 m₀
  next_up y order from to =
      next_within y (y + 1) box.y1 from to (omega arith) y box.y1
      (λ i. above box W room.across y i to) (λ p q. omega arith) (λ p q. omega arith)

-- a blit within one memory
module _ (b : Blit) (at src-at table pat : ℕ) (m : List ℕ) (P : Placed (length m) at src-at b) where
  abbrev end : ℕ
  end = at + b.width * b.height

  abbrev New : ℕ → ℕ
  New = ropped table pat (λ i. word m (src-at + source_word b ((i - at) % b.width) ((i - at) / b.width))) m

  abbrev Region : ℕ → Bool
  Region i = between at end i && words_of b.width (region b) (i - at)

  -- an empty box changes nothing
  pub empty_within : {box : BlitRect} → box ≡ clipped b → Empty box → m ≡ blit_within b at src-at table pat m
  unfolding blit_within
  empty_within is h =
      painted_none Region New m (λ i lt. let pixel = none_drawn b P.some (i - at) in let none = is_empty b is h in grind (arith, nat_tests, pixel, none))

  -- what the loops require, and the memory after them
  rows_end : (clipped b).y1 * b.width ≤ b.width * b.height
  rows_end = omega (arith, mul-le-mul_right b.width (down b).within)

  source_end : ((clipped b).src_y0 + ((clipped b).y1 - (clipped b).y0)) * b.src_w ≤ b.src_w * b.src_h
  source_end = omega (arith, mul-le-mul_right b.src_w (down b).source)

  pub room_within : {box : BlitRect} → box ≡ clipped b → RoomWithin (length m) at b.width src-at b.src_w box
  room_within is = rw is (record {
    across = record {
      some = P.some;
      columns_ordered = (across b).ordered;
      rows_ordered = (down b).ordered;
      right = (across b).within;
    };
    narrow = P.narrow;
    bottom = omega (arith, rows_end, P.room);
    right_source = (across b).source;
    bottom_source = omega (arith, source_end, P.room_source);
    apart = by P.apart;
  })
    where
      by : ((at ≡ src-at) × (b.width ≡ b.src_w)) ⊎ ((end ≤ src-at) ⊎ (src-at + b.src_w * b.src_h ≤ at))
          → ((at ≡ src-at) × (b.width ≡ b.src_w)) ⊎ ((at + (clipped b).y1 * b.width ≤ src-at) ⊎ (src-at + ((clipped b).src_y0 + ((clipped b).y1 - (clipped b).y0)) * b.src_w ≤ at))
      by (inl e) = inl e
      by (inr (inl e)) = inr (inl (omega (arith, rows_end)))
      by (inr (inr e)) = inr (inr (omega (arith, source_end)))

  placed : (i : ℕ) → rows_at (clipped b) at b.width (clipped b).y0 (clipped b).y1 i ≡ Region i
  placed i = by (where_is_lem at end i)
    where
      by : Lies at end i → rows_at (clipped b) at b.width (clipped b).y0 (clipped b).y1 i ≡ Region i
      by (inside e p q) = rw (e, le-leb at i p) (boxed b P.some (i - at) (omega arith))
      by (before e p) = rw (e, lt-leb at i p)
      by (behind e p) =
          not_right (leb at i)
          (off_rows b.width (clipped b).x0 (clipped b).x1 (clipped b).y0 (clipped b).y1 (i - at)
          (λ u v. let lt : i - at < (clipped b).y1 * b.width = (div-lt_iff_lt-mul P.some).0 v in omega (arith, rows_end)))
          ∙ sym (not_left (words_of b.width (region b) (i - at)) e)

  whole_within : rows_within (clipped b) at b.width src-at b.src_w table pat (clipped b).y0 (clipped b).y1 m ≡ blit_within b at src-at table pat m
  unfolding rows_within blit_within
  whole_within =
      painted_same (rows_at (clipped b) at b.width (clipped b).y0 (clipped b).y1) Region (ropped table pat (λ i. word m (src-at + source_for (clipped b) b.width b.src_w (i - at))) m) New m
      (λ i lt. placed i)
      (λ i lt t. let d = both (between at end i) (words_of b.width (region b) (i - at)) t in
      let h = bounds at end i d.0 in
      ap (λ (k : ℕ). applied table pat (word m (src-at + k)) (word m i)) (taken_same b P.some (i - at) (omega arith) d.1))

  pub drawn_within : {box : BlitRect} {t : ℕ} {m' : List ℕ} → box ≡ clipped b → t ≡ table → m' ≡ rows_within box at b.width src-at b.src_w t pat box.y0 box.y1 m → m' ≡ blit_within b at src-at table pat m
  drawn_within is e f = (rw (is, e) at f) ∙ whole_within
