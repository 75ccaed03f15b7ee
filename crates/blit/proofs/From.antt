-- A blit from other bytes: its rows one after another, which together are its definition. Assumes nothing.
use mathlib.Core.Path.{◌≡◌, refl, sym, ◌∙◌, ap}
use mathlib.Core.Bool.{Bool, true, false, ◌&&◌, ◌||◌}
use mathlib.Core.List.{List}
use Prim.Native.Nat.{ℕ, ◌+◌, ◌*◌, ◌-◌, ◌/◌, ◌%◌, ◌≤◌, ◌<◌}
use native.Mathlib.Nat.{mul-le-mul_right}
use native.Mathlib.Omega.{arith}
use lib.Dec.{leb}
use lib.ListN.{length}
use borrow.Author.Tests.{le-leb, lt-leb}
use Rattle.std.proofs.lemmas.Bool.Decides.{nat_tests}
use Rattle.arithmetic.specs.Interval.{between}
use Rattle.arithmetic.proofs.Interval.{bounds}
use Rattle.arithmetic.proofs.Test.{both, and-true, not_left, not_right}
use Rattle.words.specs.Words.{word, painted}
use Rattle.words.proofs.Painted.{painted_none, painted_same, painted_cong}
use Rattle.rop3.specs.Rop3.{applied}
use Rattle.raster.specs.Raster.{ropped}
use Rattle.clip_blit.specs.declared.BlitRect.{BlitRect}
use Rattle.surface.specs.Region.{words_of}
use Rattle.surface.proofs.Rows.{rect, row_fits, off_rows, no_rows}
use Rattle.blit.specs.declared.Blit.{Blit}
use Rattle.blit.specs.Blit.{clipped, region, source_word, row_held, blit_from}
use Rattle.blit.specs.Inner.{columns, row_at, source_row_at, source_for, held, row_from, rows_from, RoomFrom}
use Rattle.blit.proofs.Pixels.{Empty, is_empty, across, down, held_same, boxed, none_drawn, taken_same, row_in_source}
use Rattle.blit.proofs.Rows.{next_row, fits, in_row, taken_row, below}

-- a test of two parts
share : (a b c c' : Bool) → (a ≡ true → c ≡ c') → ((a || b) && c) ≡ ((a && c') || (b && c))
share a b c c' h = grind (arith, nat_tests)

-- a row whose part of the source bytes is there, and one whose part passes their end; q is its source row, as the code computes it
module _ (box : BlitRect) (W SW table pat y : ℕ) (src m : List ℕ) {q : ℕ} (is : q ≡ box.src_y0 + (y - box.y0)) where
  abbrev on : ℕ → Bool
  on = between (row_at box W y) (row_at box W y + columns box)

  abbrev start : ℕ
  start = q * SW + box.src_x0

  abbrev new : ℕ → ℕ
  new = ropped table pat (λ i. word src (start + (i - row_at box W y))) m

  pub row_held_lem : {m' : List ℕ} → 2 * (start + columns box) ≤ length src → m' ≡ painted on new m → m' ≡ row_from box W SW table pat y src m
  unfolding row_from
  row_held_lem h e =
      e
      ∙ painted_cong on (λ i. on i && leb (2 * (start + columns box)) (length src)) new m
      (λ i lt. sym (and-true (on i)) ∙ sym (rw (le-leb (2 * (start + columns box)) (length src) h)))
      ∙ rw is

  pub row_passed : length src < 2 * (start + columns box) → m ≡ row_from box W SW table pat y src m
  unfolding row_from
  row_passed h =
      painted_none (λ i. on i && leb (2 * (start + columns box)) (length src)) new m (λ i lt. not_right (on i) (lt-leb (2 * (start + columns box)) (length src) h))
      ∙ rw is

-- rows from other bytes
module _ (box : BlitRect) (W SW table pat : ℕ) (src m₀ : List ℕ) (room : RoomFrom (length m₀) W SW box) where
  abbrev Word : ℕ → ℕ
  Word i = word src (source_for box W SW i)

  abbrev Drawn : ℕ → ℕ → Bool
  Drawn y = words_of W (λ c r. rect box.x0 box.x1 box.y0 y c r && held box SW (length src) r)

  -- a row ends on the destination
  pub end_from : (y : ℕ) → y < box.y1 → 2 * (row_at box W y + columns box) ≤ length m₀
  end_from y k =
      omega (arith, room.bottom, row_fits W box.y1 box.x0 (columns box) y box.y1 (fits box W room.across) k (omega arith))

  -- no row, and one more row
  pub first_from : m₀ ≡ rows_from box W SW table pat box.y0 src m₀
  unfolding rows_from
  first_from = painted_none (Drawn box.y0) (ropped table pat Word m₀) m₀ (λ i lt. not_left (held box SW (length src) (i / W)) (no_rows W box.x0 box.x1 box.y0 box.y0 i (omega arith)))

  pub next_from : (y : ℕ) {m m' : List ℕ} → box.y0 ≤ y → y < box.y1 → m ≡ rows_from box W SW table pat y src m₀ → m' ≡ row_from box W SW table pat y src m → m' ≡ rows_from box W SW table pat (y + 1) src m₀
  unfolding rows_from row_from
  next_from y h k =
      next_row table pat Word (λ l i. word src (source_row_at box SW y + (i - row_at box W y))) (Drawn y) Row (Drawn (y + 1)) m₀ more own (λ i t. ap (word src) (sym (taken_row box W room.across SW y i (on_run i t))))
    where
      Run : ℕ → Bool
      Run i = between (row_at box W y) (row_at box W y + columns box) i

      Row : ℕ → Bool
      Row i = Run i && held box SW (length src) y

      on_run : (i : ℕ) → Row i ≡ true → Run i ≡ true
      on_run i t = (both (Run i) (held box SW (length src) y) t).0

      here : (i : ℕ) → Run i ≡ true → i / W ≡ y
      here = in_row box W room.across y

      more : (i : ℕ) → Drawn (y + 1) i ≡ (Row i || Drawn y i)
      more i =
          ap (λ (t : Bool). t && held box SW (length src) (i / W)) (below box W room.across y i h)
          ∙ share (Run i) (words_of W (rect box.x0 box.x1 box.y0 y) i) (held box SW (length src) (i / W)) (held box SW (length src) y) (λ t. ap (held box SW (length src)) (here i t))

      own : (i : ℕ) → Row i ≡ true → (2 * i + 1 < length m₀) × (Drawn y i ≡ false)
      own i t = (
        omega (arith, bounds (row_at box W y) (row_at box W y + columns box) i (on_run i t), end_from y k),
        not_left (held box SW (length src) (i / W)) (off_rows W box.x0 box.x1 box.y0 y i (λ p q. omega (arith, here i (on_run i t)))),
      )

-- a blit from other bytes
module _ (b : Blit) (table pat : ℕ) (src m : List ℕ) (some : 0 < b.width) (long : length m ≡ 2 * (b.width * b.height)) where
  abbrev New : ℕ → ℕ
  New = ropped table pat (λ i. word src (source_word b (i % b.width) (i / b.width))) m

  abbrev Region : ℕ → Bool
  Region = words_of b.width (λ c r. region b c r && row_held b (length src) r)

  -- an empty box changes nothing
  pub empty_from : {box : BlitRect} → box ≡ clipped b → Empty box → m ≡ blit_from b table pat src m
  unfolding blit_from
  empty_from is h = painted_none Region New m (λ i lt. not_left (row_held b (length src) (i / b.width)) (none_drawn b some i (omega arith) (is_empty b is h)))

  -- what the loop requires, and the bytes after it
  pub room_from : {box : BlitRect} → box ≡ clipped b → b.src_w ≤ 4096 → RoomFrom (length m) b.width b.src_w box
  room_from is h = rw is (record {
    across = record {
      some = some;
      columns_ordered = (across b).ordered;
      rows_ordered = (down b).ordered;
      right = (across b).within;
    };
    bottom = omega (arith, mul-le-mul_right b.width (down b).within);
    narrow = h;
  })

  whole_from : rows_from (clipped b) b.width b.src_w table pat (clipped b).y1 src m ≡ blit_from b table pat src m
  unfolding rows_from blit_from
  whole_from =
      painted_same (words_of b.width (λ c r. rect (clipped b).x0 (clipped b).x1 (clipped b).y0 (clipped b).y1 c r && held (clipped b) b.src_w (length src) r)) Region (ropped table pat (λ i. word src (source_for (clipped b) b.width b.src_w i)) m) New m
      (λ i lt. rw (boxed b some i (omega arith), held_same b (length src) (i / b.width)))
      (λ i lt t. ap (λ (k : ℕ). applied table pat (word src k) (word m i)) (taken_same b some i (omega arith) (both (words_of b.width (region b) i) (row_held b (length src) (i / b.width)) t).0))

  pub drawn_from : {box : BlitRect} {t : ℕ} {m' : List ℕ} → box ≡ clipped b → t ≡ table → m' ≡ rows_from box b.width b.src_w t pat box.y1 src m → m' ≡ blit_from b table pat src m
  drawn_from is e f = (rw (is, e) at f) ∙ whole_from

  -- source bytes of the length that its sides require hold every row
  pub all_rows_held : length src ≡ 2 * (b.src_w * b.src_h) → blit_from b table pat src m ≡ painted (words_of b.width (region b)) New m
  unfolding blit_from
  all_rows_held full = painted_cong Region (words_of b.width (region b)) New m (λ i lt. by i (omega arith) (words_of b.width (region b) i) refl)
    where
      by : (i : ℕ) → i < b.width * b.height → (t : Bool) → words_of b.width (region b) i ≡ t → Region i ≡ words_of b.width (region b) i
      by i lt true e = rw (row_in_source b some i lt e (length src) full) (and-true (words_of b.width (region b) i))
      by i lt false e = not_left (row_held b (length src) (i / b.width)) e ∙ sym e
