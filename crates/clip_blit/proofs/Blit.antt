-- A clipped blit draws exactly the coordinates of the destination that lie in its box and whose source coordinates lie inside the
-- source, each from its own source coordinate. Assumes nothing.
use mathlib.Core.Path.{◌≡◌, refl, sym, ◌∙◌, ap}
use mathlib.Core.Bool.{Bool, true, false, ◌&&◌, cond, true≢false, and-true, and-false}
use Prim.Native.Nat.{ℕ, ◌+◌, ◌-◌, ◌≤◌, ◌<◌}
use native.Mathlib.Omega.{arith}
use lib.Dec.{ltb}
use lib.IntN.{ℤ, pos, negsuc, ◌+ℤ◌, ◌-ℤ◌}
use lib.Signed.{le_z, lt_z}
use borrow.Author.Tests.{ltb-true, ltb-false, lt-ltb, le-ltb}
use Rattle.std.proofs.lemmas.Int.{ints}
use Rattle.arithmetic.specs.Interval.{between}
use Rattle.arithmetic.specs.Integer.{positive}
use Rattle.arithmetic.specs.Inner.{negative}
use Rattle.arithmetic.proofs.Integer.{sum, difference, eq_parts, le_moved, lt_moved}
use Rattle.arithmetic.proofs.Interval.{Lies, where_is_lem, between_yes, between_no, bounds}
use Rattle.arithmetic.proofs.Test.{both}
use Rattle.clip.specs.declared.Span.{Span}
use Rattle.clip_blit.specs.declared.BlitSpan.{BlitSpan}
use Rattle.clip_blit.specs.declared.BlitRect.{BlitRect}
use Rattle.clip.specs.Clip.{nearest, covers, clipped_axis}
use Rattle.clip_blit.specs.Blit.{source_at, inside, drawn_along, drawn_at, shifted, on_destination, nothing, blit_axis, blit_rect}
use Rattle.clip.proofs.Clip.{clip_covers, clip_within}

-- The interval b lies on the destination and its source on the source; it holds the drawn coordinates, each with its own source.
pub record Clipped (d s w : ℤ) (dst-side src-side : ℕ) (b : BlitSpan) : Type 0 where
  pub ordered : b.from ≤ b.to
  pub within : b.to ≤ dst-side
  pub source : b.src + (b.to - b.from) ≤ src-side
  pub exact : (i : ℕ) → i < dst-side → between b.from b.to i ≡ drawn_along d s w src-side i
  pub taken : (i : ℕ) → b.from ≤ i → i < b.to → pos (b.src + (i - b.from)) ≡ source_at d s i

inside_parts : (z : ℤ) (side : ℕ) → inside z side ≡ true → (negative z ≡ 0) × (positive z < side)
inside_parts (pos k) side e = (refl, (bounds 0 side k e).1)
inside_parts (negsuc k) side e = absurd (true≢false (sym e))

-- the source coordinate of a drawn coordinate is inside the source
pub drawn_source : (d s w : ℤ) (src-side i : ℕ) → drawn_along d s w src-side i ≡ true → positive (source_at d s i) < src-side
drawn_source d s w src-side i e = (inside_parts (source_at d s i) src-side (both (covers d w i) (inside (source_at d s i) src-side) e).1).1

-- the clipped source holds the coordinates of s .. s + w inside the source
cut_inside : (s w : ℤ) (side : ℕ) (z : ℤ) → (le_z (pos (clipped_axis s w side).from) z && lt_z z (pos (clipped_axis s w side).to)) ≡ ((le_z s z && lt_z z (s +ℤ w)) && inside z side)
cut_inside s w side (negsuc k) = sym (and-false (le_z s (negsuc k) && lt_z (negsuc k) (s +ℤ w)))
cut_inside s w side (pos k) = by (where_is_lem 0 side k)
  where
    by : Lies 0 side k → between (clipped_axis s w side).from (clipped_axis s w side).to k ≡ (covers s w k && between 0 side k)
    by (Lies.inside e g h) = clip_covers s w side h ∙ sym (and-true (covers s w k)) ∙ rw e
    by (Lies.before e g) = absurd (omega arith)
    by (Lies.behind e g) = between_no _ _ k (λ p q. omega (arith, clip_within s w side)) ∙ sym (and-false (covers s w k)) ∙ rw e

-- source_at d s i = i - d + s, over the parts
source_parts : (d s : ℤ) (i : ℕ) → positive (source_at d s i) + (positive d + negative s) ≡ (i + negative d + positive s) + negative (source_at d s i)
source_parts d s i = omega (arith, difference (pos i) d, sum (pos i -ℤ d) s)

-- source coordinates have the same order as destination coordinates
source_next : (d s : ℤ) (from i : ℕ) → from ≤ i → negative (source_at d s from) ≡ 0 → pos (positive (source_at d s from) + (i - from)) ≡ source_at d s i
source_next d s from i h e = eq_parts (pos (positive (source_at d s from) + (i - from))) (source_at d s i) (omega (arith, source_parts d s from, source_parts d s i))

-- a test of the destination coordinate i as a test of its source coordinate
module _ (d s : ℤ) (i : ℕ) where
  abbrev z : ℤ
  z = source_at d s i

  box_moved : (w : ℤ) → covers d w i ≡ (le_z s z && lt_z z (s +ℤ w))
  box_moved w =
      let p = source_parts d s i in
      rw (le_moved d (pos i) s z (omega arith), lt_moved (pos i) (d +ℤ w) z (s +ℤ w) (omega (arith, sum d w, sum s w)))

  module _ (cut : Span) where
    abbrev start : ℤ
    start = shifted d s cut

    abbrev long : ℤ
    long = pos cut.to -ℤ pos cut.from

    start_parts : positive start + (negative d + positive s) ≡ (positive d + cut.from + negative s) + negative start
    start_parts = omega (arith, difference (pos cut.from) s, sum d (pos cut.from -ℤ s))

    cut_moved : covers start long i ≡ (le_z (pos cut.from) z && lt_z z (pos cut.to))
    cut_moved =
        let p = source_parts d s i in
        rw (
          le_moved start (pos i) (pos cut.from) z (omega (arith, start_parts)),
          lt_moved (pos i) (start +ℤ long) z (pos cut.to) (omega (arith, start_parts, difference (pos cut.to) (pos cut.from), sum start long)),
        )

    -- the first source coordinate, as in the definition
    first_is : pos cut.from +ℤ (pos i -ℤ start) ≡ z
    first_is =
        eq_parts (pos cut.from +ℤ (pos i -ℤ start)) z
        (omega (arith, source_parts d s i, start_parts, difference (pos i) start, sum (pos cut.from) (pos i -ℤ start)))

-- the interval before the test whether it is empty
module _ (d s w : ℤ) (dst-side src-side : ℕ) where
  abbrev source : Span
  source = clipped_axis s w src-side

  abbrev on : Span
  on = on_destination d s source dst-side

  on_exact : (i : ℕ) → i < dst-side → between on.from on.to i ≡ drawn_along d s w src-side i
  on_exact i h =
      clip_covers (shifted d s source) (pos source.to -ℤ pos source.from) dst-side h
      ∙ cut_moved d s i source
      ∙ cut_inside s w src-side (source_at d s i)
      ∙ rw (box_moved d s i w)

  on_within : on.to ≤ dst-side
  on_within = (clip_within (shifted d s source) (pos source.to -ℤ pos source.from) dst-side).1

  on_inside : (i : ℕ) → on.from ≤ i → i < on.to → (negative (source_at d s i) ≡ 0) × (positive (source_at d s i) < src-side)
  on_inside i h k =
      let e = sym (on_exact i (omega (arith, on_within))) ∙ between_yes on.from on.to i h k in
      inside_parts (source_at d s i) src-side (both (covers d w i) (inside (source_at d s i) src-side) e).1

  picked : (t : Bool) → ltb on.from on.to ≡ t → Clipped d s w dst-side src-side (cond t (record { from = on.from; to = on.to; src = positive (pos source.from +ℤ (pos on.from -ℤ shifted d s source)) }) nothing)
  picked true e =
      let h : on.from < on.to = ltb-true on.from on.to e in
      let first = (on_inside on.from (omega arith) h).0 in
      let last = source_next d s on.from (on.to - 1) (omega arith) first in
      rw (first_is d s on.from source)
      (record {
        ordered = omega arith;
        within = on_within;
        source = omega (arith, ap positive last, on_inside (on.to - 1) (omega arith) (omega arith));
        exact = on_exact;
        taken = λ i p q. source_next d s on.from i p first;
      })
  picked false e =
      let h : on.to ≤ on.from = ltb-false on.from on.to e in record {
        ordered = omega arith;
        within = omega arith;
        source = omega arith;
        exact = λ i p. between_no 0 0 i (λ l r. omega arith) ∙ sym (between_no on.from on.to i (λ l r. omega arith)) ∙ on_exact i p;
        taken = λ i p q. absurd (omega arith);
      }

  -- a coordinate is drawn exactly if it is in the box and its source coordinate is inside the source; it is drawn from there
  pub blit_clipped : Clipped d s w dst-side src-side (blit_axis d s w dst-side src-side)
  unfolding blit_axis
  blit_clipped = picked (ltb on.from on.to) refl

  -- The definition, at the values that the code computes: both ends of the clipped source move by d - s.
  module _ {cut : Span} {start end : ℤ} {from to : ℕ} (is_cut : cut ≡ clipped_axis s w src-side) (is-start : start ≡ pos cut.from +ℤ (d -ℤ s)) (is-end : end ≡ pos cut.to +ℤ (d -ℤ s)) (is-from : from ≡ nearest start dst-side) (is-to : to ≡ nearest end dst-side) where
    abbrev drawn : BlitSpan
    drawn = blit_axis d s w dst-side src-side

    blit_steps : drawn ≡ cond (ltb from to) (record { from = from; to = to; src = positive (pos cut.from +ℤ (pos from -ℤ shifted d s cut)) }) nothing
    unfolding blit_axis clipped_axis
    blit_steps =
        let first : start ≡ shifted d s cut = omega (arith, ints) in
        let last : end ≡ shifted d s cut +ℤ (pos cut.to -ℤ pos cut.from) = omega (arith, ints) in
        cc

    -- where pixels are drawn, the source coordinate that the code subtracts is the definition's
    pub blit_drawn : from < to → (drawn ≡ record { from = from; to = to; src = drawn.src }) × ((pos from -ℤ (d -ℤ s) ≡ pos drawn.src) × (drawn.src < src-side))
    blit_drawn h =
        let is : drawn ≡ record { from = from; to = to; src = positive (pos cut.from +ℤ (pos from -ℤ shifted d s cut)) } = rw (lt-ltb from to h) at blit_steps in
        let at : drawn.from ≡ from = ap (λ (x : BlitSpan). x.from) is in
        let until : drawn.to ≡ to = ap (λ (x : BlitSpan). x.to) is in
        let taken : pos (drawn.src + (from - drawn.from)) ≡ source_at d s from = blit_clipped.taken from (omega arith) (omega arith) in
        let within = blit_clipped.source in
        (cc (is, ap (λ (x : BlitSpan). x.src) is), (omega (arith, ints), omega arith))

    pub blit_none : to ≤ from → drawn ≡ nothing
    blit_none h = rw (le-ltb from to h) at blit_steps

module _ (dx dy sx sy w h : ℤ) (dst-w dst-h src-w src-h : ℕ) where
  abbrev box : BlitRect
  box = blit_rect dx dy sx sy w h dst-w dst-h src-w src-h

  -- a destination pixel is drawn exactly if it is in the box and its source pixel is inside the source
  pub blit_region : {c r : ℕ} → c < dst-w → r < dst-h → (between box.x0 box.x1 c && between box.y0 box.y1 r) ≡ drawn_at dx dy sx sy w h src-w src-h c r
  blit_region {c} {r} p q = rw ((blit_clipped dx sx w dst-w src-w).exact c p, (blit_clipped dy sy h dst-h src-h).exact r q)
