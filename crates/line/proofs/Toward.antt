-- Steps from one coordinate toward another, over the parts of integers. Assumes nothing.
use mathlib.Core.Bool.{Bool, true, false, true≢false}
use mathlib.Core.Path.{◌≡◌, refl, sym, ◌∙◌, ap}
use Prim.Native.Nat.{ℕ, ◌+◌, ◌-◌, ◌≤◌, ◌<◌, min}
use native.Mathlib.Omega.{arith}
use lib.IntN.{ℤ, pos, negsuc, ◌+ℤ◌, ◌-ℤ◌}
use lib.Signed.{le_z}
use borrow.Author.Tests.{eqb-true, eq-eqb}
use Rattle.arithmetic.specs.Integer.{positive}
use Rattle.arithmetic.specs.Inner.{negative}
use Rattle.arithmetic.proofs.Integer.{sum, difference, eq_parts, one_part, abs_parts}
use Rattle.clip.specs.Clip.{nearest}
use Rattle.clip.proofs.Clip.{nearest_parts}
use Rattle.line.specs.declared.Axis.{Axis}
use Rattle.line.specs.Line.{extent, toward, is_at}
use Rattle.line.specs.Inner.{coordinate_of, visible_of, Seen}

-- a test of a coordinate
pub at_yes : (z : ℤ) (c : ℕ) → z ≡ pos c → is_at z c ≡ true
at_yes z c e = rw e (eq-eqb c c refl)

pub at_is : (z : ℤ) (c : ℕ) → is_at z c ≡ true → z ≡ pos c
at_is (pos n) c e = ap pos (eqb-true n c e)
at_is (negsuc n) c e = absurd (true≢false (sym e))

-- the two directions
module _ (from to : ℤ) (i : ℕ) where
  pub toward_up : le_z from to ≡ true → toward from to i ≡ from +ℤ pos i
  toward_up e = rw e

  pub toward_down : le_z from to ≡ false → toward from to i ≡ from -ℤ pos i
  toward_down e = rw e

  -- step i is i away
  pub toward_extent : extent from (toward from to i) ≡ i
  toward_extent = by (le_z from to) refl
    where
      by : (t : Bool) → le_z from to ≡ t → extent from (toward from to i) ≡ i
      by true e =
          ap (extent from) (toward_up e) ∙ abs_parts ((from +ℤ pos i) -ℤ from)
          ∙ omega (arith, sum from (pos i), difference (from +ℤ pos i) from, one_part ((from +ℤ pos i) -ℤ from))
      by false e =
          ap (extent from) (toward_down e) ∙ abs_parts ((from -ℤ pos i) -ℤ from)
          ∙ omega (arith, difference from (pos i), difference (from -ℤ pos i) from, one_part ((from -ℤ pos i) -ℤ from))

-- the visible steps, over the parts of their start
module _ (start : ℤ) (up : Bool) (n side stride : ℕ) where
  abbrev axis : Axis
  axis = visible_of start up n side stride

  begin_parts : axis.begin ≡ min (negative start) n
  unfolding visible_of
  begin_parts = nearest_parts (pos 0 -ℤ start) n ∙ ap (λ (k : ℕ). min k n) (omega (arith, difference (pos 0) start, one_part (pos 0 -ℤ start), one_part start))

  end_parts : axis.end ≡ min (side + negative start - positive start) n
  unfolding visible_of
  end_parts = nearest_parts (pos side -ℤ start) n ∙ ap (λ (k : ℕ). min k n) (omega (arith, difference (pos side) start, one_part (pos side -ℤ start)))

  visible_few : axis.end ≤ n
  visible_few = omega (arith, end_parts)

  visible_all : (i : ℕ) → i < n → negative start ≤ positive start + i → positive start + i < side + negative start → (axis.begin ≤ i) × (i < axis.end)
  visible_all i lt low high = (omega (arith, begin_parts, one_part start), omega (arith, end_parts))

  -- a visible step
  module _ (i : ℕ) (from : axis.begin ≤ i) (to : i < axis.end) where
    ends : (i < n) × (positive start + i < side + negative start)
    ends = omega (arith, end_parts)

    begins : (axis.begin ≡ negative start) × (negative start ≤ i)
    begins = omega (arith, begin_parts, ends)

    starts : nearest start (side - 1) ≡ positive start
    starts = nearest_parts start (side - 1) ∙ omega (arith, one_part start, ends)

    first_up : up ≡ true → axis.first ≡ positive start
    unfolding visible_of
    first_up e = rw (e, starts)

    first_down : up ≡ false → axis.first ≡ side - 1 - positive start
    unfolding visible_of
    first_down e = rw (e, starts)

-- steps that go up, with start at `from`
module _ (from to start : ℤ) (n side stride : ℕ) (some : 0 < side) (short : side ≤ 4096) where
  module _ (way : le_z from to ≡ true) (is : positive start + negative from ≡ positive from + negative start) where
    abbrev rise : Axis
    rise = visible_of start true n side stride

    rise_up : rise.up ≡ true
    unfolding visible_of
    rise_up = refl

    rise_apart : rise.stride ≡ stride
    unfolding visible_of
    rise_apart = refl

    rise_at : (i : ℕ) → rise.begin ≤ i → i < rise.end → (coordinate_of rise i ≡ rise.first + (i - rise.begin)) × (rise.first + (i - rise.begin) + negative start ≡ positive start + i)
    rise_at i h k = (rw rise_up, omega (arith, first_up start true n side stride i h k refl, begins start true n side stride i h k))

    rise_seen : Seen from to n side stride rise
    rise_seen = record {
      apart = rise_apart;
      few = visible_few start true n side stride;
      on = λ i h k. record {
        from = h;
        rising = λ e. omega (arith, (rise_at i h k).1, ends start true n side stride i h k);
        falling = λ e. absurd (true≢false (sym rise_up ∙ e));
      };
      within = λ i h k. omega (arith, rise_at i h k, ends start true n side stride i h k);
      exact = λ i h k. toward_up from to i way ∙ eq_parts (from +ℤ pos i) (pos (coordinate_of rise i)) (omega (arith, sum from (pos i), rise_at i h k));
      all = λ i c h k e. let s : from +ℤ pos i ≡ pos c = sym (toward_up from to i way) ∙ e in
          visible_all start true n side stride i h (omega (arith, sum from (pos i), ap positive s, ap negative s)) (omega (arith, sum from (pos i), ap positive s, ap negative s));
    }

    pub seen_up : {x : Axis} → x ≡ rise → Seen from to n side stride x
    seen_up e = rw e rise_seen

  -- steps that go down, with start counted from the end of the side
  module _ (way : le_z from to ≡ false) (is : positive start + 1 + positive from ≡ side + negative from + negative start) where
    abbrev fall : Axis
    fall = visible_of start false n side stride

    fall_down : fall.up ≡ false
    unfolding visible_of
    fall_down = refl

    fall_apart : fall.stride ≡ stride
    unfolding visible_of
    fall_apart = refl

    fall_at : (i : ℕ) → fall.begin ≤ i → i < fall.end → (coordinate_of fall i ≡ fall.first - (i - fall.begin)) × ((i - fall.begin ≤ fall.first) × (fall.first - (i - fall.begin) + positive start + i + 1 ≡ side + negative start))
    fall_at i h k = (rw fall_down, omega (arith, first_down start false n side stride i h k refl, begins start false n side stride i h k, ends start false n side stride i h k))

    fall_seen : Seen from to n side stride fall
    fall_seen = record {
      apart = fall_apart;
      few = visible_few start false n side stride;
      on = λ i h k. record {
        from = h;
        rising = λ e. absurd (true≢false (sym e ∙ fall_down));
        falling = λ e. (fall_at i h k).1.0;
      };
      within = λ i h k. omega (arith, fall_at i h k, begins start false n side stride i h k);
      exact = λ i h k. toward_down from to i way ∙ eq_parts (from -ℤ pos i) (pos (coordinate_of fall i)) (omega (arith, difference from (pos i), fall_at i h k));
      all = λ i c h k e. let s : from -ℤ pos i ≡ pos c = sym (toward_down from to i way) ∙ e in
          visible_all start false n side stride i h (omega (arith, difference from (pos i), ap positive s, ap negative s)) (omega (arith, difference from (pos i), ap positive s, ap negative s));
    }

    pub seen_down : {x : Axis} → x ≡ fall → Seen from to n side stride x
    seen_down e = rw e fall_seen
