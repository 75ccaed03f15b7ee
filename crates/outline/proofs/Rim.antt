-- The four sides between the clipped edges are the rim. Assumes nothing.
use mathlib.Core.Path.{◌≡◌, sym, ◌∙◌, ap}
use mathlib.Core.Bool.{Bool, ◌&&◌, ◌||◌, not}
use Prim.Native.Nat.{ℕ, suc, ◌+◌, ◌-◌, ◌≤◌, ◌<◌}
use native.Mathlib.Omega.{arith}
use lib.Dec.{leb, ltb}
use lib.IntN.{ℤ, pos, ◌+ℤ◌, ◌-ℤ◌}
use Rattle.std.proofs.lemmas.Bool.Decides.{nat_tests}
use Rattle.arithmetic.specs.Interval.{between}
use Rattle.arithmetic.specs.Integer.{positive}
use Rattle.arithmetic.specs.Inner.{negative}
use Rattle.arithmetic.proofs.Integer.{sum, difference, le_parts, lt_parts}
use Rattle.clip.specs.Clip.{covers}
use Rattle.clip.proofs.Clip.{covers_parts, nearest_parts, nearest_le, nearest_lt}
use Rattle.outline.specs.declared.Edges.{Edges}
use Rattle.outline.specs.Outline.{rim}
use Rattle.outline.specs.Inner.{edges_of, sides}

-- p .. p + n is its first number, its last one, and the numbers between
ends : (p n u : ℕ) → 1 ≤ n → (between p (p + 1) u || between (p + n - 1) (p + n) u) ≡ (between p (p + n) u && not (leb (suc p) u && ltb (suc u) (p + n)))
ends p n u some = grind (arith, nat_tests)

-- one axis of a box that is n long, n ≥ 1
module _ (x : ℤ) (n side c : ℕ) (some : 1 ≤ n) (lt : c < side) where
  abbrev e : Edges
  e = edges_of x (pos n) side

  pub all_covered : between e.from e.to c ≡ covers x (pos n) c
  unfolding edges_of
  all_covered = rw (nearest_le x side c lt, nearest_lt (x +ℤ pos n) side c lt)

  first_covered : between e.from e.second c ≡ covers x (pos 1) c
  unfolding edges_of
  first_covered = rw (nearest_le x side c lt, nearest_lt (x +ℤ pos 1) side c lt)

  -- the last coordinate, over the parts
  last_parts : between e.last e.to c ≡ between (positive x + n - 1) (positive x + n) (c + negative x)
  unfolding edges_of
  last_parts =
      rw (nearest_le (x +ℤ pos n -ℤ pos 1) side c lt, nearest_lt (x +ℤ pos n) side c lt, le_parts (x +ℤ pos n -ℤ pos 1) (pos c), lt_parts (pos c) (x +ℤ pos n))
      (grind (arith, nat_tests, sum x (pos n), difference (x +ℤ pos n) (pos 1)))

  -- the interval without its ends
  inner_parts : covers (x +ℤ pos 1) (pos n -ℤ pos 2) c ≡ (leb (suc (positive x)) (c + negative x) && ltb (suc (c + negative x)) (positive x + n))
  inner_parts =
      rw (le_parts (x +ℤ pos 1) (pos c), lt_parts (pos c) (x +ℤ pos 1 +ℤ (pos n -ℤ pos 2)))
      (grind (arith, nat_tests, sum x (pos 1), difference (pos n) (pos 2), sum (x +ℤ pos 1) (pos n -ℤ pos 2)))

  -- the first and the last coordinate are the interval without its inner part
  pub ends_covered : (between e.from e.second c || between e.last e.to c) ≡ (covers x (pos n) c && not (covers (x +ℤ pos 1) (pos n -ℤ pos 2) c))
  ends_covered =
      rw (first_covered, last_parts, inner_parts, covers_parts x 1 c, covers_parts x n c)
      (ends (positive x) n (c + negative x) some)

-- both axes: the whole interval, its first, its last and its inner part
join : (a f l i b t k j : Bool) → (f || l) ≡ (a && not i) → (t || k) ≡ (b && not j) → ((l && b) || ((f && b) || ((a && k) || (a && t)))) ≡ ((a && b) && not (i && j))
join a f l i b t k j p q = grind (arith, nat_tests)

module _ (x y : ℤ) (n k width height c r : ℕ) (some : 1 ≤ n) (high : 1 ≤ k) (lt : c < width) (below : r < height) where
  abbrev cols : Edges
  cols = edges_of x (pos n) width

  abbrev rows : Edges
  rows = edges_of y (pos k) height

  pub sides_rim : sides cols rows c r ≡ rim x y (pos n) (pos k) c r
  sides_rim =
      join (between cols.from cols.to c) (between cols.from cols.second c) (between cols.last cols.to c) (covers (x +ℤ pos 1) (pos n -ℤ pos 2) c)
      (between rows.from rows.to r) (between rows.from rows.second r) (between rows.last rows.to r) (covers (y +ℤ pos 1) (pos k -ℤ pos 2) r)
      (ends_covered x n width c some lt ∙ ap (λ (t : Bool). t && not (covers (x +ℤ pos 1) (pos n -ℤ pos 2) c)) (sym (all_covered x n width c some lt)))
      (ends_covered y k height r high below ∙ ap (λ (t : Bool). t && not (covers (y +ℤ pos 1) (pos k -ℤ pos 2) r)) (sym (all_covered y k height r high below)))
      ∙ rw (all_covered x n width c some lt, all_covered y k height r high below)

-- the edges are on the side
pub edges_within : (x w : ℤ) (side : ℕ) → ((edges_of x w side).second ≤ side) × ((edges_of x w side).to ≤ side)
unfolding edges_of
edges_within x w side = omega (arith, nearest_parts (x +ℤ pos 1) side, nearest_parts (x +ℤ w) side)
