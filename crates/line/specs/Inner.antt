-- Definitions that only inner functions cite: no exported contract reaches them.
-- One axis of a line on a side of a surface, and the words of a line's steps.
use Rattle.std.specs.Prelude.{Bool, true, false, cond, ◌&&◌, ◌≡◌, ℕ, ◌+◌, ◌-◌, ◌*◌, ◌≤◌, ◌<◌, eqb, ℤ, pos, ◌-ℤ◌}
use Rattle.arithmetic.specs.Interval.{between}
use Rattle.arithmetic.specs.Test.{any_below}
use Rattle.arithmetic.proofs.Machine.{Terms}
use Rattle.clip.specs.Clip.{nearest}
use Rattle.line.specs.declared.Axis.{Axis}
use Rattle.line.specs.declared.Slope.{Slope}
use Rattle.line.specs.declared.Quotient.{Quotient}
use Rattle.line.specs.Line.{toward, along}

-- the coordinate of step i of an axis
abbrev pub coordinate_of : Axis → ℕ → ℕ
coordinate_of x i = cond x.up (x.first + (i - x.begin)) (x.first - (i - x.begin))

-- step i of an axis has a coordinate
pub record OnAxis (x : Axis) (i : ℕ) : Type 0 where
  pub from : x.begin ≤ i
  pub rising : x.up ≡ true → x.first + (i - x.begin) < 4096
  pub falling : x.up ≡ false → i - x.begin ≤ x.first

-- the steps 0 .. n on a side, whose first is `start` past the side's first coordinate if they go up, before its last if they go down
unfoldable pub visible_of : (start : ℤ) → (up : Bool) → (n side stride : ℕ) → Axis
visible_of start up n side stride =
    let at = nearest start (side - 1) in
    record { first = cond up at (side - 1 - at); up = up; begin = nearest (pos 0 -ℤ start) n; end = nearest (pos side -ℤ start) n; stride = stride }

-- numbers for which the code's sums are exact
pub record Ranged (start : ℤ) (n side : ℕ) : Type 0 where
  pub few : n ≤ 65536
  pub some : 0 < side
  pub short : side ≤ 4096
  pub near : Terms 3 start

-- x holds the steps of 0 .. n from one coordinate toward another whose coordinates are on a side, and the words between coordinates
pub record Seen (from to : ℤ) (n side stride : ℕ) (x : Axis) : Type 0 where
  pub apart : x.stride ≡ stride
  pub few : x.end ≤ n
  pub on : (i : ℕ) → x.begin ≤ i → i < x.end → OnAxis x i
  pub within : (i : ℕ) → x.begin ≤ i → i < x.end → coordinate_of x i < side
  pub exact : (i : ℕ) → x.begin ≤ i → i < x.end → toward from to i ≡ pos (coordinate_of x i)
  pub all : (i c : ℕ) → i < n → c < side → toward from to i ≡ pos c → (x.begin ≤ i) × (i < x.end)

-- quotient and remainder at step i of a line
pub record Carried (s : Slope) (i : ℕ) (at : Quotient) : Type 0 where
  pub sum : 2 * i * s.short + s.long ≡ at.q * (2 * s.long) + at.r
  pub less : at.r < 2 * s.long

-- the word at step i of u and step q of v
abbrev pub word_at : (u v : Axis) → (i q : ℕ) → ℕ
word_at u v i q = coordinate_of u i * u.stride + coordinate_of v q * v.stride

-- step i of a line is on the surface
abbrev pub is_shown : (u v : Axis) → Slope → ℕ → Bool
is_shown u v s i = between u.begin u.end i && between v.begin v.end (along s.long s.short i)

-- the words of the steps before n that are on the surface
abbrev pub dots : (u v : Axis) → Slope → (n j : ℕ) → Bool
dots u v s n j = any_below n (λ i. is_shown u v s i && eqb j (word_at u v i (along s.long s.short i)))

-- the steps of a line on two axes lie in a memory of len bytes
pub record StepsFit (u v : Axis) (s : Slope) (len : ℕ) : Type 0 where
  pub few : u.end ≤ s.long
  pub less : s.short ≤ s.long
  pub small : s.long < 65536
  pub on_u : (i : ℕ) → u.begin ≤ i → i < u.end → OnAxis u i
  pub on_v : (q : ℕ) → v.begin ≤ q → q < v.end → OnAxis v q
  pub room : (i q : ℕ) → u.begin ≤ i → i < u.end → v.begin ≤ q → q < v.end → 2 * word_at u v i q + 1 < len
