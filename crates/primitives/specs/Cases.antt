-- What the program's functions guarantee each other, as far as their safety needs it.
use Rattle.std.specs.Prelude.{◌≡◌, List, ◌⊎◌, ℕ, ◌+◌, ◌*◌, ◌≤◌, ◌<◌, length}
use Rattle.primitives.specs.declared.line.Reply.{Reply}
use Rattle.primitives.specs.declared.memory.Sides.{Sides}
use Rattle.primitives.specs.declared.memory.State.{State}

-- sides of at most 4,096
pub record Limited (s : Sides) : Type 0 where
  pub width : s.w ≤ 4096
  pub height : s.h ≤ 4096

-- a surface for which the memory has room
pub record Served (s : Sides) : Type 0 where
  pub some : 0 < s.w
  pub sides : Limited s
  pub room : s.w * s.h ≤ 76800

-- a state whose surface and lent bytes lie in the memory
pub record Sound (s : State) : Type 0 where
  pub surface : Served s.surface
  pub lent : s.lent.len ≤ 153600

-- a reply to a case at the front of c: the case lies in c, and the line has room for its end
pub record Fitting (c : List ℕ) (r : Reply) : Type 0 where
  pub some : 0 < r.size
  pub size : r.size ≤ length c
  pub room : length r.line < 160

-- two surfaces that fit the memory one after the other, and how many words they have
pub record Paired (dst src : Sides) (n src-n : ℕ) : Type 0 where
  pub some : 0 < dst.w
  pub narrow : dst.w ≤ 4096
  pub some_source : 0 < src.w
  pub words : n ≡ dst.w * dst.h
  pub words_source : src-n ≡ src.w * src.h
  pub room : n + src-n ≤ 76800

-- surfaces at words at and src-at of a memory of len bytes, which are one or have no word in common
pub record Apart (len at : ℕ) (dst : Sides) (src-at : ℕ) (src : Sides) : Type 0 where
  pub some : 0 < dst.w
  pub narrow : dst.w ≤ 4096
  pub some_source : 0 < src.w
  pub room : 2 * (at + dst.w * dst.h) ≤ len
  pub room_source : 2 * (src-at + src.w * src.h) ≤ len
  pub apart : ((at ≡ src-at) × (dst.w ≡ src.w)) ⊎ ((at + dst.w * dst.h ≤ src-at) ⊎ (src-at + src.w * src.h ≤ at))
