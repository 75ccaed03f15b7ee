-- Surfaces that fit the memory, alone and two of them. Assumes nothing.
use mathlib.Core.Path.{◌≡◌, refl}
use mathlib.Core.Logic.{inl, inr}
use Prim.Native.Nat.{ℕ, zero, suc, ◌+◌, ◌*◌, ◌≤◌, ◌<◌}
use native.Mathlib.Nat.{zero-mul}
use native.Mathlib.Omega.{arith}
use Rattle.primitives.specs.declared.memory.Sides.{Sides}
use Rattle.primitives.specs.Cases.{Limited, Served, Paired, Apart}

-- a surface that has a word has a column
pub column : (w h : ℕ) → 0 < w * h → 0 < w
column zero h p = rw zero-mul at p
column (suc w) h p = omega arith

-- sides that were read and tested, of one surface and of two
pub served : {s : Sides} {n : ℕ} → Limited s → n ≡ s.w * s.h → 0 < n → n ≤ 76800 → Served s
served {s} r e p q = record { some = column s.w s.h (omega arith); sides = r; room = omega arith }

pub paired : {dst src : Sides} {n m : ℕ} → Limited dst → n ≡ dst.w * dst.h → m ≡ src.w * src.h → 0 < n → 0 < m → n + m ≤ 76800 → Paired dst src n m
paired {dst} {src} r e f p q s =
    record {
      some = column dst.w dst.h (omega arith);
      narrow = r.width;
      some_source = column src.w src.h (omega arith);
      words = e;
      words_source = f;
      room = s;
    }

-- the surface with itself
pub itself : {len : ℕ} {s : Sides} → len ≡ 153600 → Served s → Apart len 0 s 0 s
itself e p =
    record {
      some = p.some;
      narrow = p.sides.width;
      some_source = p.some;
      room = omega (arith, p.room);
      room_source = omega (arith, p.room);
      apart = inl (refl, refl);
    }

-- two surfaces, the destination first or the source first
module _ {len n m : ℕ} {dst src : Sides} (e : len ≡ 153600) (p : Paired dst src n m) where
  pub target_first : Apart len 0 dst n src
  target_first =
      record {
        some = p.some;
        narrow = p.narrow;
        some_source = p.some_source;
        room = omega arith;
        room_source = omega arith;
        apart = inr (inl (omega arith));
      }

  pub source_first : Apart len m dst 0 src
  source_first =
      record {
        some = p.some;
        narrow = p.narrow;
        some_source = p.some_source;
        room = omega arith;
        room_source = omega arith;
        apart = inr (inr (omega arith));
      }
