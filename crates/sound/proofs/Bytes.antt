-- Bounds of the bytes of objects that fit. Assumes nothing.
use mathlib.Core.Bool.{true, not, ◌&&◌}
use mathlib.Core.Path.{◌≡◌}
use Prim.Native.Nat.{ℕ, ◌+◌, ◌*◌, ◌<◌, ◌≤◌}
use native.Mathlib.Nat.{mul-le-mul}
use native.Mathlib.Omega.{arith}
use lib.Dec.{eqb}
use Rattle.arithmetic.proofs.Test.{both, each}
use Rattle.arithmetic.proofs.Sum.{sum_none, sum_more}
use Rattle.surface.specs.Refusal.{side}
use Rattle.surface.proofs.Accepted.{side_range}
use Rattle.gdi.specs.declared.Slot.{Slot}
use Rattle.gdi.specs.declared.Bitmap.{Bitmap as BitmapRecord}
use Rattle.gdi.specs.declared.GdiObject.{GdiObject}
use Rattle.gdi.specs.declared.GdiObject.TheVariants.{Dc as DcOf, Bitmap, Brush, Pen, Font}
use Rattle.gdi.specs.declared.GdiState.{GdiState}
use Rattle.gdi.specs.Record.{bytes_of}
use Rattle.gdi.specs.Stock.{is_stock}
use Rattle.gdi.specs.Lookup.{slot_at, object_at}
use Rattle.sound.specs.Sound.{object_fits, slot_fits, slots_fit, start_of}

pub area : (w h : ℕ) → side w ≡ true → side h ≡ true → w * h ≤ 16777216
area w h a b = mul-le-mul (side_range w a).1 (side_range h b).1

pub sides : (m : BitmapRecord) → object_fits (Bitmap m) ≡ true → m.width * m.height ≤ 16777216
sides m e = let p = both (side m.width) (side m.height) e in area m.width m.height p.0 p.1

pub bytes_le : (o : GdiObject) → object_fits o ≡ true → bytes_of o ≤ 33554432
bytes_le (DcOf d) e = omega arith
bytes_le (Bitmap m) e = omega (arith, sides m e)
bytes_le (Brush x) e = omega arith
bytes_le (Pen x) e = omega arith
bytes_le (Font x) e = omega arith

pub object_of_lem : (s : Slot) → slot_fits s ≡ true → object_fits s.object ≡ true
object_of_lem s e =
    (both (not (is_stock s.handle)) (object_fits s.object)
    (both (not (eqb s.handle 0)) (not (is_stock s.handle) && object_fits s.object) e).1).1

-- an object of a table whose slots fit
module _ (b : GdiState) (fit : slots_fit b ≡ true) (i : ℕ) (lt : i < b.count) where
  pub fits_below : object_fits (object_at b i) ≡ true
  fits_below = object_of_lem (slot_at b i) (each b.count (λ k. slot_fits (slot_at b k)) fit i lt)

-- the start of the first object, and of the next
pub start_none : (b : GdiState) → 2 ≡ start_of b 0
start_none b = rw (sum_none (λ i. bytes_of (object_at b i)))

pub start_more : (b : GdiState) (i : ℕ) {at x : ℕ} → at ≡ start_of b i → x ≡ bytes_of (object_at b i) → at + x ≡ start_of b (i + 1)
start_more b i e f = omega (arith, sum_more i (λ k. bytes_of (object_at b k)) f)
