-- DCs, objects and slots written as numbers are read back unchanged. Assumes nothing.
use Rattle.std.specs.Prelude.{Option, None, Some}
use mathlib.Core.Bool.{true, ◌&&◌, ◌||◌}
use mathlib.Core.List.{List, [], ◌∷◌}
use mathlib.Core.Path.{◌≡◌, refl, ◌∙◌, ap}
use Prim.Native.Nat.{ℕ, ◌<◌}
use native.Mathlib.Omega.{arith}
use lib.Dec.{eqb}
use lib.IntN.{ℤ}
use lib.ListN.{length, take, drop, set, length-set}
use lib.Seq.{drop-set-lt, get_or-set_same, get_or-set_other}
use mir.Val.{SFits}
use mir.Syntax.{w32}
use Rattle.arithmetic.proofs.Machine.{held32, stored32}
use Rattle.words.specs.Parts.{part}
use Rattle.words.proofs.Parts.{length_with, part_same}
use Rattle.bigendian.specs.BigEndian.{signed32}
use Rattle.gdi.specs.declared.DcSurface.{DcSurface}
use Rattle.gdi.specs.declared.DcSurface.TheVariants.{Screen, Memory}
use Rattle.gdi.specs.declared.Dc.{Dc}
use Rattle.gdi.specs.declared.Bitmap.{Bitmap}
use Rattle.gdi.specs.declared.Brush.{Brush as BrushRecord}
use Rattle.gdi.specs.declared.Pen.{Pen as PenRecord}
use Rattle.gdi.specs.declared.Font.{Font as FontRecord}
use Rattle.gdi.specs.declared.GdiObject.{GdiObject}
use Rattle.gdi.specs.declared.GdiObject.TheVariants.{Bitmap as BitmapOf, Brush, Pen, Font}
use Rattle.numbers.specs.Layout.{object_size, slot_size, handle_place, kind_place, object_place}
use Rattle.numbers.specs.Block.{present_number, bitmap_number, at, flag_of, is_flag, flag_number, surface_of, bitmap_of, dc_fields, is_dc, object_of, is_object, ObjectCoded}
use Rattle.numbers.proofs.Block.{surface_number, DcCoded, SlotCoded, flag_back, flag_flag, dc_numbers, lent_back, lent_back_lem}

-- what was written as numbers is read back
surface_back : (s : DcSurface) → surface_of (surface_number s) ≡ s
surface_back Screen = refl
surface_back Memory = refl

bitmap_back : (b : Option ℕ) → bitmap_of (present_number b) (bitmap_number b) ≡ b
bitmap_back None = refl
bitmap_back (Some h) = refl

surface_flag : (s : DcSurface) → is_flag (surface_number s) ≡ true
surface_flag Screen = refl
surface_flag Memory = refl

bitmap_flags : (b : Option ℕ) → (flag_of (present_number b) || (eqb (present_number b) 0 && eqb (bitmap_number b) 0)) ≡ true
bitmap_flags None = refl
bitmap_flags (Some h) = refl

-- the numbers of a DC; those of its position are the two's complements of its coordinates
pub dc_coded : (d : Dc) {x y : ℕ} → SFits w32 d.pos_x → SFits w32 d.pos_y → signed32 x ≡ held32 d.pos_x → signed32 y ≡ held32 d.pos_y → DcCoded d (dc_numbers d x y)
unfolding dc_fields is_dc
dc_coded d fx fy ex ey =
    record {
      is_dc_lem = rw (surface_flag d.surface, flag_flag d.bk_transparent) (bitmap_flags d.selected_bitmap);
      same = rw (surface_back d.surface, bitmap_back d.selected_bitmap, flag_back d.bk_transparent, ex ∙ stored32 d.pos_x fx, ey ∙ stored32 d.pos_y fy);
    }

-- the numbers of the other objects
pub bitmap_coded : (m : Bitmap) → ObjectCoded (BitmapOf m) 1 (m.width ∷ m.height ∷ flag_number m.host_dirty ∷ 0 ∷ 0 ∷ 0 ∷ 0 ∷ 0 ∷ 0 ∷ 0 ∷ 0 ∷ 0 ∷ 0 ∷ 0 ∷ [])
unfolding object_of is_object
bitmap_coded m = record { is_object_lem = rw (flag_flag m.host_dirty); same = rw (flag_back m.host_dirty) }

pub brush_coded : (x : BrushRecord) → ObjectCoded (Brush x) 2 (x.color.0 ∷ 0 ∷ 0 ∷ 0 ∷ 0 ∷ 0 ∷ 0 ∷ 0 ∷ 0 ∷ 0 ∷ 0 ∷ 0 ∷ 0 ∷ 0 ∷ [])
unfolding object_of is_object
brush_coded x = record { is_object_lem = refl; same = refl }

pub pen_coded : (x : PenRecord) → ObjectCoded (Pen x) 3 (x.color.0 ∷ x.width ∷ 0 ∷ 0 ∷ 0 ∷ 0 ∷ 0 ∷ 0 ∷ 0 ∷ 0 ∷ 0 ∷ 0 ∷ 0 ∷ 0 ∷ [])
unfolding object_of is_object
pen_coded x = record { is_object_lem = refl; same = refl }

pub font_coded : (x : FontRecord) (n : ℕ) → SFits w32 x.height → signed32 n ≡ held32 x.height → ObjectCoded (Font x) 4 (n ∷ 0 ∷ 0 ∷ 0 ∷ 0 ∷ 0 ∷ 0 ∷ 0 ∷ 0 ∷ 0 ∷ 0 ∷ 0 ∷ 0 ∷ 0 ∷ [])
unfolding object_of is_object
font_coded x n f e = record { is_object_lem = refl; same = ap (λ (z : ℤ). Font (record { height = z })) (e ∙ stored32 x.height f) }

-- a slot: the object's numbers, then handle and kind before them
pub slot_coded : {o : GdiObject} {kind : ℕ} (h : ℕ) (l b : List ℕ) → length l ≡ slot_size → length b ≡ object_size → ObjectCoded o kind b → SlotCoded (record { handle = h; object = o }) (set (set (lent_back l object_place object_size b) handle_place h) kind_place kind)
slot_coded {o} {kind} h l b long len coded =
    record {
      is_slot_lem = rw (number, fields) coded.is_object_lem;
      same = rw (number, fields, handle) (ap (λ (x : GdiObject). record { handle = h; object = x }) coded.same);
    }
  where
    whole : List ℕ
    whole = lent_back l object_place object_size b

    size : length whole ≡ length l
    size = ap length (lent_back_lem l object_place object_size b) ∙ length_with l b object_place object_size len (omega arith)

    stored : List ℕ
    stored = set (set whole handle_place h) kind_place kind

    number : at stored kind_place ≡ kind
    number = get_or-set_same (set whole handle_place h) kind_place kind 0 (omega (arith, size, length-set whole handle_place h))

    handle : at stored handle_place ≡ h
    handle = get_or-set_other (set whole handle_place h) kind_place handle_place kind 0 (λ e. omega arith) ∙ get_or-set_same whole handle_place h 0 (omega (arith, size))

    fields : part stored object_place object_size ≡ b
    fields = ap (take object_size) (drop-set-lt object_place (set whole handle_place h) kind_place kind (omega arith) ∙ drop-set-lt object_place whole handle_place h (omega arith) ∙ ap (drop object_place) (lent_back_lem l object_place object_size b)) ∙ part_same l b object_place object_size len (omega arith)

pub still_long : (h : ℕ) (l b : List ℕ) → length l ≡ slot_size → length b ≡ object_size → kind_place < length (set (lent_back l object_place object_size b) handle_place h)
still_long h l b long len = rw (length-set (lent_back l object_place object_size b) handle_place h, lent_back_lem l object_place object_size b, length_with l b object_place object_size len (omega arith)) (omega arith)
