-- Numbers that encode a DC or a slot, and laws of blocks of numbers. Assumes nothing.
use mathlib.Core.Bool.{Bool, true, false}
use mathlib.Core.List.{List, [], ◌∷◌, ◌++◌}
use mathlib.Core.Path.{◌≡◌, refl, ap}
use Prim.Native.Nat.{ℕ}
use lib.ListN.{take, drop}
use lib.Seq.{drop-drop}
use borrow.Author.Tests.{ne_eqb}
use Rattle.words.specs.Parts.{with_part}
use Rattle.gdi.specs.declared.DcSurface.{DcSurface}
use Rattle.gdi.specs.declared.DcSurface.TheVariants.{Screen, Memory}
use Rattle.gdi.specs.declared.Dc.{Dc}
use Rattle.gdi.specs.declared.GdiObject.TheVariants.{Dc as DcOf}
use Rattle.gdi.specs.declared.Slot.{Slot}
use Rattle.numbers.specs.Block.{flag_of, is_flag, flag_number, present_number, bitmap_number, dc_fields, is_dc, object_of, is_object, slot_of, is_slot, ObjectCoded}

-- the number of a surface: 0 the screen, 1 memory
abbrev pub surface_number : DcSurface → ℕ
surface_number Screen = 0
surface_number Memory = 1

-- The numbers encode this DC; this slot.
pub record DcCoded (d : Dc) (l : List ℕ) : Type 0 where
  pub is_dc_lem : is_dc l ≡ true
  pub same : dc_fields l ≡ d

pub record SlotCoded (s : Slot) (l : List ℕ) : Type 0 where
  pub is_slot_lem : is_slot l ≡ true
  pub same : slot_of l ≡ s

-- numbers of no kind are no object
pub no_kind : (kind : ℕ) (l : List ℕ) → (kind ≡ 0 → ⊥) → (kind ≡ 1 → ⊥) → (kind ≡ 2 → ⊥) → (kind ≡ 3 → ⊥) → (kind ≡ 4 → ⊥) → false ≡ is_object kind l
unfolding is_object
no_kind kind l a b c d e = rw (ne_eqb kind 0 a, ne_eqb kind 1 b, ne_eqb kind 2 c, ne_eqb kind 3 d, ne_eqb kind 4 e)

-- a flag is written as 0 or 1, and read back
pub flag_back : (f : Bool) → flag_of (flag_number f) ≡ f
flag_back true = refl
flag_back false = refl

pub flag_flag : (f : Bool) → is_flag (flag_number f) ≡ true
flag_flag true = refl
flag_flag false = refl

-- the numbers of a DC; x and y are those of its position
abbrev pub dc_numbers : Dc → (x y : ℕ) → List ℕ
dc_numbers d x y =
    surface_number d.surface ∷ present_number d.selected_bitmap ∷ bitmap_number d.selected_bitmap ∷ d.selected_brush ∷ d.selected_pen
    ∷ d.selected_font ∷ d.brush_color.0 ∷ d.pen_color.0 ∷ d.text_color.0 ∷ d.text_align ∷ d.bk_color.0 ∷ flag_number d.bk_transparent ∷ x ∷ y ∷ []

-- a DC is an object of kind 0
pub dc_object : {d : Dc} {l : List ℕ} → DcCoded d l → ObjectCoded (DcOf d) 0 l
unfolding object_of is_object
dc_object {d} h = record { is_object_lem = h.is_dc_lem; same = ap DcOf h.same }

-- a memory after a part of it was lent, as the code has it
abbrev pub lent_back : List ℕ → (p n : ℕ) → List ℕ → List ℕ
lent_back l p n b = take p l ++ (b ++ drop n (drop p l))

pub lent_back_lem : (l : List ℕ) (p n : ℕ) (b : List ℕ) → lent_back l p n b ≡ with_part l p n b
lent_back_lem l p n b = rw (drop-drop n p l)
