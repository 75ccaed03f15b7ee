-- What is read from the numbers of a record: its size, and slot by slot the handle and the object. Assumes nothing.
use Rattle.std.specs.Prelude.{Some}
use mathlib.Core.Bool.{true}
use mathlib.Core.List.{List}
use mathlib.Core.Path.{◌≡◌, refl, sym, ◌∙◌, ap, subst⁻¹}
use Prim.Native.Nat.{ℕ, ◌+◌, ◌≤◌, ◌<◌}
use native.Mathlib.Decide.{ℕ_discrete}
use native.Mathlib.Omega.{arith}
use lib.ListN.{length, drop, length-take, length-drop}
use lib.Seq.{get_or-take, get_or-drop, ext_get_or}
use borrow.Author.Tests.{ne_eqb}
use Rattle.words.specs.Parts.{part}
use Rattle.bigendian.specs.BigEndian.{signed32}
use Rattle.gdi.specs.declared.Brush.{Brush as BrushRecord}
use Rattle.gdi.specs.declared.Pen.{Pen as PenRecord}
use Rattle.gdi.specs.declared.Font.{Font as FontRecord}
use Rattle.gdi.specs.declared.GdiObject.{GdiObject}
use Rattle.gdi.specs.declared.GdiObject.TheVariants.{Dc as DcOf, Bitmap, Brush, Pen, Font}
use Rattle.gdi.specs.Lookup.{handle_at, object_at, find_of}
use Rattle.gdi.proofs.Scan.{found_count}
use Rattle.numbers.specs.Layout.{dc_size, object_size, slot_size, record_size, panel_len_place, store_len_place, width_place, height_place, count_place, screen_place, slot_place, handle_place, kind_place, object_place, bitmap_height_in, bitmap_dirty_in, color_in, pen_width_in, font_height_in}
use Rattle.numbers.specs.Block.{bitmap_fields, at, dc_fields, object_of}
use Rattle.numbers.specs.View.{view, is_record}
use Rattle.numbers.proofs.Record.{parts}
use Rattle.numbers.proofs.View.{slot_seen}

-- in a slot: a bitmap's height and dirty mark
abbrev pub bitmap_height_place : ℕ
bitmap_height_place = object_place + bitmap_height_in

abbrev pub bitmap_dirty_place : ℕ
bitmap_dirty_place = object_place + bitmap_dirty_in

-- numbers of a part
pub part_at : (l : List ℕ) (p n k : ℕ) → k < n → at (part l p n) k ≡ at l (p + k)
part_at l p n k h = get_or-take n (drop p l) k 0 h ∙ get_or-drop p l k 0

pub part_second : (l : List ℕ) (p : ℕ) → at (part l (p + object_place) object_size) bitmap_height_in ≡ at l (p + bitmap_height_place)
part_second l p = part_at l (p + object_place) object_size bitmap_height_in (omega arith) ∙ ap (at l) (omega arith)

pub part_first : (l : List ℕ) (p : ℕ) → at (part l p object_size) 0 ≡ at l p
part_first l p = part_at l p object_size 0 (omega arith) ∙ ap (at l) (omega arith)

-- the object's numbers in a slot's
pub object_part : (l : List ℕ) (p : ℕ) → part (part l p slot_size) object_place object_size ≡ part l (p + object_place) object_size
object_part l p =
    ext_get_or 0 (part (part l p slot_size) object_place object_size) (part l (p + object_place) object_size) (simp (length-take, length-drop) (omega arith))
    (λ i lt. let b : i < object_size = omega (arith, length-take object_size (drop object_place (part l p slot_size))) in
    part_at (part l p slot_size) object_place object_size i b ∙ part_at l p slot_size (object_place + i) (omega arith)
    ∙ ap (at l) (omega arith)
    ∙ sym (part_at l (p + object_place) object_size i b))

-- the fields that are one number
module _ (l : List ℕ) where
  pub panel_len_seen : (view l).panel_len ≡ at l panel_len_place
  unfolding view
  panel_len_seen = refl

  pub store_len_seen : (view l).store_len ≡ at l store_len_place
  unfolding view
  store_len_seen = refl

  pub width_seen : (view l).width ≡ at l width_place
  unfolding view
  width_seen = refl

  pub height_seen : (view l).height ≡ at l height_place
  unfolding view
  height_seen = refl

  pub count_seen : (view l).count ≡ at l count_place
  unfolding view
  count_seen = refl

  -- a handle is found in a slot of an object
  pub found_in : (h : ℕ) {i : ℕ} → find_of (view l) h ≡ Some i → i < at l count_place
  found_in h e = rw count_seen at (found_count (view l) h e)

  pub screen_seen : (view l).screen ≡ dc_fields (part l screen_place dc_size)
  unfolding view
  screen_seen = refl

-- slot i holds an object; there are at most 256
module _ (l : List ℕ) (few : at l count_place ≤ 256) (i : ℕ) (lt : i < at l count_place) where
  pub handle_read : handle_at (view l).objects i ≡ at l (slot_place i)
  handle_read = ap (λ s. s.handle) (slot_seen l i lt (omega arith)) ∙ part_at l (slot_place i) slot_size handle_place (omega arith) ∙ ap (at l) (omega arith)

  pub object_read : object_at (view l) i ≡ object_of (at l (slot_place i + kind_place)) (part l (slot_place i + object_place) object_size)
  object_read =
      ap (λ s. s.object) (slot_seen l i lt (omega arith))
      ∙ ap (λ (k : ℕ). object_of k (part (part l (slot_place i) slot_size) object_place object_size)) (part_at l (slot_place i) slot_size kind_place (omega arith))
      ∙ ap (object_of (at l (slot_place i + kind_place))) (object_part l (slot_place i))

-- numbers that encode a record: their count is right, with at most 256 objects
module _ (l : List ℕ) (r : is_record l ≡ true) where
  pub record_length : length l ≡ record_size
  record_length = (parts l r).long

  pub record_count : at l count_place ≤ 256
  record_count = (parts l r).few

  pub handle_seen : (i : ℕ) → i < at l count_place → handle_at (view l).objects i ≡ at l (slot_place i)
  handle_seen = handle_read l record_count

  pub object_seen : (i : ℕ) → i < at l count_place → object_at (view l) i ≡ object_of (at l (slot_place i + kind_place)) (part l (slot_place i + object_place) object_size)
  object_seen = object_read l record_count

-- an object by its kind's number
module _ (k : ℕ) (d : List ℕ) where
  pub object_dc : k ≡ 0 → object_of k d ≡ DcOf (dc_fields d)
  unfolding object_of
  object_dc e = rw e

  pub object_bitmap : k ≡ 1 → object_of k d ≡ Bitmap (bitmap_fields d)
  unfolding object_of
  object_bitmap e = rw e

  pub object_brush : k ≡ 2 → object_of k d ≡ Brush (record { color = record { 0 = at d color_in } })
  unfolding object_of
  object_brush e = rw e

  pub object_pen : k ≡ 3 → object_of k d ≡ Pen (record { color = record { 0 = at d color_in }; width = at d pen_width_in })
  unfolding object_of
  object_pen e = rw e

  pub object_font : (k ≡ 0 → ⊥) → (k ≡ 1 → ⊥) → (k ≡ 2 → ⊥) → (k ≡ 3 → ⊥) → object_of k d ≡ Font (record { height = signed32 (at d font_height_in) })
  unfolding object_of
  object_font a b x y = rw (ne_eqb k 0 a, ne_eqb k 1 b, ne_eqb k 2 x, ne_eqb k 3 y)

  -- what holds of the object of each kind
  pub by_kind : (P : GdiObject → Type 0) → (k ≡ 0 → P (DcOf (dc_fields d))) → (k ≡ 1 → P (Bitmap (bitmap_fields d)))
      → ((x : BrushRecord) → P (Brush x)) → ((x : PenRecord) → P (Pen x)) → ((x : FontRecord) → P (Font x)) → P (object_of k d)
  by_kind P dc bitmap brush pen font = by (ℕ_discrete k 0) (ℕ_discrete k 1) (ℕ_discrete k 2) (ℕ_discrete k 3)
    where
      by : Dec (k ≡ 0) → Dec (k ≡ 1) → Dec (k ≡ 2) → Dec (k ≡ 3) → P (object_of k d)
      by (yes e) m b p = subst⁻¹ P (object_dc e) (dc e)
      by (no n) (yes e) b p = subst⁻¹ P (object_bitmap e) (bitmap e)
      by (no n) (no m) (yes e) p = subst⁻¹ P (object_brush e) (brush _)
      by (no n) (no m) (no b) (yes e) = subst⁻¹ P (object_pen e) (pen _)
      by (no n) (no m) (no b) (no p) = subst⁻¹ P (object_font n m b p) (font _)
