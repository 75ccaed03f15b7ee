-- What a handle names.
use Rattle.std.specs.Prelude.{cond, List, ℕ, zero, suc, eqb, get_or, Option, Some, None}
use Rattle.gdi.specs.declared.Dc.{Dc}
use Rattle.gdi.specs.declared.Spot.{Spot}
use Rattle.gdi.specs.declared.GdiState.{GdiState}
use Rattle.gdi.specs.declared.Slot.{Slot}
use Rattle.gdi.specs.declared.GdiObject.{GdiObject}
use Rattle.gdi.specs.declared.GdiObject.TheVariants.{Dc as DcOf, Bitmap as BitmapOf, Brush as BrushOf, Pen as PenOf, Font as FontOf}
use Rattle.gdi.specs.declared.Kind.{Kind}
use Rattle.gdi.specs.declared.Kind.TheVariants.{Bitmap, Brush, Pen, Font, Other}
use Rattle.gdi.specs.declared.Spot.TheVariants.{Screen, Created}
use Rattle.gdi.specs.Record.{no_slot}
use Rattle.gdi.specs.Stock.{stock_kind}

-- slot i of a record; the handle in slot i of a table; the object in slot i
abbrev pub slot_at : GdiState → ℕ → Slot
slot_at b i = get_or b.objects i no_slot

abbrev pub handle_at : List Slot → ℕ → ℕ
handle_at l i = (get_or l i no_slot).handle

abbrev pub object_at : GdiState → ℕ → GdiObject
object_at b i = (slot_at b i).object

-- the first of the m slots from slot k on that has the handle h
unfoldable pub scan : List Slot → (h k m : ℕ) → Option ℕ
scan l h k zero = None
scan l h k (suc m) = cond (eqb (handle_at l k) h) (Some k) (scan l h (suc k) m)

-- the created object of this handle
abbrev pub find_of : GdiState → ℕ → Option ℕ
find_of b h = scan b.objects h 0 b.count

-- the object in slot i, if it is a DC
abbrev pub dc_at : ℕ → GdiObject → Option (Spot × Dc)
dc_at i (DcOf d) = Some (Created i, d)
dc_at i (BitmapOf x) = None
dc_at i (BrushOf x) = None
dc_at i (PenOf x) = None
dc_at i (FontOf x) = None

abbrev pub dc_found : GdiState → Option ℕ → Option (Spot × Dc)
dc_found b (Some i) = dc_at i (object_at b i)
dc_found b None = None

-- the DC of this handle: the screen DC, a created one, or none
unfoldable pub dc_of : GdiState → ℕ → Option (Spot × Dc)
dc_of b h = cond (eqb h 0xDEAD_0DC0) (Some (Screen, b.screen)) (dc_found b (find_of b h))

-- an object's kind, with the colour that a selection copies
abbrev pub kind_at : GdiObject → Kind
kind_at (DcOf d) = Other
kind_at (BitmapOf x) = Bitmap
kind_at (BrushOf x) = Brush x.color
kind_at (PenOf x) = Pen x.color
kind_at (FontOf x) = Font

abbrev pub kind_found : GdiState → ℕ → Option ℕ → Kind
kind_found b h (Some i) = kind_at (object_at b i)
kind_found b h None = stock_kind h

-- what a handle names: a created object, a stock object, or neither
unfoldable pub kind_of : GdiState → ℕ → Kind
kind_of b h = kind_found b h (find_of b h)
