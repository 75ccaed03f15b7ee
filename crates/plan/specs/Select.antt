-- Select: an object is selected into a DC.
use Rattle.std.specs.Prelude.{Bool, true, false, cond, ℕ, Option, Some, None}
use Rattle.gdi.specs.declared.Spot.{Spot}
use Rattle.gdi.specs.declared.GdiState.{GdiState}
use Rattle.gdi.specs.declared.Dc.{Dc}
use Rattle.gdi.specs.declared.Kind.{Kind}
use Rattle.gdi.specs.declared.Kind.TheVariants.{Bitmap, Brush, Pen, Font, Other}
use Rattle.gdi.specs.Stock.{stock_bitmap}
use Rattle.gdi.specs.Updates.{with_dc, with_bitmap, with_brush, with_pen, with_font}
use Rattle.gdi.specs.Lookup.{dc_of, kind_of}
use Rattle.plan.specs.Answer.{answered}
use Rattle.plan.specs.Plan.{Plan, record_only}

-- the DC with the object h of this kind selected; brush and pen colours are copied into it
abbrev pub select_in : Dc → ℕ → Kind → Dc
select_in d h Bitmap = with_bitmap d h
select_in d h (Brush c) = with_brush d h c
select_in d h (Pen c) = with_pen d h c
select_in d h Font = with_font d h
select_in d h Other = d

-- the handle of the selected bitmap; before a first selection it is the stock bitmap's
abbrev pub bitmap_or : Option ℕ → ℕ
bitmap_or None = stock_bitmap
bitmap_or (Some h) = h

-- the handle of this kind that the DC has selected
abbrev pub selected_of : Dc → Kind → ℕ
selected_of d Bitmap = bitmap_or d.selected_bitmap
selected_of d (Brush c) = d.selected_brush
selected_of d (Pen c) = d.selected_pen
selected_of d Font = d.selected_font
selected_of d Other = 0

-- a kind that cannot be selected: a DC, or no object
abbrev pub is_other : Kind → Bool
is_other Bitmap = false
is_other (Brush c) = false
is_other (Pen c) = false
is_other Font = false
is_other Other = true

-- the plan for what the lookup of the DC found
abbrev pub select_at : GdiState → (dc h : ℕ) → Kind → Option (Spot × Dc) → Plan
select_at b dc h k (Some (p, d)) = record_only (with_dc b dc p (select_in d h k)) (answered (selected_of d k))
select_at b dc h k None = record_only b (answered 0)

-- 0 if the object is absent or a DC, or the DC is absent; else the previous handle of that kind
unfoldable pub select_into : GdiState → (dc h : ℕ) → Plan
select_into b dc h = cond (is_other (kind_of b h)) (record_only b (answered 0)) (select_at b dc h (kind_of b h) (dc_of b dc))
