-- Delete and remove: a created object is removed from the table, and its pixels from the store; the gap is closed.
use Rattle.std.specs.Prelude.{true, false, cond, ℕ, Option, Some, None}
use Rattle.gdi.specs.declared.GdiState.{GdiState}
use Rattle.gdi.specs.Stock.{is_stock}
use Rattle.gdi.specs.Lookup.{object_at, find_of}
use Rattle.removal.specs.Removal.{without_at}
use Rattle.plan.specs.Answer.{Parts, flagged, removed, done}
use Rattle.paint.specs.Paint.{closing}
use Rattle.plan.specs.Plan.{Plan, record_only}

-- the plan for what the lookup of the handle h found: object i is removed, or there is none
abbrev pub deletion_at : (gone : ℕ → Parts) (none : Parts) → GdiState → ℕ → Option ℕ → Plan
deletion_at gone none b h (Some i) = record { outcome = record { state = without_at b i; answer = gone i }; paint = closing b h i }
deletion_at gone none b h None = record_only b none

-- a stock object is kept, a created one is removed; the first arguments are the answers for a stock object, for the created object
-- i, and for no object
unfoldable pub deletion_of : (stock : Parts) (gone : ℕ → Parts) (none : Parts) → GdiState → ℕ → Plan
deletion_of stock gone none b h = cond (is_stock h) (record_only b stock) (deletion_at gone none b h (find_of b h))

-- delete answers true for a stock handle and false for an absent one
abbrev pub delete : GdiState → ℕ → Plan
delete b h = deletion_of (flagged true) (λ i. flagged true) (flagged false) b h

-- remove answers nothing for a stock or absent handle, else the object's record without pixels
abbrev pub remove : GdiState → ℕ → Plan
remove b h = deletion_of done (λ i. removed (object_at b i)) done b h
