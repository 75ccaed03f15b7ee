-- The handle of a new object, and the record with the object.
use Rattle.std.specs.Prelude.{ℕ, zero, suc, ◌+◌, ◌%◌, Bool, cond, not, ◌&&◌, List, ◌∷◌, ◌++◌, take, drop, ◌==◌}
use Rattle.gdi.specs.declared.GdiState.{GdiState}
use Rattle.gdi.specs.declared.Slot.{Slot}
use Rattle.gdi.specs.declared.GdiObject.{GdiObject}
use Rattle.gdi.specs.Stock.{is_stock}
use Rattle.gdi.specs.Updates.{with_objects}
use Rattle.sound.specs.Sound.{absent}

-- h is not 0, stock or live, the first n slots being live
unfoldable pub free : List Slot → (n h : ℕ) → Bool
free l n h = not (h == 0) && (not (is_stock h) && absent l n h)

-- the handle k after h; handles wrap around to 0
abbrev pub ahead : (h k : ℕ) → ℕ
ahead h k = (h + k) % 4294967296

-- the first free handle of the m handles from k after h on, or else the handle after these
unfoldable pub first_free : List Slot → (n h k m : ℕ) → ℕ
first_free l n h k zero = ahead h k
first_free l n h k (suc m) = cond (free l n (ahead h k)) (ahead h k) (first_free l n h (suc k) m)

-- one more than the handles that can be taken: 0, twelve stock handles and 256 live ones
abbrev pub tries : ℕ
tries = 270

-- A new handle is the first from the next handle on that is not 0, stock or live. There is one if at most 256 objects are live
-- (`new_free`).
abbrev pub new_handle : GdiState → ℕ
new_handle b = first_free b.objects b.count b.next_handle 0 tries

-- the table with s at slot n; the other slots are kept
abbrev pub inserted : List Slot → ℕ → Slot → List Slot
inserted l n s = take n l ++ (s ∷ drop (suc n) l)

-- the record with the object o under the handle h; the next handle is one past h
abbrev pub added_as : GdiState → ℕ → GdiObject → GdiState
added_as b h o = with_objects b (ahead h 1) (b.count + 1) (inserted b.objects b.count (record { handle = h; object = o }))

-- the record with a new object
unfoldable pub added : GdiState → GdiObject → GdiState
added b o = added_as b (new_handle b) o
