-- Computed examples of new handles; crates/examples has the one in which stock handles are skipped. Assumes nothing.
use Rattle.std.proofs.Common.{◌≡◌, ℕ, refl}
use Rattle.gdi.specs.declared.GdiState.{GdiState}
use Rattle.gdi.specs.declared.GdiObject.{GdiObject}
use Rattle.gdi.specs.Record.{fresh}
use Rattle.gdi.specs.Updates.{with_objects}
use Rattle.gdi.specs.Stock.{is_stock}
use Rattle.handles.specs.Handles.{free, first_free, new_handle, added}

-- a record with another next handle
abbrev with_next : GdiState → ℕ → GdiState
with_next b h = with_objects b h b.count b.objects

-- a device without objects, with this next handle
abbrev device_at : ℕ → GdiState
device_at h = with_next (fresh 2 12 1 1) h

-- the first handle
pub first : new_handle (fresh 2 12 1 1) ≡ 0xDEAD_1000
unfolding first_free free is_stock
first = refl

-- the next handle is then one past it
pub next : (o : GdiObject) → (added (fresh 2 12 1 1) o).next_handle ≡ 0xDEAD_1001
unfolding added first_free free is_stock
next o = refl

-- after the last value comes 1
pub after_last : (o : GdiObject) → new_handle (added (device_at 0xFFFF_FFFF) o) ≡ 1
unfolding added first_free free is_stock
after_last o = refl

-- a live handle is not given again
pub past_live : (o : GdiObject) → new_handle (with_next (added (device_at 0xDEAD_1000) o) 0xDEAD_1000) ≡ 0xDEAD_1001
unfolding added first_free free is_stock
past_live o = refl
