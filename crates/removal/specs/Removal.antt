-- The record without one of its objects.
use Rattle.std.specs.Prelude.{ℕ, ◌-◌}
use Rattle.gdi.specs.declared.GdiState.{GdiState}
use Rattle.gdi.specs.Record.{vacant_slot}
use Rattle.gdi.specs.Updates.{with_objects}
use Rattle.memory.specs.Gap.{closed_up}

-- the record without object i: later objects move down by one slot, and the last slot becomes vacant
unfoldable pub without_at : GdiState → ℕ → GdiState
without_at b i = with_objects b b.next_handle (b.count - 1) (closed_up vacant_slot b.objects i 1 b.count)
