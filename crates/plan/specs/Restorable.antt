-- Records that a load gives back as they were saved.
use Rattle.std.specs.Prelude.{◌≡◌, ℕ, ◌≤◌, ◌<◌, length}
use Rattle.gdi.specs.declared.DcSurface.TheVariants.{Screen}
use Rattle.gdi.specs.declared.GdiState.{GdiState}
use Rattle.gdi.specs.Record.{vacant_slot, fresh}
use Rattle.gdi.specs.Lookup.{slot_at}
use Rattle.plan.specs.Calls.{Invocation, plan}

-- There are 256 slots, every one past the count is vacant, and the screen DC is the screen's.
pub record Restorable (b : GdiState) : Type 0 where
  pub table : length b.objects ≡ 256
  pub vacant : (i : ℕ) → b.count ≤ i → i < 256 → slot_at b i ≡ vacant_slot
  pub screen : b.screen.surface ≡ Screen

-- A fresh record is so, and whatever is asked of a device keeps it so.
pub record StaysRestorable : Type 0 where
  pub first : (panel_len store_len width height : ℕ) → Restorable (fresh panel_len store_len width height)
  pub stays : (c : Invocation) (b : GdiState) (panel_len store_len : ℕ) → Restorable b → Restorable (plan c b panel_len store_len).outcome.state
