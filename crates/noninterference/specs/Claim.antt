-- Demand 3, as a statement about every list of calls.
use Rattle.std.specs.Prelude.{true, List, [], ◌∷◌, ◌≡◌, ℕ, length}
use Rattle.gdi.specs.declared.GdiState.{GdiState}
use Rattle.place.specs.declared.SurfaceId.{SurfaceId}
use Rattle.place.specs.Place.{where_is}
use Rattle.paint.specs.Memories.{colour_at}
use Rattle.paint.specs.Taint.{Taint, tainted}
use Rattle.plan.specs.Calls.{Invocation, plan}
use Rattle.execution.specs.Execution.{Device, refuses_all, is_pixel, run}

-- Two devices agree except at tainted pixels: their records are equal, their memories have equal lengths, and every pixel that is
-- not tainted has the same colour on both.
pub record Agree (m : Taint) (s t : Device) : Type 0 where
  pub states : s.state ≡ t.state
  pub panels : length s.memories.panel ≡ length t.memories.panel
  pub stores : length s.memories.store ≡ length t.memories.store
  pub pixels : (u : SurfaceId) (x y : ℕ) → is_pixel s u x y ≡ true → (m u x y → ⊥)
      → colour_at s.memories (where_is s.state u) x y ≡ colour_at t.memories (where_is t.state u) x y

-- the taint after a list of calls: it follows from the calls, the record and the lengths, never from a pixel's colour
unfoldable pub taint_after : List Invocation → GdiState → (panel_len store_len : ℕ) → Taint → Taint
taint_after [] b n k m = m
taint_after (c ∷ cs) b n k m =
    let p = plan c b n k in
    taint_after cs p.outcome.state n k (tainted p.paint m)

-- the same, for a device
abbrev pub taint_on : List Invocation → Device → Taint → Taint
taint_on cs s m = taint_after cs s.state (length s.memories.panel) (length s.memories.store) m

-- The claim, for every record and all memories. Two devices that agree except at tainted pixels give equal answers to every list of
-- calls, and agree afterwards except at the pixels that are tainted then: records, counters and dirty marks are equal. A ready
-- device stays ready, so that its pixels remain. A device that refuses every call keeps its record and every byte.
pub record Noninterference : Type 1 where
  pub answers : (cs : List Invocation) (m : Taint) (s t : Device) → Agree m s t → (run cs s).0 ≡ (run cs t).0
  pub pixels : (cs : List Invocation) (m : Taint) (s t : Device) → Agree m s t → Agree (taint_on cs s m) (run cs s).1 (run cs t).1
  pub stays_ready : (cs : List Invocation) (s : Device) → refuses_all s ≡ 0 → refuses_all (run cs s).1 ≡ 0
  pub refuses : (cs : List Invocation) (s : Device) → (refuses_all s ≡ 0 → ⊥) → (run cs s).1 ≡ s
