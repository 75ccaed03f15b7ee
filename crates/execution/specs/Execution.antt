-- A device, what is asked of it, and a list of these.
use Rattle.std.specs.Prelude.{Bool, ◌&&◌, List, [], ◌∷◌, ℕ, eqb, length}
use Rattle.gdi.specs.declared.GdiState.{GdiState}
use Rattle.ready.specs.Ready.{common_refusal}
use Rattle.place.specs.declared.SurfaceId.{SurfaceId}
use Rattle.place.specs.Place.{where_is}
use Rattle.paint.specs.Memories.{Memories, has_pixel}
use Rattle.paint.specs.Paint.{after}
use Rattle.plan.specs.Plan.{Outcome, Plan}
use Rattle.plan.specs.Calls.{Invocation, plan}

-- A device (document 01: bench): its record, and the two memories lent with it.
pub record Device : Type 0 where
  pub state : GdiState
  pub memories : Memories

abbrev pub device : GdiState → Memories → Device
device b ms = record { state = b; memories = ms }

-- the number with which the device refuses every call, 9 or 8; 0 if it is ready
abbrev pub refuses_all : Device → ℕ
refuses_all s = common_refusal s.state (length s.memories.panel) (length s.memories.store)

-- whether u has a pixel of the device at x, y; a device that refuses every call has no pixels
abbrev pub is_pixel : Device → SurfaceId → (x y : ℕ) → Bool
is_pixel s u x y = eqb (refuses_all s) 0 && has_pixel (where_is s.state u) x y

abbrev pub plan_for : Invocation → Device → Plan
plan_for c s = plan c s.state (length s.memories.panel) (length s.memories.store)

-- the answer of a call with the record after it; the device after it
abbrev pub answer : Invocation → Device → Outcome
answer c s = (plan_for c s).outcome

abbrev pub step : Invocation → Device → Device
step c s = device (answer c s).state (after s.state (plan_for c s).paint s.memories)

-- a list of calls, each on the device that the one before it left: the answers, and the device at the end
unfoldable pub run : List Invocation → Device → List Outcome × Device
run [] s = ([], s)
run (c ∷ cs) s = (answer c s ∷ (run cs (step c s)).0, (run cs (step c s)).1)
