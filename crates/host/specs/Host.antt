-- A host's call, as numbers: its plan is that of the call that they encode.
use Rattle.std.specs.Prelude.{Option, Some, None, cond, ◌&&◌, List, ℕ, leb, length}
use Rattle.numbers.specs.View.{view}
use Rattle.paint.specs.Memories.{Memories}
use Rattle.plan.specs.declared.Call.{Call}
use Rattle.plan.specs.Plan.{Plan, refuse}
use Rattle.plan.specs.Calls.{call, load, plan_on}
use Rattle.plan.specs.Followed.{Followed}
use Rattle.host_call.specs.declared.HostCall.{HostCall}
use Rattle.host_call.specs.Call.{call_of}
use Rattle.host_reply.specs.declared.Reply.{Reply}
use Rattle.host_reply.specs.Reply.{Replied}
use Rattle.p6.specs.P6.{ppm_length}

abbrev pub plan_read : Option Call → (units l : List ℕ) → Memories → Plan
plan_read None us l ms = refuse 255 (view l)
plan_read (Some c) us l ms = plan_on (call c us) l (length ms.panel) (length ms.store)

-- numbers that encode no call are refused with 255
abbrev pub host_plan : HostCall → (units l : List ℕ) → Memories → Plan
host_plan c us l ms = plan_read (call_of c) us l ms

-- What a host asked was performed: the plan was followed, and the reply encodes its answer.
pub record HostAnswered (p : Plan) (l : List ℕ) (ms : Memories) (r : Reply) (l' : List ℕ) (ms' : Memories) : Type 0 where
  pub replied : Replied p.outcome.answer r
  pub followed : Followed p l ms p.outcome.answer l' ms'

-- a call: the plan is that of the call that its numbers encode
abbrev pub HostPerformed : HostCall → (units l : List ℕ) → Memories → Reply → (l' : List ℕ) → Memories → Type 0
HostPerformed c us l ms r l' ms' = HostAnswered (host_plan c us l ms) l ms r l' ms'

-- a load of these bytes
abbrev pub HostLoaded : (bytes l : List ℕ) → Memories → Reply → (l' : List ℕ) → Memories → Type 0
HostLoaded bytes l ms r l' ms' = HostAnswered (plan_on (load bytes) l (length ms.panel) (length ms.store)) l ms r l' ms'

-- a picture's length by its sides, also where a side is 0; 0 if a side is above 4,096
abbrev pub picture_length : (width height : ℕ) → ℕ
picture_length w h = cond (leb w 4096 && leb h 4096) (ppm_length w h) 0
