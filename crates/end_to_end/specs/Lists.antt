-- Lists of calls as callers make them, with loads and saves among them: on a flat record, through `perform`, `load` and `save`, or
-- through the C functions.
use Rattle.std.specs.Prelude.{Bool, true, false, ◌&&◌, List, [], ◌∷◌, ◌++◌, ◌≡◌, ℕ, ◌<◌, ◌^◌, eqb, length, take, Option, Some, None}
use Rattle.numbers.specs.Layout.{object_size}
use Rattle.numbers.specs.Block.{at}
use Rattle.numbers.specs.View.{view}
use Rattle.ready.specs.Ready.{common_refusal_on}
use Rattle.place.specs.declared.SurfaceId.{SurfaceId}
use Rattle.place.specs.Place.{where_is}
use Rattle.paint.specs.Memories.{Memories, has_pixel, colour_at}
use Rattle.paint.specs.Taint.{Taint}
use Rattle.plan.specs.declared.Call.{Call}
use Rattle.plan.specs.Answer.{Parts, none as no-object, origin}
use Rattle.plan.specs.Plan.{Plan}
use Rattle.plan.specs.Calls.{Invocation, call, load, save, plan_on}
use Rattle.plan.specs.Followed.{Performed}
use Rattle.execution.specs.Execution.{Device, device}
use Rattle.noninterference.specs.Claim.{taint_on}
use Rattle.host_call.specs.declared.HostCall.{HostCall}
use Rattle.host_call.specs.Call.{call_of}
use Rattle.host_reply.specs.declared.Reply.{Reply}
use Rattle.save.specs.declared.Saving.{Saving}
use Rattle.save.specs.Save.{Saved}
use Rattle.host.specs.Host.{host_plan, HostAnswered}

-- A flat device is what a caller keeps, and lends with each call: the record as numbers, and the two memories.
pub record FlatDevice : Type 0 where
  pub numbers : List ℕ
  pub memories : Memories

-- the device that it encodes
abbrev pub device_of : FlatDevice → Device
device_of s = device (view s.numbers) s.memories

-- the number with which every call is refused, 9 or 8; 0 if the device is ready
abbrev pub refuses_all_on : FlatDevice → ℕ
refuses_all_on s = common_refusal_on s.numbers (length s.memories.panel) (length s.memories.store)

-- whether u has a pixel of the device at x, y; a device that refuses every call has no pixels
abbrev pub is_pixel_on : FlatDevice → SurfaceId → (x y : ℕ) → Bool
is_pixel_on s u x y = eqb (refuses_all_on s) 0 && has_pixel (where_is (view s.numbers) u) x y

abbrev pub colour_on : FlatDevice → SurfaceId → (x y : ℕ) → ℕ
colour_on s u x y = colour_at s.memories (where_is (view s.numbers) u) x y

-- Equal numbers, memories of equal lengths, and equal colours at every pixel that is not tainted.
pub record EqualBut (m : Taint) (s t : FlatDevice) : Type 0 where
  pub numbers : s.numbers ≡ t.numbers
  pub panels : length s.memories.panel ≡ length t.memories.panel
  pub stores : length s.memories.store ≡ length t.memories.store
  pub pixels : (u : SurfaceId) (x y : ℕ) → is_pixel_on s u x y ≡ true → (m u x y → ⊥) → colour_on s u x y ≡ colour_on t u x y

-- Functions through which calls are made: the type of their arguments and of their answers, what their contracts promise of argument,
-- answer and the device before and after, and what an argument asks of the device: one thing or none.
pub record Entry : Type 1 where
  pub Argument : Type 0
  pub Answer : Type 0
  pub Promises : Argument → FlatDevice → Answer → FlatDevice → Type 0
  pub calls : Argument → List Invocation

-- numbers of 32 bits, as the type `u32` has them
pub record Words32 (l : List ℕ) : Type 0 where
  pub below : (k : ℕ) → at l k < 2 ^ 32

-- `perform` and `load` promise their contracts, which take the answer by number and values; the numbers are a slice of `u32`.
pub record PerformPromises (c : Invocation) (s : FlatDevice) (a : Parts) (t : FlatDevice) : Type 0 where
  pub performed : Performed c s.numbers s.memories a t.numbers t.memories
  pub words : Words32 t.numbers

-- `save` promises its contract, for an output of so many bytes, whatever they are. It is lent the numbers to read, and no memory, so the
-- device stays as it is. The answer is made from what it returns and what it wrote: as many bytes of the output as it says.
pub record SavePromises {A : Type 0} (answer : Saving → (written : List ℕ) → A) (room : ℕ) (s : FlatDevice) (a : A) (t : FlatDevice) : Type 0 where
  pub out : List ℕ
  pub out' : List ℕ
  pub saving : Saving
  pub room_is : length out ≡ room
  pub saved : Saved s.numbers out saving out'
  pub answered : a ≡ answer saving (take saving.length out')
  pub kept : t ≡ s

-- by number and values
abbrev pub saving_parts : Saving → (written : List ℕ) → Parts
saving_parts r bs = record { number = r.refusal; value = r.length; flag = false; position = origin; object = no-object; bytes = bs }

-- the function that is asked: `perform` for a call, `load`, `save`
abbrev pub Promised : Invocation → FlatDevice → Parts → FlatDevice → Type 0
Promised (call c us) s a t = PerformPromises (call c us) s a t
Promised (load bytes) s a t = PerformPromises (load bytes) s a t
Promised (save room) s a t = SavePromises saving_parts room s a t

abbrev pub through_perform : Entry
through_perform = record { Argument = Invocation; Answer = Parts; Promises = Promised; calls = λ c. c ∷ [] }

-- What is asked of the C functions: a call as numbers, with a text's units; a load of these bytes; a save into so many bytes.
pub data HostInvocation : Type 0 where
  host_call : HostCall → (units : List ℕ) → HostInvocation
  host_load : (bytes : List ℕ) → HostInvocation
  host_save : (room : ℕ) → HostInvocation

-- What they answer: a reply; of a save what it returns, with what it wrote.
pub data HostAnswer : Type 0 where
  reply : Reply → HostAnswer
  saving : Saving → (written : List ℕ) → HostAnswer

-- `ravinefork_perform` and `ravinefork_load` promise their contracts; a reply's fields are an array of `u32`.
pub record ReplyPromises (p : Plan) (s : FlatDevice) (r : Reply) (t : FlatDevice) : Type 0 where
  pub performed : HostAnswered p s.numbers s.memories r t.numbers t.memories
  pub words : Words32 t.numbers
  pub fields : Words32 r.fields
  pub fields_length : length r.fields ≡ object_size

-- the plan of a load on a flat device
abbrev pub load_plan : (bytes : List ℕ) → FlatDevice → Plan
load_plan bytes s = plan_on (load bytes) s.numbers (length s.memories.panel) (length s.memories.store)

abbrev pub HostPromises : HostInvocation → FlatDevice → HostAnswer → FlatDevice → Type 0
HostPromises (host_call c us) s (reply r) t = ReplyPromises (host_plan c us s.numbers s.memories) s r t
HostPromises (host_call c us) s (saving r bs) t = ⊥
HostPromises (host_load bytes) s (reply r) t = ReplyPromises (load_plan bytes s) s r t
HostPromises (host_load bytes) s (saving r bs) t = ⊥
HostPromises (host_save room) s a t = SavePromises saving room s a t

-- what is asked of the device: nothing, if the numbers are no call
abbrev pub calls_read : Option Call → (units : List ℕ) → List Invocation
calls_read None us = []
calls_read (Some c) us = call c us ∷ []

abbrev pub host_calls : HostInvocation → List Invocation
host_calls (host_call c us) = calls_read (call_of c) us
host_calls (host_load bytes) = load bytes ∷ []
host_calls (host_save room) = save room ∷ []

abbrev pub through_host : Entry
through_host = record { Argument = HostInvocation; Answer = HostAnswer; Promises = HostPromises; calls = host_calls }

-- A list of these was made, each on the device that the one before it left.
pub data Made (e : Entry) : List e.Argument → FlatDevice → List e.Answer → FlatDevice → Type 0 where
  none : {s : FlatDevice} → Made e [] s [] s
  then : {c : e.Argument} {cs : List e.Argument} {s t u : FlatDevice} {a : e.Answer} {rs : List e.Answer}
      → e.Promises c s a t → Made e cs t rs u → Made e (c ∷ cs) s (a ∷ rs) u

-- the calls of a list of arguments
unfoldable pub calls_of : (e : Entry) → List e.Argument → List Invocation
calls_of e [] = []
calls_of e (c ∷ cs) = e.calls c ++ calls_of e cs

pub record ListsAgree (e : Entry) : Type 1 where
  -- Two callers hold equal numbers, and memories that are equal except at tainted pixels, and make the same list of calls: all
  -- answers are equal, and afterwards all numbers and every untainted pixel. The numbers need not be a record.
  pub lists : (cs : List e.Argument) (m : Taint) (s t s' t' : FlatDevice) (rs qs : List e.Answer)
      → EqualBut m s t → Made e cs s rs s' → Made e cs t qs t' → (rs ≡ qs) × EqualBut (taint_on (calls_of e cs) (device_of s) m) s' t'
  -- A ready device is ready after every list, so that its pixels remain.
  pub stays_ready : (cs : List e.Argument) (s s' : FlatDevice) (rs : List e.Answer) → refuses_all_on s ≡ 0 → Made e cs s rs s' → refuses_all_on s' ≡ 0
  -- A device that refuses every call keeps every number and every byte.
  pub refuses : (cs : List e.Argument) (s s' : FlatDevice) (rs : List e.Answer) → (refuses_all_on s ≡ 0 → ⊥) → Made e cs s rs s' → s' ≡ s
