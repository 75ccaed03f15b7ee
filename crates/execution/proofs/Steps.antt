-- Lists of calls: they can be joined, they keep the memories' lengths and readiness, and a device that refuses every call. Assumes
-- nothing.
use mathlib.Core.Bool.{Bool, true, false, cond}
use mathlib.Core.List.{List, [], ◌∷◌, ◌++◌}
use mathlib.Core.Path.{◌≡◌, refl, ◌∙◌, ap}
use lib.Dec.{eqb}
use lib.ListN.{length}
use borrow.Author.Tests.{eqb-true}
use Rattle.ready.proofs.Ready.{ready, ready_accepts}
use Rattle.paint.specs.Paint.{after}
use Rattle.paint.proofs.Alike.{ReadyWith}
use Rattle.plan.specs.Plan.{Plan, refuse}
use Rattle.plan.specs.Calls.{Invocation, when_ready}
use Rattle.execution.specs.Execution.{Device, device, refuses_all, step, run}
use Rattle.execution.proofs.Shape.{Shape, Form, checked, question, form_of}
use Rattle.execution.proofs.Steady.{shape_steady}

-- the memories' lengths are kept, and a ready device stays ready
pub record Kept (s t : Device) : Type 0 where
  pub panel : length t.memories.panel ≡ length s.memories.panel
  pub store : length t.memories.store ≡ length s.memories.store
  pub looked : refuses_all s ≡ 0 → refuses_all t ≡ 0

-- the device after a plan
abbrev pub after_plan : Plan → Device → Device
after_plan p s = device p.outcome.state (after s.state p.paint s.memories)

ready_kept : (p : Plan) (s : Device) → Shape s.state p → Kept s (after_plan (when_ready s.state (length s.memories.panel) (length s.memories.store) p) s)
ready_kept p s shape = by (eqb (refuses_all s) 0) refl
  where
    by : (t : Bool) → eqb (refuses_all s) 0 ≡ t → Kept s (after_plan (cond t p (refuse (refuses_all s) s.state)) s)
    by true e =
        let l : ReadyWith s.state s.memories = ready s.state _ _ _ refl (eqb-true _ _ e) in
        let k = shape_steady shape in
        record {
          panel = k.panel s.memories l;
          store = k.store s.memories l;
          looked = λ z. rw (k.panel s.memories l, k.store s.memories l) (ready_accepts (k.stays_ready l));
        }
    by false e = unfold after in record { panel = refl; store = refl; looked = λ z. z }

pub step_kept : (c : Invocation) (s : Device) → Kept s (step c s)
step_kept c s = by (form_of s.state c _ _)
  where
    by : {p : Plan} → Form s.state (length s.memories.panel) (length s.memories.store) p → Kept s (after_plan p s)
    by (checked p shape) = ready_kept p s shape
    by (question a) = unfold after in record { panel = refl; store = refl; looked = λ z. z }

pub run_kept : (cs : List Invocation) (s : Device) → Kept s (run cs s).1
unfolding run
run_kept [] s = record { panel = refl; store = refl; looked = λ z. z }
run_kept (c ∷ cs) s =
    let j = step_kept c s in
    let k = run_kept cs (step c s) in
    record { panel = k.panel ∙ j.panel; store = k.store ∙ j.store; looked = λ z. k.looked (j.looked z) }

-- a device that refuses every call stays as it is
ready_refused : (p : Plan) (s : Device) → (refuses_all s ≡ 0 → ⊥) → after_plan (when_ready s.state (length s.memories.panel) (length s.memories.store) p) s ≡ s
ready_refused p s ne = by (eqb (refuses_all s) 0) refl
  where
    by : (t : Bool) → eqb (refuses_all s) 0 ≡ t → after_plan (cond t p (refuse (refuses_all s) s.state)) s ≡ s
    by true e = absurd (ne (eqb-true _ _ e))
    by false e = unfold after in refl

step_refused : (c : Invocation) (s : Device) → (refuses_all s ≡ 0 → ⊥) → step c s ≡ s
step_refused c s ne = by (form_of s.state c _ _)
  where
    by : {p : Plan} → Form s.state (length s.memories.panel) (length s.memories.store) p → after_plan p s ≡ s
    by (checked p shape) = ready_refused p s ne
    by (question a) = unfold after in refl

pub run_refused : (cs : List Invocation) (s : Device) → (refuses_all s ≡ 0 → ⊥) → (run cs s).1 ≡ s
unfolding run
run_refused [] s ne = refl
run_refused (c ∷ cs) s ne = ap (λ (t : Device). (run cs t).1) (step_refused c s ne) ∙ run_refused cs s ne

-- two lists in turn are the joined list
pub run_append : (cs ds : List Invocation) (s : Device) → (run (cs ++ ds) s).1 ≡ (run ds (run cs s).1).1
unfolding run
run_append [] ds s = refl
run_append (c ∷ cs) ds s = run_append cs ds (step c s)
