-- Demand 3: a call on two devices, then a list of calls. Assumes nothing.
use mathlib.Core.Bool.{Bool, true, false, cond}
use mathlib.Core.List.{List, [], ◌∷◌}
use mathlib.Core.Path.{◌≡◌, refl, sym, ◌∙◌, ap₂, subst₂, subst₃}
use Prim.Native.Nat.{ℕ}
use lib.Dec.{eqb}
use lib.ListN.{length}
use borrow.Author.Tests.{eqb-true, eq-eqb}
use Rattle.arithmetic.proofs.Test.{both, together}
use Rattle.gdi.specs.declared.GdiState.{GdiState}
use Rattle.ready.proofs.Ready.{ready, ready_accepts}
use Rattle.paint.specs.Memories.{Memories}
use Rattle.paint.specs.Paint.{after}
use Rattle.paint.specs.Taint.{Taint, tainted}
use Rattle.paint.proofs.Alike.{ReadyWith}
use Rattle.plan.specs.Plan.{Plan, refuse}
use Rattle.plan.specs.Calls.{Invocation, plan}
use Rattle.execution.specs.Execution.{Device, device, refuses_all, plan_for, answer, step, run}
use Rattle.execution.proofs.Shape.{Shape, Form, checked, question, form_of}
use Rattle.execution.proofs.Steady.{shape_steady}
use Rattle.execution.proofs.Steps.{step_kept, run_kept, run_refused}
use Rattle.noninterference.specs.Claim.{Agree, taint_after, taint_on, Noninterference}
use Rattle.noninterference.proofs.Alike.{shape_alike}

-- two devices of one record agree after a plan
abbrev AgreeAfter : Plan → Taint → GdiState → (ms ns : Memories) → Type 0
AgreeAfter p m b ms ns = Agree (tainted p.paint m) (device p.outcome.state (after b p.paint ms)) (device p.outcome.state (after b p.paint ns))

-- a call on two devices of one record that agree: the device refuses every call; it is ready; either
module _ (m : Taint) (b : GdiState) (ms ns : Memories) (a : Agree m (device b ms) (device b ns)) where
  refused_agree : Agree (tainted [] m) (device b (after b [] ms)) (device b (after b [] ns))
  unfolding after tainted
  refused_agree = a

  looked_agree : ReadyWith b ms → (p : Plan) → Shape b p → AgreeAfter p m b ms ns
  looked_agree l p shape =
      let s = shape_steady shape in
      let still : Bool = eqb (refuses_all (device p.outcome.state (after b p.paint ms))) 0 in
      let l' : ReadyWith b ns = record { sound = l.sound; panel = sym a.panels ∙ l.panel; store = sym a.stores ∙ l.store } in
      record {
        states = refl;
        panels = s.panel ms l ∙ a.panels ∙ sym (s.panel ns l');
        stores = s.store ms l ∙ a.stores ∙ sym (s.store ns l');
        pixels = λ u x y i n. (shape_alike shape).alike m ms ns l l' (λ u x y i n. a.pixels u x y (together (eq-eqb _ _ (ready_accepts l)) i) n) u x y (both still _ i).1 n;
      }

  plan_agree : (c : Invocation) → AgreeAfter (plan_for c (device b ms)) m b ms ns
  plan_agree c = by (form_of b c _ _)
    where
      checked_agree : (p : Plan) → Shape b p → (t : Bool) → eqb (refuses_all (device b ms)) 0 ≡ t → AgreeAfter (cond t p (refuse (refuses_all (device b ms)) b)) m b ms ns
      checked_agree p shape true e = looked_agree (ready b _ _ _ refl (eqb-true _ _ e)) p shape
      checked_agree p shape false e = refused_agree

      by : {p : Plan} → Form b (length ms.panel) (length ms.store) p → AgreeAfter p m b ms ns
      by (checked p shape) = checked_agree p shape (eqb (refuses_all (device b ms)) 0) refl
      by (question x) = refused_agree

-- what is asked of any two devices that agree: equal answers, and they agree after it
step_agree : (c : Invocation) (m : Taint) (s t : Device) → Agree m s t → (answer c s ≡ answer c t) × Agree (tainted (plan_for c s).paint m) (step c s) (step c t)
step_agree c m s t a =
    subst₃ (λ (b : GdiState) (n k : ℕ). Agree m s (device b t.memories) → (answer c s ≡ (plan c b n k).outcome)
    × Agree (tainted (plan_for c s).paint m) (step c s) (device (plan c b n k).outcome.state (after b (plan c b n k).paint t.memories)))
    a.states a.panels a.stores
    (λ h. (refl, plan_agree m s.state s.memories t.memories h c)) a

-- a list of calls
run_agree : (cs : List Invocation) (m : Taint) (s t : Device) → Agree m s t → ((run cs s).0 ≡ (run cs t).0) × Agree (taint_on cs s m) (run cs s).1 (run cs t).1
unfolding run taint_after
run_agree [] m s t a = (refl, a)
run_agree (c ∷ cs) m s t a =
    let (e, a') = step_agree c m s t a in
    let (es, z) = run_agree cs (tainted (plan_for c s).paint m) (step c s) (step c t) a' in (
      ap₂ ◌∷◌ e es,
      subst₂ (λ (n k : ℕ). Agree (taint_after cs (answer c s).state n k (tainted (plan_for c s).paint m)) (run cs (step c s)).1 (run cs (step c t)).1)
          (step_kept c s).panel (step_kept c s).store z,
    )

pub noninterference : Noninterference
noninterference =
    record {
      answers = λ cs m s t a. (run_agree cs m s t a).0;
      pixels = λ cs m s t a. (run_agree cs m s t a).1;
      stays_ready = λ cs s. (run_kept cs s).looked;
      refuses = run_refused;
    }
