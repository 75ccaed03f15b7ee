-- A call that the code performed on a flat record is a step of the device that it encodes. Assumes nothing.
use mathlib.Core.Bool.{true}
use mathlib.Core.List.{List}
use mathlib.Core.Path.{◌≡◌, sym, ◌∙◌, ap, ap₂}
use Prim.Native.Nat.{ℕ}
use native.Mathlib.Decide.{ℕ_discrete}
use lib.ListN.{length}
use Rattle.numbers.specs.View.{view, is_record}
use Rattle.paint.specs.Memories.{Memories}
use Rattle.plan.specs.Answer.{Parts}
use Rattle.plan.specs.Plan.{Plan}
use Rattle.plan.specs.Calls.{Invocation, plan_on}
use Rattle.plan.specs.Followed.{Performed}
use Rattle.plan.proofs.Refusal.{refusals_keep}
use Rattle.execution.specs.Execution.{device, plan_for, answer, step}

module _ (c : Invocation) (l : List ℕ) (ms : Memories) (good : is_record l ≡ true) {a : Parts} {l' : List ℕ} {ms' : Memories} (p : Performed c l ms a l' ms') where
  plan_is : plan_on c l (length ms.panel) (length ms.store) ≡ plan_for c (device (view l) ms)
  unfolding plan_on
  plan_is = rw good

  answer_is : a ≡ (answer c (device (view l) ms)).answer
  answer_is = p.answer ∙ ap (λ (q : Plan). q.outcome.answer) plan_is

  state_is : Dec (a.number ≡ 0) → view l' ≡ (answer c (device (view l) ms)).state
  state_is (yes z) = (p.numbers z).same ∙ ap (λ (q : Plan). q.outcome.state) plan_is
  state_is (no ne) =
      ap view (p.kept ne).0
      ∙ sym (ap (λ (q : Plan). q.outcome.state)
      (refusals_keep c (view l) (length ms.panel) (length ms.store) (λ z. ne (ap (λ (x : Parts). x.number) answer_is ∙ z))))

  -- the answer, the record and the memories afterwards are those of the step
  pub performed_step : (a ≡ (answer c (device (view l) ms)).answer) × (device (view l') ms' ≡ step c (device (view l) ms))
  performed_step = (answer_is, ap₂ device (state_is (ℕ_discrete a.number 0)) (p.memories ∙ rw plan_is))
