-- What a refusal is.
use Rattle.std.specs.Prelude.{◌≡◌, ℕ}
use Rattle.gdi.specs.declared.GdiState.{GdiState}
use Rattle.plan.specs.Plan.{Plan, refuse}
use Rattle.plan.specs.Calls.{Invocation, plan}

-- the refusal number of a plan's answer: 0 if it is accepted
abbrev pub refusal_number : Plan → ℕ
refusal_number p = p.outcome.answer.number

-- A refusal gives its number, with every other part of the answer 0, false or none, and changes no byte and no field.
abbrev pub RefusalsKeep : Type 0
RefusalsKeep = (c : Invocation) (b : GdiState) (panel_len store_len : ℕ)
    → (refusal_number (plan c b panel_len store_len) ≡ 0 → ⊥)
    → plan c b panel_len store_len ≡ refuse (refusal_number (plan c b panel_len store_len)) b
