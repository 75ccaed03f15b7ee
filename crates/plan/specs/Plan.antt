-- A plan: what a call does, made from the call, the record and the memories' lengths alone.
use Rattle.std.specs.Prelude.{List, [], ℕ}
use Rattle.gdi.specs.declared.GdiState.{GdiState}
use Rattle.plan.specs.Answer.{Parts, refused}
use Rattle.paint.specs.Paint.{Paint}

-- The record after the call, and the answer.
pub record Outcome : Type 0 where
  pub state : GdiState
  pub answer : Parts

-- A plan: the outcome, and the paints in their order.
pub record Plan : Type 0 where
  pub outcome : Outcome
  pub paint : List Paint

-- a plan that changes no byte: the record after it, and the answer
abbrev pub record_only : GdiState → Parts → Plan
record_only b a = record { outcome = record { state = b; answer = a }; paint = [] }

-- a refusal changes no byte and no field
abbrev pub refuse : ℕ → GdiState → Plan
refuse n b = record_only b (refused n)
