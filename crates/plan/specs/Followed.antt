-- When a plan was followed, on a flat record lent with its two memories.
use Rattle.std.specs.Prelude.{List, ◌≡◌, ℕ, length}
use Rattle.std.specs.Borrow.{MutBor}
use denote.Triple.Both.{Both}
use Rattle.numbers.specs.View.{view, Updated}
use Rattle.paint.specs.Memories.{Memories, memories}
use Rattle.paint.specs.Paint.{after}
use Rattle.plan.specs.Answer.{Parts}
use Rattle.plan.specs.Plan.{Plan}
use Rattle.plan.specs.Calls.{Invocation, plan_on}

-- A plan was followed: the answer's number and values are the plan's; accepted, the numbers are the plan's record; the memories
-- have its paints; refused, every number and every byte is as it was.
pub record Followed (p : Plan) (l : List ℕ) (ms : Memories) (a : Parts) (l' : List ℕ) (ms' : Memories) : Type 0 where
  pub answer : a ≡ p.outcome.answer
  pub numbers : a.number ≡ 0 → Updated l p.outcome.state l'
  pub memories : ms' ≡ after (view l) p.paint ms
  pub kept : (a.number ≡ 0 → ⊥) → (l' ≡ l) × (ms' ≡ ms)

-- What was asked was performed: its plan was followed.
abbrev pub Performed : Invocation → (l : List ℕ) → Memories → Parts → (l' : List ℕ) → Memories → Type 0
Performed c l ms a l' ms' = Followed (plan_on c l (length ms.panel) (length ms.store)) l ms a l' ms'

-- A slice lent to a function, as it is at entry and at exit.
abbrev pub Slice : Type 0
Slice = Both (MutBor (List ℕ)) (MutBor (List ℕ))

-- A relation of a record's numbers, the memories and an answer, stated on the slices that a function is lent: the numbers and both
-- memories (`OnBoth`); the numbers and one memory (`OnStore`, `OnPanel`), for every content of the other; the numbers alone
-- (`OnNumbers`), for every content of both.
abbrev pub OnBoth : {A : Type 0} → (List ℕ → Memories → A → List ℕ → Memories → Type 0) → (l panel store : Slice) → A → Type 0
OnBoth R l panel store a = R l.entry.now (memories panel.entry.now store.entry.now) a l.exit.now (memories panel.exit.now store.exit.now)

abbrev pub OnStore : (List ℕ → Memories → Parts → List ℕ → Memories → Type 0) → (l store : Slice) → Parts → Type 0
OnStore R l store a = (m : List ℕ) → R l.entry.now (memories m store.entry.now) a l.exit.now (memories m store.exit.now)

abbrev pub OnPanel : (List ℕ → Memories → Parts → List ℕ → Memories → Type 0) → (l panel : Slice) → Parts → Type 0
OnPanel R l panel a = (m : List ℕ) → R l.entry.now (memories panel.entry.now m) a l.exit.now (memories panel.exit.now m)

abbrev pub OnNumbers : (List ℕ → Memories → Parts → List ℕ → Memories → Type 0) → Slice → Parts → Type 0
OnNumbers R l a = (ms : Memories) → R l.entry.now ms a l.exit.now ms
