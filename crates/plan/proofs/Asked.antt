-- What is asked of a flat record: refused by the refusals that all calls share, or else done by its own plan. Assumes nothing.
use mathlib.Core.Bool.{Bool, true, false, cond}
use mathlib.Core.List.{List}
use mathlib.Core.Path.{◌≡◌, ◌∙◌}
use Prim.Native.Nat.{ℕ}
use lib.Dec.{eqb}
use lib.ListN.{length}
use borrow.Author.Tests.{ne_eqb}
use Rattle.numbers.specs.View.{view, is_record}
use Rattle.ready.specs.Ready.{common_refusal, common_refusal_on}
use Rattle.ready.proofs.Ready.{Lent, ready_accepts, lent}
use Rattle.paint.specs.Memories.{Memories}
use Rattle.plan.specs.Answer.{Parts, refused}
use Rattle.plan.specs.Plan.{Plan, refuse}
use Rattle.plan.specs.Calls.{when_ready}
use Rattle.plan.specs.Followed.{Followed}
use Rattle.plan.proofs.Followed.{followed_as, refusal_of_any}

module _ (p : Plan) (l : List ℕ) (ms : Memories) where
  -- the plan p of a ready device, on numbers lent with these memories
  abbrev pub asked : Plan
  asked = cond (is_record l) (when_ready (view l) (length ms.panel) (length ms.store) p) (refuse 9 (view l))

  module _ {no : ℕ} (e : no ≡ common_refusal_on l (length ms.panel) (length ms.store)) where
    pub refused_all : (no ≡ 0 → ⊥) → Followed asked l ms (refused no) l ms
    refused_all ne = refusal_of_any ne (by (is_record l) e)
      where
        number : ℕ
        number = common_refusal (view l) (length ms.panel) (length ms.store)

        by : (t : Bool) → no ≡ cond t number 9 → cond t (cond (eqb number 0) p (refuse number (view l))) (refuse 9 (view l)) ≡ refuse no (view l)
        by true f = rw (ne_eqb number 0 (λ z. ne (f ∙ z)), f)
        by false f = rw f

    module _ (z : no ≡ 0) where
      pub is_lent : Lent l (length ms.panel) (length ms.store)
      is_lent = lent l (length ms.panel) (length ms.store) no e z

      looked : asked ≡ p
      looked = rw (is_lent.is_record_lem, ready_accepts is_lent.ready)

      pub performed : {a : Parts} {l' : List ℕ} {ms' : Memories} → Followed p l ms a l' ms' → Followed asked l ms a l' ms'
      performed f = followed_as looked f
