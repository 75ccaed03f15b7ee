-- A call is performed: by the common refusals, or by what the function of the call ensures. Assumes nothing.
use mathlib.Core.List.{List}
use mathlib.Core.Path.{◌≡◌}
use Prim.Native.Nat.{ℕ}
use lib.ListN.{length}
use Rattle.numbers.specs.View.{view}
use Rattle.ready.specs.Ready.{common_refusal_on}
use Rattle.ready.proofs.Ready.{Lent}
use Rattle.paint.specs.Memories.{Memories}
use Rattle.plan.specs.declared.Call.{Call}
use Rattle.plan.specs.Answer.{Parts, refused}
use Rattle.plan.specs.Calls.{act, call, plan, plan_on}
use Rattle.plan.specs.Followed.{Followed, Performed}
use Rattle.plan.proofs.Asked as asked

module _ (c : Call) (us l : List ℕ) (ms : Memories) {no : ℕ} (e : no ≡ common_refusal_on l (length ms.panel) (length ms.store)) where
  -- the refusals that all calls share
  pub refused_all : (no ≡ 0 → ⊥) → Performed (call c us) l ms (refused no) l ms
  unfolding plan_on plan
  refused_all ne = asked.refused_all (act c us (view l)) l ms e ne

  module _ (z : no ≡ 0) where
    pub is_lent : Lent l (length ms.panel) (length ms.store)
    is_lent = asked.is_lent (act c us (view l)) l ms e z

    -- the call v, on a ready record
    pub performed : {v : Call} (is : c ≡ v) → {a : Parts} {l' : List ℕ} {ms' : Memories} → Followed (act v us (view l)) l ms a l' ms' → Performed (call c us) l ms a l' ms'
    unfolding plan_on plan
    performed is f = asked.performed (act c us (view l)) l ms e z (rw is f)
