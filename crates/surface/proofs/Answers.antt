-- `Done`, from the result that the code computed. Assumes nothing.
use mathlib.Core.Path.{◌≡◌, ◌∙◌}
use mathlib.Core.Bool.{Bool, false}
use mathlib.Core.List.{List}
use Prim.Native.Nat.{ℕ}
use lib.Dec.{eqb}
use borrow.Author.Tests.{ne_eqb}
use Rattle.std.specs.Prelude.{Ok, Err}
use Rattle.refusals.specs.declared.Refusal.{Refusal}
use Rattle.refusals.specs.Refusal.{code_of}
use Rattle.refusals.proofs.Numbers.{number_not_0}
use Rattle.surface.specs.declared.Drawn.{Drawn}
use Rattle.surface.specs.Refusal.{drawn, advanced, unless_refused, Drew, Advanced}

-- an operation that was accepted
module _ {N : ℕ} (accepted : 0 ≡ N) {done before after : List ℕ} where
  pub drawn_done : {t mark : Bool} → t ≡ mark → after ≡ done → Drew N mark done before (drawn (Ok t)) after
  drawn_done p q = record { answer = rw (← accepted, p); bytes = rw (← accepted, q) }

  pub written_done : {a total : ℕ} → a ≡ total → after ≡ done → Advanced N total done before (advanced (Ok a)) after
  written_done p q = record { answer = rw (← accepted, p); bytes = rw (← accepted, q) }

-- an operation that was refused changes no byte
module _ {number : ℕ} (N : ℕ) (is : number ≡ N) (refused : number ≡ 0 → ⊥) where
  not_zero : eqb N 0 ≡ false
  not_zero = ne_eqb N 0 (λ e. refused (is ∙ e))

  pub refused_bytes : (new old : List ℕ) → old ≡ unless_refused N new old
  refused_bytes new old = rw not_zero

module _ {N : ℕ} (r : Refusal) (is : code_of r ≡ N) {done before : List ℕ} where
  pub drawing_refused : (mark : Bool) → Drew N mark done before (drawn (Err r)) before
  drawing_refused mark = record { answer = rw (not_zero N is (number_not_0 r), is); bytes = refused_bytes N is (number_not_0 r) done before }

  pub writing_refused : (total : ℕ) → Advanced N total done before (advanced (Err r)) before
  writing_refused total = record { answer = rw (not_zero N is (number_not_0 r), is); bytes = refused_bytes N is (number_not_0 r) done before }

-- an accepted operation has drawn
pub done_drawn : {N : ℕ} {mark : Bool} {done before after : List ℕ} {r : Drawn} → N ≡ 0 → Drew N mark done before r after → (r.marked ≡ mark) × (after ≡ done)
done_drawn e d = (rw (d.answer, e), d.bytes ∙ rw e)
