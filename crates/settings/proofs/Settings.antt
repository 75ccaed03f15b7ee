-- What a setting call makes of the DC that was set, or was not found, whichever field it is. Assumes nothing.
use Rattle.std.specs.Prelude.{Result, Ok, Err, None, MatchResult, IsOkAnd, IfOk, IfErr}
use mathlib.Core.Bool.{true}
use mathlib.Core.List.{List}
use mathlib.Core.Path.{◌≡◌}
use Prim.Native.Nat.{ℕ}
use Rattle.refusals.specs.declared.Refusal.{Refusal}
use Rattle.refusals.specs.declared.Refusal.TheVariants.{NoDc}
use Rattle.gdi.specs.declared.Dc.{Dc}
use Rattle.gdi.specs.Lookup.{dc_of}
use Rattle.numbers.specs.View.{view, is_record}
use Rattle.paint.specs.Memories.{Memories}
use Rattle.plan.specs.declared.Answer.{Answer}
use Rattle.plan.specs.Answer.{Parts, parts_of}
use Rattle.plan.specs.Settings.{setting}
use Rattle.plan.specs.Followed.{Followed}
use Rattle.plan.proofs.Followed.{refusal, acceptance_record_only}
use Rattle.settings.specs.Inner.{SetIn}

-- the setting was changed, and the old one is the answer; or there is no such DC
module _ {T : Type 0} (old : Dc → Parts) (new : Dc → Dc) (accepted : (d : Dc) → (old d).number ≡ 0) {l l' : List ℕ} (h : ℕ) {Changed : Dc → Dc → T → Type 0} {Answered : T → Answer → Type 0} where
  pub set_followed : (r : Result T Refusal) (a : Result Answer Refusal) → is_record l ≡ true
      → IfOk r (λ o. SetIn (λ d after. Changed d after o) l h l') → IfErr r (λ e. (e ≡ NoDc) × (dc_of (view l) h ≡ None) × (l' ≡ l))
      → MatchResult r (λ o. IsOkAnd a (Answered o)) (λ e. a ≡ Err e)
      → ((d after : Dc) (o : T) (x : Answer) → Changed d after o → Answered o x → (parts_of (Ok x) ≡ old d) × (after ≡ new d))
      → (ms : Memories) → Followed (setting old new (view l) h) l ms (parts_of a) l' ms
  unfolding setting
  set_followed (Ok o) (Ok x) r s n q k ms =
      let e = k s.before s.after o x s.changed q in
      rw e.0 (acceptance_record_only (accepted s.before) (rw (s.found, e.1)) s.stored)
  set_followed (Ok o) (Err y) r s n q k ms = absurd q
  set_followed (Err y) a r s n q k ms = rw (q, n.0, n.2) (refusal r (rw n.1))
