-- `host::ravinefork_perform` meets its contract. Assumes nothing.
use mathlib.Core.Path.{refl, sym, ◌∙◌}
use native.Mathlib.Omega.{arith}
use Rattle.plan.proofs.Followed.{refusal_of_any}
use Rattle.host.proofs.ravinefork_perform.Goals as goal

-- Numbers that are no call are refused, whatever the record is.
pub returns-in-None : goal.returns-in-None
returns-in-None c =
    rw (sym c.call_of.ensures ∙ c.in-None.is) (record { replied = c.reply_of-in-None.ensures; followed = refusal_of_any (λ z. omega arith) refl })
