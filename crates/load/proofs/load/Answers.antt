-- `load::load` meets its contract. Assumes nothing.
use mathlib.Core.Path.{refl}
use Rattle.std.proofs.lemmas.Result.{err_from_is_err_and}
use Rattle.refusals.proofs.Numbers.{number_not_0}
use Rattle.numbers.specs.View.{view}
use Rattle.paint.specs.Memories.{memories}
use Rattle.plan.specs.Load.{load_table}
use Rattle.plan.specs.Calls.{plan, plan_on}
use Rattle.plan.proofs.Asked.{refused_all, is_lent, performed}
use Rattle.load.proofs.load.Goals as goal

pub returns-in_err-check : goal.returns-in_err-check
unfolding plan_on plan
returns-in_err-check c =
    let a = c.args in
    let p = err_from_is_err_and c.from_residual.result c.from_residual.ensures.1 in
    rw (p.1, p.2) (refused_all (load_table (view a.numbers.now) a.bytes.now) a.numbers.now (memories a.panel.now a.store.now) c.in_err-check.ensures (number_not_0 _))

pub load_ready-requires : goal.load_ready-requires
load_ready-requires c =
    let a = c.args in
    is_lent (load_table (view a.numbers.now) a.bytes.now) a.numbers.now (memories a.panel.now a.store.now) c.in_ok-check.ensures refl

pub returns : goal.returns
unfolding plan_on plan
returns c =
    let a = c.args in
    performed (load_table (view a.numbers.now) a.bytes.now) a.numbers.now (memories a.panel.now a.store.now) c.in_ok-check.ensures refl c.load_ready.ensures
