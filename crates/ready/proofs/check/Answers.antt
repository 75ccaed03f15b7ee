-- `ready::check` meets its contract. Assumes nothing.
use mathlib.Core.Path.{refl, sym, ◌∙◌}
use Rattle.std.proofs.lemmas.Result.{err_from_is_err_and}
use Rattle.refusals.proofs.Numbers.{number_not_0}
use native.Mathlib.Omega.{arith}
use Rattle.numbers.specs.Layout.{store_len_place}
use Rattle.numbers.proofs.Seen.{record_length, store_len_seen}
use Rattle.ready.proofs.Ready.{panel_first, then_record, then_other_store, then_none}
use Rattle.ready.proofs.check.Goals as goal

pub returns-in_err-check_panel : goal.returns-in_err-check_panel
returns-in_err-check_panel c =
    let p = err_from_is_err_and c.from_residual.result c.from_residual.ensures.1 in
    rw (p.1, p.2) (panel_first _ _ _ c.in_err-check_panel.ensures (number_not_0 _))

pub bounds-numbers-1 : goal.bounds-numbers-1
bounds-numbers-1 c =
    omega (arith, record_length _ (then_record _ _ 0 c.in_ok-check_panel.ensures refl))

pub overflow_cast-numbers : goal.overflow_cast-numbers
overflow_cast-numbers c =
    omega (arith, c.shared_slice_known-2-1.given store_len_place)

pub returns-then-store_len-numbers : goal.returns-then-store_len-numbers
returns-then-store_len-numbers c =
    then_other_store _ _ _ c.in_ok-check_panel.ensures refl (λ e. c.if-store_len-numbers.true (e ∙ store_len_seen c.args.numbers.now))

pub returns : goal.returns
returns c =
    then_none _ _ _ c.in_ok-check_panel.ensures refl (c.if-store_len-numbers.false ∙ sym (store_len_seen c.args.numbers.now))
