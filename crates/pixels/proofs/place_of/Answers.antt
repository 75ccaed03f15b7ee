-- `pixels::place_of` meets its contract. Assumes nothing.
use Rattle.std.proofs.Common.{sym, ◌∙◌}
use Rattle.refusals.proofs.Results.{zero_if_ok, nonzero_if_err}
use Rattle.ready.proofs.Ready.{lent}
use Rattle.pixels.proofs.Parts.{refused, no_target, found}
use Rattle.pixels.proofs.place_of.Goals as goal

pub returns-then-is_err : goal.returns-then-is_err
returns-then-is_err c =
    refused _ _ _ _ c.check.ensures (nonzero_if_err _ (sym c.is_err.ensures.value ∙ c.if-is_err.true))

pub target_of-requires : goal.target_of-requires
target_of-requires c =
    let q = lent _ _ _ _ c.check.ensures (zero_if_ok _ (sym c.is_err.ensures.value ∙ c.if-is_err.false)) in
    record {
      numbers_value = q.is_record_lem;
      numbers_value_2 = q.ready.sound;
    }

pub returns-in-Err : goal.returns-in-Err
returns-in-Err c =
    no_target _ _ _ _ c.check.ensures (zero_if_ok _ (sym c.is_err.ensures.value ∙ c.if-is_err.false)) c.target_of.ensures _ c.in-Err.is

pub returns-in-Ok : goal.returns-in-Ok
returns-in-Ok c =
    found _ _ _ _ c.check.ensures (zero_if_ok _ (sym c.is_err.ensures.value ∙ c.if-is_err.false)) c.target_of.ensures c.in-Ok.is
