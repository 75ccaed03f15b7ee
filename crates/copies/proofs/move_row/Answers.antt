-- What is read back from the buffer is the row before the call.
use Rattle.std.proofs.Common.{◌∙◌, rules, replicate}
use Rattle.runs.proofs.Runs.{through_buffer}
use Rattle.copies.proofs.move_row.Goals as goal

pub returns : goal.returns
returns c =
    let a = c.args in
    c.copy_run-2.ensures
    ∙ through_buffer (λ x _. x) a.d a.s a.n a.mem.now a.mem.now (replicate 8192 0) (search rules) (search rules)
    c.copy_run.ensures
