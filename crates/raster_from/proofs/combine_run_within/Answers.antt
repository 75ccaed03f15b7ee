-- What is read back from the buffer is the row before the call.
use Rattle.std.proofs.Common.{◌∙◌, rules, replicate}
use Rattle.runs.proofs.Runs.{through_buffer}
use Rattle.rop3.specs.Rop3.{applied}
use Rattle.raster_from.proofs.combine_run_within.Goals as goal

pub returns : goal.returns
returns c =
    let a = c.args in
    c.combine_run_from.ensures
    ∙ through_buffer (applied a.table a.pat) a.d a.s a.n a.mem.now a.mem.now (replicate 8192 0) (search rules) (search rules)
    c.copy_run.ensures
