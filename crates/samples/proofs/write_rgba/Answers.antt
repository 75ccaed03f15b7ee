-- `samples::write_rgba` meets its contract: the bytes fill the output. Assumes nothing.
use mathlib.Core.Path.{◌∙◌, sym}
use Prim.Native.Nat.{◌*◌}
use Rattle.samples.specs.Samples.{rgba_of}
use Rattle.p6.proofs.Put.{put_all}
use Rattle.samples.proofs.Pixels.{length_rgba}
use Rattle.samples.proofs.write_rgba.Goals as goal

pub returns : goal.returns
returns c =
    let n = c.args.width * c.args.height in
    (c.put_run.ensures ∙ put_all c.args.out.now (rgba_of c.args.pixels.now n) (c.requires.out_len ∙ sym (length_rgba c.args.pixels.now n)))
