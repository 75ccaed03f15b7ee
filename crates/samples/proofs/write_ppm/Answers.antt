-- `samples::write_ppm` meets its contract: header and samples fill the output. Assumes nothing.
use mathlib.Core.Path.{◌∙◌}
use Prim.Native.Nat.{◌*◌}
use native.Mathlib.Omega.{arith}
use lib.ListN.{length-append}
use Rattle.p6.specs.P6.{header, p6}
use Rattle.samples.specs.Samples.{samples_of}
use Rattle.p6.proofs.Put.{put_behind, put_all}
use Rattle.samples.proofs.Pixels.{length_samples}
use Rattle.samples.proofs.write_ppm.Goals as goal

pub returns : goal.returns
returns c =
    let w = c.args.width in
    let h = c.args.height in
    let m = c.args.pixels.now in
    let out = c.args.out.now in
    let xs = samples_of m (w * h) in
    let long = length_samples m (w * h) in
    put_behind out (header w h) xs c.put_header-at.result (omega (arith, c.requires.out_len, long)) c.put_header-at.ensures.bytes c.put_rgb_run.ensures c.put_header-at.ensures.value
    ∙ put_all out (p6 w h xs) (omega (arith, c.requires.out_len, long, length-append (header w h) xs))
