-- `replay::lend` is safe and ends: the numbers and the memories are as long as they are declared.
use mathlib.Core.Path.{sym}
use Rattle.arithmetic.proofs.Arrays.{zeros, served}
use Rattle.numbers.specs.Layout.{record_size}
use Rattle.replay.proofs.lend.Goals as goal

pub slice_bounds-on_parts-end : goal.slice_bounds-on_parts-end
slice_bounds-on_parts-end g c = zeros record_size

pub slice_bounds-on_parts-end-2 : goal.slice_bounds-on_parts-end-2
slice_bounds-on_parts-end-2 g c = zeros 1048576

pub slice_bounds-on_parts-end-3 : goal.slice_bounds-on_parts-end-3
slice_bounds-on_parts-end-3 g c = zeros 4194304

pub on_parts-requires : goal.on_parts-requires
on_parts-requires g c =
    record {
      device_len = sym (zeros record_size);
      panel_len_in_bounds = (served 1048576 c.requires.0, served 4194304 c.requires.1);
    }
