-- `unpack::object_as` meets its contract. Assumes nothing.
use mathlib.Core.Path.{◌∙◌, ap}
use Rattle.numbers.specs.Block.{object_of}
use Rattle.unpack.proofs.object_as.Goals as goal

pub returns : goal.returns
returns c =
    c.object_of.ensures ∙ ap (object_of c.args.kind) c.read_fields.ensures
