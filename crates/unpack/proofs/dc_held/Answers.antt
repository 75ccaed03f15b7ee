-- `unpack::dc_held` meets its contract. Assumes nothing.
use mathlib.Core.List.{◌∷◌}
use mathlib.Core.Path.{◌∙◌, ap}
use native.Mathlib.Omega.{arith}
use Rattle.bits.specs.Bits.{bits_of}
use Rattle.numbers.specs.Block.{dc_fields}
use Rattle.unpack.proofs.Blocks.{dc_block, dc_block_long}
use Rattle.unpack.proofs.dc_held.Goals as goal

pub dc_of-requires : goal.dc_of-requires
dc_of-requires c =
    omega (arith, dc_block_long (bits_of c.args.bytes.now) c.args.at c.read_fields.ensures)

pub returns : goal.returns
returns c =
    let a = c.args in
    c.dc_of.ensures ∙ ap (λ x. dc_fields (a.surface ∷ x)) (dc_block (bits_of a.bytes.now) a.at c.read_fields.ensures)
