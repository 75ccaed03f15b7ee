-- `numbers::dc_of` meets its contract. Assumes nothing.
use mathlib.Core.Path.{◌∙◌}
use Rattle.arithmetic.proofs.Machine.{stored32}
use Rattle.numbers.specs.Block.{dc_fields}
use Rattle.numbers.proofs.dc_of.Goals as goal

pub returns : goal.returns
unfolding dc_fields
returns c =
    rw (
      c.surface_of.ensures,
      c.bitmap_of.ensures,
      stored32 c.signed.result (record { sfits = c.signed.type_inv }) ∙ c.signed.ensures,
      stored32 c.signed-2.result (record { sfits = c.signed-2.type_inv }) ∙ c.signed-2.ensures,
    )
