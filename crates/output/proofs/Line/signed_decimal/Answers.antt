-- The magnitude is added behind the sign, or alone.
use Rattle.std.proofs.Common.{◌∙◌}
use Rattle.std.proofs.lemmas.Int.{to_z-of_z}
use Rattle.output.proofs.Signed.{plain_added, minus_added}
use Rattle.output.proofs.Line.signed_decimal.Goals as goal

pub returns-then-v-lt0 : goal.returns-then-v-lt0
returns-then-v-lt0 c =
    let fits = c.ranges.v in
    let a = c.unsigned_abs.ensures in
    let magnitude = c.from-magnitude.ensures ∙ (simp to_z-of_z at a.value) in
    minus_added magnitude (rw c.from-magnitude.ensures a.bound) (simp to_z-of_z at c.if-v-lt0.true) c.put.ensures c.decimal.ensures

pub returns-else-v-lt0 : goal.returns-else-v-lt0
returns-else-v-lt0 c =
    let fits = c.ranges.v in
    let a = c.unsigned_abs.ensures in
    let magnitude = c.from-magnitude.ensures ∙ (simp to_z-of_z at a.value) in
    plain_added magnitude (rw c.from-magnitude.ensures a.bound) (simp to_z-of_z at c.if-v-lt0.false) c.decimal-else-v-lt0.ensures
