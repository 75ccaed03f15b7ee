-- `encode::put_slot` meets its contract. Assumes nothing.
use mathlib.Core.Path.{◌∙◌}
use native.Mathlib.Omega.{arith}
use Rattle.words.proofs.Parts.{length_part}
use Rattle.numbers.specs.Layout.{object_size, object_place}
use Rattle.encode.proofs.Coded.{slot_coded, still_long}
use Rattle.encode.proofs.put_slot.Goals as goal

pub bounds-numbers-1 : goal.bounds-numbers-1
bounds-numbers-1 c =
    still_long _ c.args.numbers.now c.put_object-kind.new.numbers c.requires (c.put_object-kind.auto.numbers ∙ length_part c.args.numbers.now object_place object_size (omega arith))

pub returns : goal.returns
returns c =
    slot_coded _ c.args.numbers.now c.put_object-kind.new.numbers c.requires (c.put_object-kind.auto.numbers ∙ length_part c.args.numbers.now object_place object_size (omega arith)) c.put_object-kind.ensures
