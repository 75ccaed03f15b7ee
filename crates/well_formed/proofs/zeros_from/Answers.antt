-- `well_formed::zeros_from` meets its contract: the combined bits are 0 exactly if the numbers are. Assumes nothing.
use mathlib.Core.Path.{◌∙◌, ap}
use Prim.Native.Nat.{◌-◌}
use lib.Bits.{bit_or}
use lib.Dec.{eqb}
use borrow.Author.Rules.{rules}
use borrow.Author.Tests.{tests}
use Rattle.std.proofs.lemmas.Iterator.{YieldsList-from_slice}
use Rattle.std.proofs.lemmas.Iterator.Consumers.{fold_from_yields_List}
use Rattle.words.specs.Parts.{part}
use Rattle.numbers.specs.Layout.{object_size}
use Rattle.well_formed.proofs.Tested.{zeros_combined}
use Rattle.well_formed.proofs.zeros_from.Goals as goal

pub returns : goal.returns
returns c =
    let bits = fold_from_yields_List _ bit_or 0 c.fold.result c.fold.ensures.ran (YieldsList-from_slice (part c.args.numbers.now c.args.k (object_size - c.args.k)) c.iter.ensures.rest) (λ a x b q k. search (rules, tests)) in
    ap (λ n. eqb n 0) bits ∙ zeros_combined c.args.numbers.now c.args.k c.requires.0 c.requires.1
