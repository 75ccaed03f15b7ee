-- `ready::is_absent` meets its contract. Assumes nothing.
use mathlib.Core.Bool.{Bool, not}
use mathlib.Core.Path.{refl, ◌∙◌}
use Prim.Native.Nat.{ℕ, ◌+◌, ◌≤◌}
use native.Mathlib.Omega.{arith}
use lib.Dec.{eqb}
use lib.ListN.{length}
use borrow.Author.Rules.{rules}
use borrow.Author.Tests.{tests}
use Rattle.std.proofs.lemmas.Iterator.{YieldsList-from_range, serves_from_Range}
use Rattle.std.proofs.lemmas.Iterator.Search.{all_from_yields_List}
use Rattle.numbers.specs.Layout.{slot_size, slot_place}
use Rattle.numbers.specs.Block.{at}
use Rattle.sound.proofs.Slots.{slot_room}
use Rattle.ready.proofs.Handles.{each_below, absent_seen}
use Rattle.ready.proofs.is_absent.Goals as goal

pub bounds-numbers-k : goal.bounds-numbers-k
bounds-numbers-k c =
    omega (arith, slot_room _ c.requires.numbers_value _ c.requires.k_bound)

pub all-requires-clause-callable : goal.all-requires-clause-callable
all-requires-clause-callable c =
    let long : slot_place c.args.k + slot_size ≤ length c.args.numbers.now = slot_room _ c.requires.numbers_value _ c.requires.k_bound in
    serves_from_Range (λ x q k. search (rules, tests)) (λ x p q. search rules)

pub returns : goal.returns
returns c =
    let l = c.args.numbers.now in
    let k = c.args.k in
    let differs : ℕ → Bool = λ j. not (eqb (at l (slot_place j)) (at l (slot_place k))) in
    all_from_yields_List differs _ _ c.all.result c.all.ensures.ran (YieldsList-from_range 0 k k refl (omega arith)) (λ x b q e. search (rules, tests))
    ∙ each_below k differs ∙ absent_seen l c.requires.numbers_value k c.requires.k_bound
