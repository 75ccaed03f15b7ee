-- `ready::all_pairs_differ` meets its contract. Assumes nothing.
use mathlib.Core.Bool.{Bool}
use mathlib.Core.Path.{refl, ◌∙◌}
use Prim.Native.Nat.{ℕ}
use native.Mathlib.Omega.{arith}
use borrow.Author.Rules.{rules}
use borrow.Author.Tests.{tests}
use Rattle.std.proofs.lemmas.Iterator.{YieldsList-from_range}
use Rattle.std.proofs.lemmas.Iterator.Search.{all_from_yields_List}
use Rattle.gdi.specs.Lookup.{handle_at}
use Rattle.numbers.specs.Layout.{count_place}
use Rattle.numbers.specs.Block.{at}
use Rattle.numbers.specs.View.{view}
use Rattle.numbers.proofs.Seen.{record_length}
use Rattle.sound.specs.Sound.{absent}
use Rattle.ready.proofs.Handles.{each_below, distinct_seen}
use Rattle.ready.proofs.all_pairs_differ.Goals as goal

pub bounds-numbers-8 : goal.bounds-numbers-8
bounds-numbers-8 c =
    omega (arith, record_length _ c.requires)

pub returns : goal.returns
returns c =
    let l = c.args.numbers.now in
    let n = at l count_place in
    let differs : ℕ → Bool = λ k. absent (view l).objects k (handle_at (view l).objects k) in
    all_from_yields_List differs _ _ c.all.result c.all.ensures.ran (YieldsList-from_range 0 n n refl (omega arith)) (λ x b q e. search (rules, tests))
    ∙ each_below n differs ∙ distinct_seen l c.requires
