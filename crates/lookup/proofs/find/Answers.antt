-- `lookup::find` meets its contract. Assumes nothing.
use mathlib.Core.Path.{sym, ◌∙◌}
use native.Mathlib.Omega.{arith}
use borrow.Author.Rules.{rules}
use Rattle.gdi.proofs.Scan.{hit, miss, end}
use Rattle.numbers.specs.Layout.{count_place}
use Rattle.numbers.proofs.Seen.{record_length, record_count, handle_seen}
use Rattle.lookup.proofs.Found.{scan_start}
use Rattle.lookup.proofs.find.Goals as goal

pub bounds-numbers-8 : goal.bounds-numbers-8
bounds-numbers-8 c =
    omega (arith, record_length _ c.requires)

pub overflow_cast-n : goal.overflow_cast-n
overflow_cast-n c =
    omega (arith, c.shared_slice_known-1.given count_place)

pub loop-i-init : goal.loop-i-init
loop-i-init c =
    (search rules, (record_count _ c.requires, (record_length _ c.requires, scan_start _ _)))

pub returns-then-numbers-i : goal.returns-then-numbers-i
returns-then-numbers-i c =
    sym (hit _ _ _ _ c.loop-i-test.true (handle_seen _ c.requires _ c.loop-i-test.true ∙ c.if-numbers-i.true)) ∙ c.loop-i.invariant.1.1.1

pub loop-i-preserved : goal.loop-i-preserved
loop-i-preserved c =
    (search rules, (search rules, (search rules, sym (miss _ _ _ _ c.loop-i-test.true (λ e. c.if-numbers-i.false (sym (handle_seen _ c.requires _ c.loop-i-test.true) ∙ e))) ∙ c.loop-i.invariant.1.1.1)))

pub returns : goal.returns
returns c =
    sym (end _ _ _ _ c.loop-i-test.false) ∙ c.loop-i.invariant.1.1.1
