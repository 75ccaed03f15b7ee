-- `handles::alloc_handle` meets its contract. Assumes nothing.
use Rattle.std.proofs.Common.{◌≡◌, ℕ, ◌+◌, ◌%◌, ap, sym, refl, ◌∙◌, arith}
use Rattle.numbers.specs.Layout.{next_handle_place}
use Rattle.numbers.specs.Block.{at}
use Rattle.numbers.specs.View.{view}
use Rattle.numbers.proofs.Seen.{record_length}
use Rattle.handles.proofs.Search.{hit, miss, end}
use Rattle.handles.proofs.alloc_handle.Goals as goal

pub bounds-numbers-6 : goal.bounds-numbers-6
bounds-numbers-6 c =
    omega (arith, record_length _ c.requires)

pub loop-k-init : goal.loop-k-init
unfolding view
loop-k-init c = refl

pub returns-then-is_free : goal.returns-then-is_free
returns-then-is_free c =
    sym (hit _ _ _ _ (omega arith) (sym c.is_free.ensures ∙ c.if-is_free.true)) ∙ c.loop-k.invariant

pub loop-k-preserved : goal.loop-k-preserved
loop-k-preserved c =
    sym (miss _ _ _ _ (omega arith) (sym c.is_free.ensures ∙ c.if-is_free.false)) ∙ c.loop-k.invariant

pub returns : goal.returns
returns c =
    let last : c.loop-k.k ≡ 270 = omega arith in
    ap (λ (k : ℕ). (at c.args.numbers.now next_handle_place + k) % 4294967296) (sym last)
    ∙ sym (end _ _ _ _ (omega arith)) ∙ c.loop-k.invariant
