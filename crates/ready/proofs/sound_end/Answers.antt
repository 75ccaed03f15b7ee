-- `ready::sound_end` meets its contract. Assumes nothing.
use mathlib.Core.Bool.{true≢false}
use mathlib.Core.Path.{sym, ◌∙◌}
use native.Mathlib.Omega.{arith}
use Rattle.arithmetic.proofs.Test.{together}
use Rattle.numbers.proofs.Seen.{screen_seen, count_seen, width_seen, height_seen}
use Rattle.well_formed.proofs.Tested.{head_long, head_few}
use Rattle.ready.proofs.Record.{no_end, end_if_apart, of_slots, slots_of, no_head}
use Rattle.ready.proofs.sound_end.Goals as goal
use Rattle.ready.proofs.sound_end.Goals.{then-not-is_head-via-then-not-is_head, then-not-is_head-via-else-not-is_head+then-not-is_side, then-not-is_head-via-else-not-is_head+else-not-is_side+then-not-is_side-2, then-not-is_head-via-else-not-is_head+else-not-is_side+else-not-is_side-2+then-not-is_positioned}

pub bounds-numbers-2 : goal.bounds-numbers-2
bounds-numbers-2 c =
    omega (arith, head_long c.args.numbers.now (sym c.if-not-is_head.ensures))

pub bounds-numbers-3 : goal.bounds-numbers-3
bounds-numbers-3 c =
    omega (arith, head_long c.args.numbers.now (sym c.if-not-is_head.ensures))

pub is_positioned-requires : goal.is_positioned-requires
is_positioned-requires c =
    omega (arith, head_long c.args.numbers.now (sym c.if-not-is_head.ensures))

pub returns-then-not-is_head : goal.returns-then-not-is_head
returns-then-not-is_head c =
    let l = c.args.numbers.now in
    no_end l (λ r s. elim c.then-not-is_head.branch [
      | then-not-is_head-via-then-not-is_head w ↦ no_head l (sym w.if-not-is_head.ensures) r
      | then-not-is_head-via-else-not-is_head+then-not-is_side w ↦ true≢false (sym (rw (width_seen l) at s.width) ∙ sym w.if-not-is_side.ensures)
      | then-not-is_head-via-else-not-is_head+else-not-is_side+then-not-is_side-2 w ↦ true≢false (sym (rw (height_seen l) at s.height) ∙ sym w.if-not-is_side-2.ensures)
      | then-not-is_head-via-else-not-is_head+else-not-is_side+else-not-is_side-2+then-not-is_positioned w ↦ true≢false (sym (rw (screen_seen l) at s.screen) ∙ sym w.if-not-is_positioned.ensures)
    ])

pub scan_slots-requires : goal.scan_slots-requires
scan_slots-requires c =
    let l = c.args.numbers.now in
    record {
      numbers_len = head_long l (sym c.if-not-is_head.ensures);
      count_place_bound = head_few l (sym c.if-not-is_head.ensures);
    }

pub returns-in_err-scan : goal.returns-in_err-scan
returns-in_err-scan c =
    let l = c.args.numbers.now in
    c.from_residual.ensures ∙ no_end l (λ r s. true≢false (sym (together (slots_of l (sym c.if-not-is_head.ensures) r) s.slots) ∙ c.in_err-scan.ensures))

pub handles_differ-requires-clause-numbers_value : goal.handles_differ-requires-clause-numbers_value
handles_differ-requires-clause-numbers_value c =
    of_slots c.args.numbers.now (sym c.if-not-is_head.ensures) c.in_ok-scan.ensures.slots

pub returns : goal.returns
returns c =
    let l = c.args.numbers.now in
    let head = sym c.if-not-is_head.ensures in
    c.then_some.ensures
    ∙ end_if_apart l (of_slots l head c.in_ok-scan.ensures.slots) (rw (count_seen l) (head_few l head)) (rw (width_seen l) (sym c.if-not-is_side.ensures)) (rw (height_seen l) (sym c.if-not-is_side-2.ensures))
    (rw (screen_seen l) (sym c.if-not-is_positioned.ensures)) c.in_ok-scan.ensures.fit c.handles_differ.ensures c.in_ok-scan.ensures.end
