-- `ready::is_sound` meets its contract. Assumes nothing.
use native.Mathlib.Omega.{arith}
use Rattle.std.proofs.lemmas.Bool.Decides.{nat_tests}
use Rattle.numbers.proofs.Seen.{record_length}
use Rattle.ready.proofs.Record.{ends_at, area_seen, no_end_unsound, sound_tested}
use Rattle.ready.proofs.is_sound.Goals as goal

pub returns-in_default : goal.returns-in_default
returns-in_default c =
    no_end_unsound c.args.numbers.now c.in_default.ensures

pub bounds-numbers-0 : goal.bounds-numbers-0
bounds-numbers-0 c =
    omega (arith, record_length c.args.numbers.now (ends_at c.args.numbers.now c.in-Some.ensures).is_record_lem)

pub bounds-numbers-1 : goal.bounds-numbers-1
bounds-numbers-1 c =
    omega (arith, record_length c.args.numbers.now (ends_at c.args.numbers.now c.in-Some.ensures).is_record_lem)

pub bounds-numbers-2 : goal.bounds-numbers-2
bounds-numbers-2 c =
    omega (arith, record_length c.args.numbers.now (ends_at c.args.numbers.now c.in-Some.ensures).is_record_lem)

pub bounds-numbers-3 : goal.bounds-numbers-3
bounds-numbers-3 c =
    omega (arith, record_length c.args.numbers.now (ends_at c.args.numbers.now c.in-Some.ensures).is_record_lem)

pub overflow_mul-w-then-store_len-le-MAX_MEMORY : goal.overflow_mul-w-then-store_len-le-MAX_MEMORY
overflow_mul-w-then-store_len-le-MAX_MEMORY c =
    omega (arith, area_seen (ends_at c.args.numbers.now c.in-Some.ensures))

pub returns-then-w-h : goal.returns-then-w-h
returns-then-w-h c =
    let e = sound_tested c.args.numbers.now c.in-Some.ensures in
    grind (arith, nat_tests)

pub returns-else-w-h : goal.returns-else-w-h
returns-else-w-h c =
    let e = sound_tested c.args.numbers.now c.in-Some.ensures in
    grind (arith, nat_tests)
