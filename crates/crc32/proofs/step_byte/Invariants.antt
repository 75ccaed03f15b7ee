-- the shifts that are left give the result
use Rattle.std.proofs.Common.{◌≡◌, ◌-◌}
use Rattle.crc32.specs.Crc32.{bit_steps, byte_step}
use Rattle.crc32.proofs.step_byte.Given as goal

abbrev pub invariant-loop : goal.invariant-loop
invariant-loop l = bit_steps (8 - l.counter) l.register ≡ byte_step l.c l.b
