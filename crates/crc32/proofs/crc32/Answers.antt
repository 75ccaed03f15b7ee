-- The fold of the steps over the bytes is the definition's register.
use Rattle.std.proofs.Common.{◌≡◌, ◌∙◌, ap, rules, ℕ}
use Rattle.std.specs.List.{fold}
use Rattle.std.specs.Int.Bits.{bit_xor}
use Rattle.crc32.specs.Crc32.{byte_step, crc32}
use Rattle.crc32.proofs.Steps.{steps_fold}
use Rattle.crc32.proofs.crc32.Goals as goal

pub returns : goal.returns
unfolding crc32
returns c =
    let e : c.fold.result ≡ fold byte_step 0xFFFFFFFF c.args.bytes.now = search rules in
    ap (λ (r : ℕ). bit_xor r 0xFFFFFFFF) (e ∙ steps_fold 0xFFFFFFFF c.args.bytes.now)
