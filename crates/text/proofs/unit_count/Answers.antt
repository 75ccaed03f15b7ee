-- `text::unit_count` meets its contract. Assumes nothing.
use Rattle.std.proofs.Common.{rules, ◌≡◌, ◌≤◌, ◌<◌, ℕ, length, get_or}
use Rattle.text.proofs.Units.{count_is}
use Rattle.text.proofs.unit_count.Goals as goal

-- no unit before the position is 0, and the one there is
pub returns : goal.returns
returns c =
    let us = c.args.s.now in
    let n = c.unwrap_or.result in
    let within : n ≤ length us = search rules in
    let before : (k : ℕ) → k < n → get_or us k 0 ≡ 0 → ⊥ = search rules in
    let found : n < length us → get_or us n 0 ≡ 0 = search rules in
    (count_is us n within before found, within)
