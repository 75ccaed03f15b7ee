-- An area is four coordinates, one behind another. Assumes nothing.
use Rattle.std.proofs.Common.{◌≡◌, ◌+◌, arith, rules}
use Rattle.std.proofs.lemmas.Grind.{common_steps}
use Rattle.script.specs.Script.{area_at}
use Rattle.script.proofs.reader.Reader.area.Goals as goal

pub returns-clause-read : goal.returns-clause-read
unfolding area_at
returns-clause-read c =
    let at = c.args.self.now.at in
    let second : c.i32-2.new.self.at ≡ at + 8 = grind (arith, common_steps) in
    let third : c.i32-3.new.self.at ≡ at + 12 = grind (arith, common_steps) in
    (grind (arith, common_steps), grind (arith, common_steps), search rules)
