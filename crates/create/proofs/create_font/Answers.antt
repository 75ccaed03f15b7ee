-- `create::create_font` meets its contract. Assumes nothing.
use mir.Syntax.{w32}
use mir.ValLaws.{to_z-of_z}
use Rattle.create.proofs.create_font.Goals as goal

pub returns : goal.returns
returns c =
    rw (← to_z-of_z w32 c.args.height c.ranges.height) c.make.ensures
