-- `place::frame` meets its contract. Assumes nothing.
use Rattle.place.proofs.Numbers.{frame_bitmap, frame_other}
use Rattle.place.proofs.frame.Goals as goal

pub returns-then-numbers-p-ne1 : goal.returns-then-numbers-p-ne1
returns-then-numbers-p-ne1 c =
    frame_other c.args.numbers.now c.args.p c.args.start c.if-numbers-p-ne1.true

pub returns : goal.returns
returns c =
    frame_bitmap c.args.numbers.now c.args.p c.args.start c.if-numbers-p-ne1.false
