-- `replay::session::perform_all` is safe and ends. The invariant: the numbers, the memories and the units keep their lengths. The measure is the rest of the script.
use Rattle.std.proofs.Common.{◌≡◌, ◌-◌, length}
use Rattle.replay.proofs.session.perform_all.Given as goal

abbrev pub invariant-loop-at : goal.invariant-loop-at
invariant-loop-at g l =
    (length l.device ≡ length l.initial.device)
    × ((length l.panel ≡ length l.initial.panel) × ((length l.store ≡ length l.initial.store) × (length l.units ≡ 70000)))

abbrev pub decreases-loop-at : goal.decreases-loop-at
decreases-loop-at g l = length l.s - l.at
