-- `outline::edges_of` meets its contract: its sums are exact, and `clamp` clips. Assumes nothing.
use Rattle.std.proofs.Common.{rules, ◌≡◌, ◌+ℤ◌, ◌-ℤ◌, pos}
use Rattle.clip.specs.Clip.{nearest}
use Rattle.outline.specs.Inner.{edges_of}
use Rattle.outline.proofs.edges_of.Goals as goal

-- each edge is the clipped sum
pub returns : goal.returns
unfolding edges_of
returns c =
    let a = c.args in
    let second : c.clamp-2.result ≡ nearest (a.x +ℤ pos 1) a.side = search rules in
    let to : c.clamp-4.result ≡ nearest (a.x +ℤ a.w) a.side = search rules in
    let last : c.clamp-3.result ≡ nearest (a.x +ℤ a.w -ℤ pos 1) a.side = search rules in
    search rules
