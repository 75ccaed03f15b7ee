-- `text::units_reached` meets its contract: its sums are exact, and `clamp` clips. Assumes nothing.
use Rattle.std.proofs.Common.{rules, ◌≡◌, ◌*◌, ◌/◌, ap, ℕ, pos, ◌+ℤ◌, ◌-ℤ◌}
use Rattle.clip.specs.Clip.{nearest}
use Rattle.text.proofs.Reach.{reached}
use Rattle.text.proofs.units_reached.Goals as goal

-- the clipped numbers of columns left of the surface, and before its right end
pub returns : goal.returns
returns c =
    let a = c.args in
    let from : c.clamp.result ≡ nearest (pos 0 -ℤ a.x) (6 * a.n) = search rules in
    let to : c.clamp-2.result ≡ nearest (pos a.width -ℤ a.x +ℤ pos 5) (6 * a.n) = search rules in
    reached a.x a.width a.n _ (ap (λ (k : ℕ). k / 6) from) (ap (λ (k : ℕ). k / 6) to)
