-- A blit's numbers, as the code takes them from an area and a point. Assumes nothing.
use mathlib.Core.Path.{◌≡◌}
use Prim.Native.Nat.{ℕ, ◌≤◌}
use Rattle.surface.proofs.Accepted.{InOrder}
use Rattle.blit.specs.declared.Blit.{Blit}
use Rattle.plan.specs.declared.Area.{Area}
use Rattle.plan.specs.declared.Point.{Point}
use Rattle.transfer.specs.Inner.{blit_numbers}

module _ (width height : ℕ) (a : Area) (f : Point) (src-w src-h : ℕ) where
  -- a surface in order, by the sides among the numbers
  pub sides_read : {b : Blit} {len : ℕ} → b ≡ blit_numbers width height a f src-w src-h → InOrder width height len → src-w ≤ 4096 → InOrder b.width b.height len × (b.src_w ≤ 4096)
  sides_read e o h = rw e (o, h)
