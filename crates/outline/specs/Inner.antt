-- Definitions that only inner functions cite: no exported contract reaches them.
-- An outline as the code draws it: four sides between the clipped edges of the box.
use Rattle.std.specs.Prelude.{Bool, ◌||◌, ℕ, ◌*◌, ◌≤◌, ◌<◌, ℤ, pos, ◌+ℤ◌, ◌-ℤ◌}
use Rattle.clip.specs.Clip.{nearest}
use Rattle.surface.proofs.Rows.{rect}
use Rattle.outline.specs.declared.Edges.{Edges}

-- the first and the last coordinate of x .. x + w, each with the one after it, clipped to 0 .. side
unfoldable pub edges_of : ℤ → ℤ → ℕ → Edges
edges_of x w side = record {
  from = nearest x side;
  second = nearest (x +ℤ pos 1) side;
  last = nearest (x +ℤ w -ℤ pos 1) side;
  to = nearest (x +ℤ w) side;
}

-- the four sides
abbrev pub sides : Edges → Edges → (c r : ℕ) → Bool
sides columns rows c r =
    rect columns.last columns.to rows.from rows.to c r
    || (rect columns.from columns.second rows.from rows.to c r
    || (rect columns.from columns.to rows.last rows.to c r
    || rect columns.from columns.to rows.from rows.second c r))

-- Edges that lie on a surface of that width and len bytes.
pub record EdgesFit (width len : ℕ) (columns rows : Edges) : Type 0 where
  pub some : 0 < width
  pub second_column : columns.second ≤ width
  pub last_column : columns.to ≤ width
  pub second_row : 2 * (rows.second * width) ≤ len
  pub last_row : 2 * (rows.to * width) ≤ len
