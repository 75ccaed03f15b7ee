-- Loading a saved table (document 02, request 02).
use Rattle.std.specs.Prelude.{cond, List, [], ◌∷◌, ℕ, ◌-◌}
use Rattle.gdi.specs.declared.GdiState.{GdiState}
use Rattle.gdi.specs.Record.{size}
use Rattle.sound.specs.Sound.{sizes_fit}
use Rattle.saved_table.specs.Held.{held_by, is_table}
use Rattle.place.specs.declared.Memory.TheVariants.{Panel as PanelMemory, Store}
use Rattle.place.specs.declared.SurfaceId.TheVariants.{Panel}
use Rattle.paint.specs.Paint.{blank, only, created}
use Rattle.plan.specs.Plan.{Plan, refuse}
use Rattle.plan.specs.Panel.{turned_black}

-- an accepted load: the loaded panel and all store past the stock bitmap turn black, with one mark of the panel
abbrev pub loaded : GdiState → Plan
loaded b = turned_black b (blank PanelMemory 0 (size b.width b.height) (only Panel) ∷ blank Store 2 (b.store_len - 2) created ∷ [])

-- 12 if the bytes are not exactly one table of a record sound except for the memory sizes; then 7 if its sizes do not fit
unfoldable pub load_table : GdiState → (bytes : List ℕ) → Plan
load_table b bytes = cond (is_table b bytes) (cond (sizes_fit (held_by b bytes)) (loaded (held_by b bytes)) (refuse 7 b)) (refuse 12 b)
