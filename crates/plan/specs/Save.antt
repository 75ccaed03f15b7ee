-- Saving the table of a record (document 02, request 02).
use Rattle.std.specs.Prelude.{cond, ℕ, leb, length}
use Rattle.gdi.specs.declared.GdiState.{GdiState}
use Rattle.sound.specs.Sound.{is_sound}
use Rattle.saved_table.specs.Table.{saved_table}
use Rattle.plan.specs.Answer.{saved}
use Rattle.plan.specs.Plan.{Plan, record_only, refuse}

-- Saving answers the length; pixels aren't saved. 9 if the record is unsound, then 13 if the output, which has so many bytes, is
-- shorter than the table. It takes no memory, so 8 is not asked; and it changes nothing.
unfoldable pub save_table : GdiState → (room : ℕ) → Plan
save_table b n = cond (is_sound b) (cond (leb (length (saved_table b)) n) (record_only b (saved (saved_table b))) (refuse 13 b)) (refuse 9 b)
