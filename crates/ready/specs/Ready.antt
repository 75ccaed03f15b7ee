-- The refusals that every call after open shares.
use Rattle.std.specs.Prelude.{cond, ◌&&◌, List, ℕ, eqb}
use Rattle.gdi.specs.declared.GdiState.{GdiState}
use Rattle.numbers.specs.View.{view, is_record}
use Rattle.sound.specs.Sound.{is_sound}

-- 9 record unsound; then 8 a lent memory's length is not the record's; 0 if the record is ready
unfoldable pub common_refusal : GdiState → (panel_len store_len : ℕ) → ℕ
common_refusal b n k = cond (is_sound b) (cond (eqb n b.panel_len && eqb k b.store_len) 0 8) 9

-- the same of a flat record: 9 if the numbers are not a record
abbrev pub common_refusal_on : (l : List ℕ) → (panel_len store_len : ℕ) → ℕ
common_refusal_on l n k = cond (is_record l) (common_refusal (view l) n k) 9

-- the same where only the panel memory is lent: the store's length is the record's own
abbrev pub panel_refusal_on : (l : List ℕ) → (panel_len : ℕ) → ℕ
panel_refusal_on l n = common_refusal_on l n (view l).store_len
