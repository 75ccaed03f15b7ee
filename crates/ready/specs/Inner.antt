-- Definitions that only inner functions cite: no exported contract reaches them.
-- A record that is sound except for the memory sizes, and where its pixels end.
use Rattle.std.specs.Prelude.{cond, ◌&&◌, List, Option, Some, None, ℕ}
use Rattle.numbers.specs.View.{view, is_record}
use Rattle.sound.specs.Sound.{sound_except_sizes, used}

-- the bytes of the store that hold pixels; none if the numbers are no record, or one that is unsound not only for its sizes
unfoldable pub sound_end : (l : List ℕ) → Option ℕ
sound_end l = cond (is_record l && sound_except_sizes (view l)) (Some (used (view l))) None
