-- Definitions that only inner functions cite: no exported contract reaches them.
-- The store without an object's pixels.
use Rattle.std.specs.Prelude.{List, ℕ}
use Rattle.gdi.specs.declared.GdiState.{GdiState}
use Rattle.gdi.specs.Record.{bytes_of}
use Rattle.gdi.specs.Lookup.{object_at}
use Rattle.sound.specs.Sound.{start_of, used}
use Rattle.memory.specs.Gap.{closed_up}

-- the store m without the pixels of object i: those of later objects move down
abbrev pub without_pixels : GdiState → (i : ℕ) → (m : List ℕ) → List ℕ
without_pixels b i m = closed_up 0 m (start_of b i) (bytes_of (object_at b i)) (used b)
