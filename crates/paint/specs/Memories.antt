-- The two memories, and a surface's part of one of them.
use Rattle.std.specs.Prelude.{Bool, false, ◌&&◌, List, [], ℕ, ◌+◌, ◌*◌, ltb}
use Rattle.words.specs.Words.{word}
use Rattle.words.specs.Parts.{part, with_part}
use Rattle.gdi.specs.Record.{size}
use Rattle.place.specs.declared.Memory.{Memory}
use Rattle.place.specs.declared.Memory.TheVariants.{Panel, Store}
use Rattle.place.specs.declared.Place.{Place}
use Rattle.place.specs.declared.Place.TheVariants.{Nowhere, At}

pub record Memories : Type 0 where
  pub panel : List ℕ
  pub store : List ℕ

abbrev pub memories : (panel store : List ℕ) → Memories
memories p s = record { panel = p; store = s }

abbrev pub memory_of : Memories → Memory → List ℕ
memory_of ms Panel = ms.panel
memory_of ms Store = ms.store

abbrev pub with_memory : Memories → Memory → List ℕ → Memories
with_memory ms Panel l = memories l ms.store
with_memory ms Store l = memories ms.panel l

-- a surface's width; 0 where there is none
abbrev pub width_of : Place → ℕ
width_of Nowhere = 0
width_of (At m p w h) = w

-- and its height
abbrev pub height_of : Place → ℕ
height_of Nowhere = 0
height_of (At m p w h) = h

-- whether the surface at this place has a pixel at x, y
abbrev pub has_pixel : Place → (x y : ℕ) → Bool
has_pixel Nowhere x y = false
has_pixel (At m p w h) x y = ltb x w && ltb y h

-- a surface's bytes
abbrev pub pixels_at : Memories → Place → List ℕ
pixels_at ms Nowhere = []
pixels_at ms (At m p w h) = part (memory_of ms m) p (size w h)

-- the memories with a surface's bytes replaced by f of them
abbrev pub over : Place → (List ℕ → List ℕ) → Memories → Memories
over Nowhere f ms = ms
over (At m p w h) f ms = with_memory ms m (with_part (memory_of ms m) p (size w h) (f (part (memory_of ms m) p (size w h))))

-- the colour of the pixel at x, y
abbrev pub colour_at : Memories → Place → (x y : ℕ) → ℕ
colour_at ms at x y = word (pixels_at ms at) (x + y * width_of at)
