-- Definitions that only inner functions cite: no exported contract reaches them.
-- A blit as the code makes it, between two places.
use Rattle.std.specs.Prelude.{List, ◌⊎◌, ◌≡◌, ℕ, ◌+◌, ◌*◌, ◌/◌, ◌%◌, ◌≤◌}
use Rattle.arithmetic.specs.Integer.{positive}
use Rattle.words.specs.Words.{painted, word}
use Rattle.words.specs.Parts.{part, with_part}
use Rattle.rop3.specs.Rop3.{applied}
use Rattle.clip_blit.specs.Blit.{source_at, drawn_at}
use Rattle.surface.specs.Region.{words_of}
use Rattle.blit.specs.declared.Blit.{Blit}
use Rattle.blit.specs.Blit.{blit_of}
use Rattle.gdi.specs.Record.{size}
use Rattle.place.specs.declared.Memory.TheVariants.{Panel, Store}
use Rattle.place.specs.declared.Place.{Place}
use Rattle.place.specs.declared.Place.TheVariants.{Nowhere, At}
use Rattle.plan.specs.declared.Area.{Area}
use Rattle.plan.specs.declared.Point.{Point}
use Rattle.paint.specs.Memories.{Memories, width_of, height_of, pixels_at, over}

-- Two surfaces of one memory: each begins at a word, and they are the same surface or do not overlap.
pub record SameOrApart (p w h q x y : ℕ) : Type 0 where
  pub whole : 2 * (p / 2) ≡ p
  pub whole_source : 2 * (q / 2) ≡ q
  pub apart : ((p ≡ q) × ((w ≡ x) × (h ≡ y))) ⊎ ((p + size w h ≤ q) ⊎ (q + size x y ≤ p))

-- two places in one memory hold the same surface or do not overlap (`SameOrApart`); nothing is required of other places
abbrev pub PlacesApart : Place → Place → Type 0
PlacesApart Nowhere v = Unit
PlacesApart (At Panel p w h) Nowhere = Unit
PlacesApart (At Panel p w h) (At Panel q x y) = SameOrApart p w h q x y
PlacesApart (At Panel p w h) (At Store q x y) = Unit
PlacesApart (At Store p w h) Nowhere = Unit
PlacesApart (At Store p w h) (At Panel q x y) = Unit
PlacesApart (At Store p w h) (At Store q x y) = SameOrApart p w h q x y

-- the bytes m of a surface of that width after a blit from the bytes src of another, or from its own
abbrev pub blit_part : Area → (from : Point) → (table pat : ℕ) → (src : List ℕ) → (src-w src-h width : ℕ) → (m : List ℕ) → List ℕ
blit_part a p t c src src-w src-h width m =
    painted (words_of width (drawn_at a.x a.y p.x p.y a.w a.h src-w src-h))
    (λ i. applied t c (word src (positive (source_at a.x p.x (i % width)) + positive (source_at a.y p.y (i / width)) * src-w)) (word m i)) m

-- a memory m after a blit to its surface at byte p from the surface at byte q of the memory src
abbrev pub blit_into : (p width height : ℕ) → Area → (from : Point) → (table pat : ℕ) → (src : List ℕ) → (q src-w src-h : ℕ) → (m : List ℕ) → List ℕ
blit_into p width height a z t c src q src-w src-h m =
    with_part m p (size width height) (blit_part a z t c (part src q (size src-w src-h)) src-w src-h width (part m p (size width height)))

-- a blit's numbers, from an area and a point
abbrev pub blit_numbers : (width height : ℕ) → Area → (from : Point) → (src-w src-h : ℕ) → Blit
blit_numbers width height a f src-w src-h = blit_of width height a.x a.y f.x f.y a.w a.h src-w src-h

-- the memories after a blit from the surface at src to the surface at
abbrev pub transferred : (at src : Place) → Area → (from : Point) → (table pat : ℕ) → Memories → Memories
transferred at src a p t c ms = over at (blit_part a p t c (pixels_at ms src) (width_of src) (height_of src) (width_of at)) ms
