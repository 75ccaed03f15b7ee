-- What an operation does to a surface that is one struct.
use Rattle.std.specs.Prelude.{List, ℕ}
use Rattle.surface_struct.specs.declared.Surface.{Surface}

-- a relation of a surface's sides, its bytes, an answer and the bytes afterwards, at the sides and bytes of s
abbrev pub On : {A : Type 0} → Surface → ((width height : ℕ) → (m : List ℕ) → A → (m' : List ℕ) → Type 0) → A → (m' : List ℕ) → Type 0
On s R = R s.width s.height s.pixels.now
