-- Refusals of the operations on lent bytes, and their answers.
use Rattle.std.specs.Prelude.{Bool, false, ◌&&◌, cond, List, ◌≡◌, ℕ, ◌*◌, leb, eqb, Result, Ok, Err}
use Rattle.refusals.specs.declared.Refusal.{Refusal}
use Rattle.refusals.specs.Refusal.{code_of}
use Rattle.surface.specs.declared.Drawn.{Drawn}
use Rattle.surface.specs.declared.Advance.{Advance}

-- a surface's side: 1 to 4,096
abbrev pub side : ℕ → Bool
side n = leb 1 n && leb n 4096

-- a blit's source: 0 to 4,096
abbrev pub source_side : ℕ → Bool
source_side n = leb n 4096

-- 6 if a side is outside its limits, then 8 if the bytes are not 2·w·h long; 0 if accepted
unfoldable pub refusal_for : (sides : Bool) → (width height len : ℕ) → ℕ
refusal_for sides width height len = cond sides (cond (eqb len (2 * (width * height))) 0 8) 6

abbrev pub refusal : (width height len : ℕ) → ℕ
refusal width height len = refusal_for (side width && side height) width height len

-- the same with a source
abbrev pub refusal_from : (width height src-w src-h len : ℕ) → ℕ
refusal_from width height src-w src-h len = refusal_for ((side width && side height) && (source_side src-w && source_side src-h)) width height len

-- the answer of a drawing: the refusal's number, or 0 and whether it made a dirty mark
abbrev pub drawn : Result Bool Refusal → Drawn
drawn (Ok marked) = record { refusal = 0; marked = marked }
drawn (Err r) = record { refusal = code_of r; marked = false }

-- the answer of a text: the refusal's number, or 0 and its advance
abbrev pub advanced : Result ℕ Refusal → Advance
advanced (Ok advance) = record { refusal = 0; advance = advance }
advanced (Err r) = record { refusal = code_of r; advance = 0 }

-- the bytes after an operation: a refusal changes none
abbrev pub unless_refused : ℕ → (new old : List ℕ) → List ℕ
unless_refused number new old = cond (eqb number 0) new old

-- What an operation ensures: its answer r, and the bytes afterwards, which are those drawn unless it is refused.
pub record Done {A : Type 0} (expected : A) (number : ℕ) (drawn before : List ℕ) (r : A) (after : List ℕ) : Type 0 where
  pub answer : r ≡ expected
  pub bytes : after ≡ unless_refused number drawn before

-- for a drawing: a refusal answers its number and no mark
abbrev pub Drew : (number : ℕ) → (mark : Bool) → (drawn before : List ℕ) → Drawn → (after : List ℕ) → Type 0
Drew number mark = Done (record { refusal = number; marked = eqb number 0 && mark }) number

-- for a text: a refusal answers its number and no advance
abbrev pub Advanced : (number advance : ℕ) → (drawn before : List ℕ) → Advance → (after : List ℕ) → Type 0
Advanced number advance = Done (record { refusal = number; advance = cond (eqb number 0) advance 0 }) number
