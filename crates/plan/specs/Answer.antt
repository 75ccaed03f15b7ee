-- What a call answers: a number and values.
use Rattle.std.specs.Prelude.{Bool, false, List, [], ℕ, pos, length, Result, Ok, Err}
use Rattle.refusals.specs.declared.Refusal.{Refusal}
use Rattle.refusals.specs.Refusal.{code_of}
use Rattle.gdi.specs.declared.GdiObject.{GdiObject}
use Rattle.plan.specs.declared.Point.{Point}
use Rattle.plan.specs.declared.Answer.{Answer}
use Rattle.plan.specs.declared.Answer.TheVariants.{Handle, Deleted, Removed, NotRemoved, OldColor, OldAlign, OldMode, OldPosition, Drawn, Advance}

-- an object's record, or none
pub data Object : Type 0 where
  none : Object
  some : GdiObject → Object

-- An answer's parts: the refusal's number, 0 if the call was accepted; a handle, colour, alignment, advance or length; a flag; a
-- position; an object; the bytes of a saved table.
pub record Parts : Type 0 where
  pub number : ℕ
  pub value : ℕ
  pub flag : Bool
  pub position : Point
  pub object : Object
  pub bytes : List ℕ

abbrev pub origin : Point
origin = record { x = pos 0; y = pos 0 }

abbrev parts : ℕ → ℕ → Bool → Point → Object → Parts
parts n v f p o = record { number = n; value = v; flag = f; position = p; object = o; bytes = [] }

-- a refusal gives its number, with every other part 0, false or none
abbrev pub refused : ℕ → Parts
refused n = parts n 0 false origin none

-- an accepted call gives number 0 and its answer: a value, a flag, a position, an object, or nothing
abbrev pub answered : ℕ → Parts
answered v = parts 0 v false origin none

abbrev pub flagged : Bool → Parts
flagged f = parts 0 0 f origin none

abbrev pub placed : Point → Parts
placed p = parts 0 0 false p none

abbrev pub removed : GdiObject → Parts
removed o = parts 0 0 false origin (some o)

-- a save gives the table, and its length
abbrev pub saved : (table : List ℕ) → Parts
saved t = record { number = 0; value = length t; flag = false; position = origin; object = none; bytes = t }

abbrev pub done : Parts
done = parts 0 0 false origin none

-- the parts of each case of the code's answer, and of a refusal
abbrev pub parts_of : Result Answer Refusal → Parts
parts_of (Err r) = refused (code_of r)
parts_of (Ok (Handle h)) = answered h
parts_of (Ok (Deleted f)) = flagged f
parts_of (Ok (Removed o)) = removed o
parts_of (Ok NotRemoved) = done
parts_of (Ok (OldColor c)) = answered c.0
parts_of (Ok (OldAlign v)) = answered v
parts_of (Ok (OldMode f)) = flagged f
parts_of (Ok (OldPosition p)) = placed p
parts_of (Ok Drawn) = done
parts_of (Ok (Advance n)) = answered n
