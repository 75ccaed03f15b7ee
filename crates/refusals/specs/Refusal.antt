-- The numbers of the refusals.
use Rattle.std.specs.Prelude.{ℕ, Result, Ok, Err}
use Rattle.refusals.specs.declared.Refusal.{Refusal}
use Rattle.refusals.specs.declared.Refusal.TheVariants.{NoDc, NoSurface, NoSourceDc, NoSourceSurface, TooManyObjects, Side, TooShort, Length, UnsoundRecord, TextTooLong, Position, Table, OutputTooShort, NoCall}

-- the number of a refusal
abbrev pub code_of : Refusal → ℕ
code_of NoDc = 1
code_of NoSurface = 2
code_of NoSourceDc = 3
code_of NoSourceSurface = 4
code_of TooManyObjects = 5
code_of Side = 6
code_of TooShort = 7
code_of Length = 8
code_of UnsoundRecord = 9
code_of TextTooLong = 10
code_of Position = 11
code_of Table = 12
code_of OutputTooShort = 13
code_of NoCall = 255

-- the number with which a result is refused, 0 if it is accepted
abbrev pub number_in : {A : Type 0} → Result A Refusal → ℕ
number_in (Ok a) = 0
number_in (Err r) = code_of r
