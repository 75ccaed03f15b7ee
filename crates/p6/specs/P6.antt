-- The P6 picture format, as Netpbm's page on PPM has it: how a picture is written.
use Rattle.std.specs.Prelude.{cond, List, [], ◌∷◌, ◌++◌, ℕ, zero, suc, ◌+◌, ◌*◌, ◌/◌, ◌%◌, ltb, length}

-- n in ASCII decimal, most significant digit first, with k digits at most before the last
unfoldable pub digits : (k n : ℕ) → List ℕ
digits zero n = (48 + n % 10) ∷ []
digits (suc k) n = cond (ltb n 10) [] (digits k (n / 10)) ++ ((48 + n % 10) ∷ [])

-- n in ASCII decimal, with no leading zero
abbrev pub decimal : ℕ → List ℕ
decimal n = digits n n

-- a line `P6`, a line with the sides, a line `255`
unfoldable pub header : (width height : ℕ) → List ℕ
header w h = (80 ∷ 54 ∷ 10 ∷ []) ++ (decimal w ++ ((32 ∷ []) ++ (decimal h ++ (10 ∷ 50 ∷ 53 ∷ 53 ∷ 10 ∷ []))))

abbrev pub p6 : (width height : ℕ) → (samples : List ℕ) → List ℕ
p6 w h samples = header w h ++ samples

-- the length of the picture
abbrev pub ppm_length : (width height : ℕ) → ℕ
ppm_length w h = length (header w h) + 3 * (w * h)
