-- A line's 160 bytes: the characters so far, and zeros behind them.
use Rattle.std.specs.Prelude.{List, ℕ, ◌≡◌, ◌-◌, ◌≤◌, ◌++◌, length, take, drop, replicate}
use Rattle.std.proofs.Common.{◌∙◌, sym, ap, length-take-le, take-append-drop}

-- the zeros behind the characters of a text
abbrev pub padding : ℕ → List ℕ
padding n = replicate (160 - n) 0

-- n of the bytes l are characters
abbrev pub IsPadded : ℕ → List ℕ → Type 0
IsPadded n l = (n ≤ length l) × ((length l ≡ 160) × (drop n l ≡ padding n))

-- the bytes are the characters with their padding
pub text_padded : (n : ℕ) (l : List ℕ) → IsPadded n l → take n l ++ padding (length (take n l)) ≡ l
text_padded n l h =
    ap (λ (k : ℕ). take n l ++ padding k) (length-take-le n l h.0)
    ∙ ap (λ (r : List ℕ). take n l ++ r) (sym h.1.1)
    ∙ take-append-drop n l
