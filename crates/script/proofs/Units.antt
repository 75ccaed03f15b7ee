-- Laws of the units of a text. Assumes nothing.
use mathlib.Core.List.{List, [], ◌∷◌, ◌++◌, append_assoc}
use mathlib.Core.Path.{◌≡◌, refl, sym, ◌∙◌, ap}
use Prim.Native.Nat.{ℕ, zero, suc, ◌+◌, ◌*◌, ◌<◌}
use native.Mathlib.Nat.{add-zero}
use native.Mathlib.Numerals.{add-one}
use native.Mathlib.Omega.{arith}
use lib.ListN.{get_or, length, drop, set}
use lib.Seq.{drop-cons, set_at}
use Rattle.bigendian.specs.BigEndian.{be16}
use Rattle.script.specs.Script.{units_in}

length_units : (s : List ℕ) (p n : ℕ) → length (units_in s p n) ≡ n
unfolding units_in
length_units s p zero = refl
length_units s p (suc n) = ap suc (length_units s (p + 2) n)

-- one more unit, at the end
units_more : (s : List ℕ) (p n : ℕ) → units_in s p (suc n) ≡ units_in s p n ++ (be16 s (p + 2 * n) ∷ [])
unfolding units_in
units_more s p zero = rw add-zero
units_more s p (suc n) =
    let e : p + 2 + 2 * n ≡ p + 2 * suc n = omega arith in
    ap (λ (l : List ℕ). be16 s p ∷ l) (units_more s (p + 2) n ∙ ap (λ (q : ℕ). units_in s (p + 2) n ++ (be16 s q ∷ [])) e)

-- one more unit is stored behind those at the front of u
pub units_next : (s : List ℕ) (p : ℕ) (u : List ℕ) (k : ℕ) {l : List ℕ} {v : ℕ} → k < length u → l ≡ units_in s p k ++ drop k u → v ≡ be16 s (p + 2 * k)
    → set l k v ≡ units_in s p (k + 1) ++ drop (k + 1) u
units_next s p u k {l} {v} lt e f =
    ap (λ (x : List ℕ). set x k v) (e ∙ ap (λ (x : List ℕ). units_in s p k ++ x) (drop-cons u k 0 lt))
    ∙ set_at (units_in s p k) (get_or u k 0) (drop (suc k) u) v k (length_units s p k)
    ∙ sym (rw (add-one, units_more s p k, ← f) (append_assoc (units_in s p k) (v ∷ []) (drop (suc k) u)))
