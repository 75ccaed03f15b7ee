-- None of the 760 glyph rows has ink beyond the fifth column: antt computes one test over the table, and each row
-- follows. Assumes nothing.
use mathlib.Core.Bool.{Bool, true, false, ◌&&◌}
use mathlib.Core.List.{List, [], ◌∷◌}
use mathlib.Core.Path.{◌≡◌, refl}
use Prim.Native.Nat.{ℕ, zero, suc, ◌-◌, ◌/◌, ◌%◌, ◌^◌, ◌≤◌}
use native.Mathlib.Decide.{ℕ_discrete}
use native.Mathlib.Omega.{arith}
use lib.Dec.{ltb, eqb}
use lib.ListN.{get_or}
use borrow.Author.Tests.{le-ltb, eqb-true}
use Rattle.arithmetic.proofs.Test.{both}
use Rattle.font.specs.Font.{glyphs, glyph_of, ink_at, inked}

-- the three lowest bits of a row are 0
narrow : List ℕ → Bool
narrow [] = true
narrow (v ∷ vs) = eqb (v % 8) 0 && narrow vs

all_narrow : List (List ℕ) → Bool
all_narrow [] = true
all_narrow (g ∷ gs) = narrow g && all_narrow gs

at_row : (g : List ℕ) → narrow g ≡ true → (j : ℕ) → get_or g j 0 % 8 ≡ 0
unfolding narrow
at_row [] t j = refl
at_row (v ∷ vs) t zero = eqb-true (v % 8) 0 (both (eqb (v % 8) 0) (narrow vs) t).0
at_row (v ∷ vs) t (suc j) = at_row vs (both (eqb (v % 8) 0) (narrow vs) t).1 j

at_glyph : (gs : List (List ℕ)) → all_narrow gs ≡ true → (i : ℕ) → narrow (get_or gs i []) ≡ true
unfolding all_narrow narrow
at_glyph [] t i = refl
at_glyph (g ∷ gs) t zero = (both (narrow g) (all_narrow gs) t).0
at_glyph (g ∷ gs) t (suc i) = at_glyph gs (both (narrow g) (all_narrow gs) t).1 i

tested : all_narrow glyphs ≡ true
unfolding all_narrow narrow glyphs
tested = refl

-- a row whose three lowest bits are 0 has no ink from the sixth column on
no_ink : (v k : ℕ) → v % 8 ≡ 0 → 5 ≤ k → ink_at v k ≡ false
unfolding ink_at
no_ink v k e h = by (ℕ_discrete k 5) (ℕ_discrete k 6) (ℕ_discrete k 7)
  where
    even : (a : ℕ) → a % 2 ≡ 0 → eqb (a % 2) 1 ≡ false
    even a q = rw q

    by : Dec (k ≡ 5) → Dec (k ≡ 6) → Dec (k ≡ 7) → (ltb k 8 && eqb (v / 2 ^ (7 - k) % 2) 1) ≡ false
    by (yes p) q r = rw p (even (v / 4) (omega arith))
    by (no p) (yes q) r = rw q (even (v / 2) (omega arith))
    by (no p) (no q) (yes r) = rw r (even (v / 1) (omega arith))
    by (no p) (no q) (no r) = rw (le-ltb k 8 (omega arith))

-- no glyph has ink beyond the fifth column
pub five_columns : (i k j : ℕ) → 5 ≤ k → inked i k j ≡ false
five_columns i k j h = no_ink (get_or (glyph_of i) j 0) k (at_row (glyph_of i) (at_glyph glyphs tested i) j) h
