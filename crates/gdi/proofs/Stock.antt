-- The cases of a stock handle, and the machine's test of keys. Assumes nothing.
use mathlib.Core.Bool.{Bool, true, false, not, ◌||◌}
use mathlib.Core.List.{List, [], ◌∷◌}
use mathlib.Core.Path.{◌≡◌, refl}
use Prim.Native.Nat.{ℕ, ◌<◌, ◌≤◌}
use lib.Dec.{T}
use mir.Val.{has_key}
use types.Run.{OneOf, hit, miss}
use borrow.Author.Tests.{lt-leb, le-leb}
use Rattle.arithmetic.proofs.Test.{and-false}
use Rattle.gdi.specs.Stock.{is_stock}

-- the test of keys, from the arms of a `match` on a number
pub key_true : (ks : List ℕ) (x : ℕ) → OneOf ks x → has_key ks x ≡ true
key_true ks x o = by (has_key ks x) (λ n. miss ks x n o)
  where
    by : (t : Bool) → (T (not t) → ⊥) → t ≡ true
    by true f = refl
    by false f = absurd (f tt)

pub key_false : (ks : List ℕ) (x : ℕ) → (OneOf ks x → ⊥) → has_key ks x ≡ false
key_false ks x o = by (has_key ks x) (λ n. o (hit ks x n))
  where
    by : (t : Bool) → (T t → ⊥) → t ≡ false
    by true f = absurd (f tt)
    by false f = refl

or_true : (t : Bool) → (t || true) ≡ true
or_true true = refl
or_true false = refl

-- the stock handles outside the row of nine
abbrev pub three : List ℕ
three = 0xDEAD_0DC0 ∷ 0xDEAD_5710 ∷ 0xDEAD_5720 ∷ []

module _ (h : ℕ) where
  pub stock_row : 0xDEAD_5701 ≤ h → h ≤ 0xDEAD_5709 → true ≡ is_stock h
  unfolding is_stock
  stock_row a b = rw (le-leb _ _ a, le-leb _ _ b)

  pub stock_key : OneOf three h → true ≡ is_stock h
  unfolding is_stock
  stock_key k = rw (key_true three h k, or_true)

  pub stock_low : h < 0xDEAD_5701 → (OneOf three h → ⊥) → false ≡ is_stock h
  unfolding is_stock
  stock_low a k = rw (lt-leb _ _ a, key_false three h k)

  pub stock_high : 0xDEAD_5709 < h → (OneOf three h → ⊥) → false ≡ is_stock h
  unfolding is_stock
  stock_high a k = rw (lt-leb _ _ a, and-false, key_false three h k)
