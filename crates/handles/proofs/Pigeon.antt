-- Among more consecutive handles than are taken, one is free. Assumes nothing.
use Rattle.std.proofs.Common.{◌≡◌, ℕ, zero, suc, ◌+◌, ◌<◌, ◌≤◌, Bool, true, false, cond, not, ◌&&◌, ◌||◌, eqb, leb, List, [], ◌∷◌, ◌++◌, length, sym, refl, ap, ◌∙◌, arith, length-append, eqb-true, leb-true}
use mathlib.Core.Bool.{false≢true}
use native.Mathlib.Decide.{dec_lt}
use mir.Val.{has_key}
use borrow.Author.Tests.{eqb-false}
use Rattle.arithmetic.proofs.Test.{all_suc}
use Rattle.gdi.specs.declared.Slot.{Slot}
use Rattle.gdi.specs.Stock.{is_stock}
use Rattle.gdi.specs.Lookup.{handle_at}
use Rattle.gdi.proofs.Stock.{three}
use Rattle.sound.specs.Sound.{absent}
use Rattle.handles.specs.Handles.{free, ahead, first_free, tries}

clash {ℓ} : {A : Type ℓ} → false ≡ true → A
clash e = absurd (false≢true e)

-- a list without its first x
abbrev without : ℕ → List ℕ → List ℕ
without x [] = []
without x (y ∷ l) = cond (eqb y x) l (y ∷ without x l)

without_length : (x : ℕ) (l : List ℕ) → has_key l x ≡ true → suc (length (without x l)) ≡ length l
without_length x [] e = clash e
without_length x (y ∷ l) e = by (eqb y x) e (without_length x l)
  where
    by : (t : Bool) → (t || has_key l x) ≡ true → (has_key l x ≡ true → suc (length (without x l)) ≡ length l) → suc (length (cond t l (y ∷ without x l))) ≡ suc (length l)
    by true f less = refl
    by false f less = ap suc (less f)

without_has : (x z : ℕ) (l : List ℕ) → (z ≡ x → ⊥) → has_key l z ≡ true → has_key (without x l) z ≡ true
without_has x z [] ne e = e
without_has x z (y ∷ l) ne e = by (eqb y x) refl (eqb y z) refl e (without_has x z l ne)
  where
    by : (t : Bool) → eqb y x ≡ t → (u : Bool) → eqb y z ≡ u → (u || has_key l z) ≡ true → (has_key l z ≡ true → has_key (without x l) z ≡ true) → has_key (cond t l (y ∷ without x l)) z ≡ true
    by true a true b f less = absurd (ne (sym (eqb-true _ _ b) ∙ eqb-true _ _ a))
    by true a false b f less = f
    by false a true b f less = rw b
    by false a false b f less = rw b (less f)

-- a list that contains m different values has at least m elements
pub pigeon : (f : ℕ → ℕ) (m : ℕ) (l : List ℕ) → ((i j : ℕ) → i < j → j < m → f i ≡ f j → ⊥) → ((i : ℕ) → i < m → has_key l (f i) ≡ true) → m ≤ length l
pigeon f zero l apart all = omega arith
pigeon f (suc m) l apart all =
    omega (
      arith,
      without_length (f m) l (all m (omega arith)),
      pigeon f m (without (f m) l) (λ i j a b. apart i j a (omega arith)) (λ i a. without_has (f m) (f i) l (apart i m a (omega arith)) (all i (omega arith))),
    )

-- the n numbers from a on
abbrev range : ℕ → ℕ → List ℕ
range a zero = []
range a (suc n) = (a + n) ∷ range a n

range_has : (a n x : ℕ) → a ≤ x → x < a + n → has_key (range a n) x ≡ true
range_has a zero x p q = absurd (omega arith)
range_has a (suc n) x p q = by (eqb (a + n) x) refl (range_has a n x p)
  where
    by : (t : Bool) → eqb (a + n) x ≡ t → (x < a + n → has_key (range a n) x ≡ true) → (t || has_key (range a n) x) ≡ true
    by true e less = refl
    by false e less = less (omega (arith, eqb-false (a + n) x e))

range_length : (a n : ℕ) → length (range a n) ≡ n
range_length a zero = refl
range_length a (suc n) = ap suc (range_length a n)

-- the handles of the first n slots
abbrev handles : List Slot → ℕ → List ℕ
handles l zero = []
handles l (suc k) = handle_at l k ∷ handles l k

handles_length : (l : List Slot) (n : ℕ) → length (handles l n) ≡ n
handles_length l zero = refl
handles_length l (suc n) = ap suc (handles_length l n)

handles_has : (l : List Slot) (n x : ℕ) → absent l n x ≡ false → has_key (handles l n) x ≡ true
handles_has l zero x e = clash (sym e)
handles_has l (suc n) x e = by (eqb (handle_at l n) x) (rw (all_suc n (λ j. not (eqb (handle_at l j) x))) at e) (handles_has l n x)
  where
    by : (t : Bool) → (not t && absent l n x) ≡ false → (absent l n x ≡ false → has_key (handles l n) x ≡ true) → (t || has_key (handles l n) x) ≡ true
    by true f less = refl
    by false f less = less f

-- the stock handles, those of the row before the live ones
abbrev row : List ℕ
row = range 0xDEAD_5701 9

-- the handles that are not free
abbrev taken : List Slot → ℕ → List ℕ
taken l n = (0 ∷ []) ++ (three ++ (row ++ handles l n))

taken_length : (l : List Slot) (n : ℕ) → length (taken l n) ≡ 13 + n
taken_length l n =
    rw (length-append (0 ∷ []) (three ++ (row ++ handles l n)), length-append three (row ++ handles l n), length-append row (handles l n), handles_length l n, range_length 0xDEAD_5701 9)
    (omega arith)

has_left : (k m : List ℕ) (x : ℕ) → has_key k x ≡ true → has_key (k ++ m) x ≡ true
has_left [] m x e = clash e
has_left (y ∷ k) m x e = by (eqb y x) e (has_left k m x)
  where
    by : (t : Bool) → (t || has_key k x) ≡ true → (has_key k x ≡ true → has_key (k ++ m) x ≡ true) → (t || has_key (k ++ m) x) ≡ true
    by true f less = refl
    by false f less = less f

has_right : (k m : List ℕ) (x : ℕ) → has_key m x ≡ true → has_key (k ++ m) x ≡ true
has_right [] m x e = e
has_right (y ∷ k) m x e = by (eqb y x) (has_right k m x e)
  where
    by : (t : Bool) → has_key (k ++ m) x ≡ true → (t || has_key (k ++ m) x) ≡ true
    by true less = refl
    by false less = less

stock_has : (x : ℕ) → is_stock x ≡ true → (m : List ℕ) → has_key (three ++ (row ++ m)) x ≡ true
unfolding is_stock
stock_has x e m = by (leb 0xDEAD_5701 x) refl (leb x 0xDEAD_5709) refl e
  where
    by : (t : Bool) → leb 0xDEAD_5701 x ≡ t → (u : Bool) → leb x 0xDEAD_5709 ≡ u → ((t && u) || has_key three x) ≡ true → has_key (three ++ (row ++ m)) x ≡ true
    by true a true b f = has_right three (row ++ m) x (has_left row m x (range_has 0xDEAD_5701 9 x (leb-true _ _ a) (omega (arith, leb-true x 0xDEAD_5709 b))))
    by true a false b f = has_left three (row ++ m) x f
    by false a u b f = has_left three (row ++ m) x f

taken_has : (l : List Slot) (n x : ℕ) → free l n x ≡ false → has_key (taken l n) x ≡ true
unfolding free
taken_has l n x e = by (eqb x 0) refl (is_stock x) refl (absent l n x) refl e
  where
    by : (t : Bool) → eqb x 0 ≡ t → (u : Bool) → is_stock x ≡ u → (v : Bool) → absent l n x ≡ v → (not t && (not u && v)) ≡ false → has_key (taken l n) x ≡ true
    by true a u b v c f = rw (eqb-true x 0 a)
    by false a true b v c f = has_right (0 ∷ []) (three ++ (row ++ handles l n)) x (stock_has x b (handles l n))
    by false a false b false c f = has_right (0 ∷ []) (three ++ (row ++ handles l n)) x (has_right three (row ++ handles l n) x (has_right row (handles l n) x (handles_has l n x c)))
    by false a false b true c f = clash (sym f)

-- a search that ends on a handle that is not free passed no free one
passed : (l : List Slot) (n h k m : ℕ) → free l n (first_free l n h k m) ≡ false → (i : ℕ) → k ≤ i → i < k + m → free l n (ahead h i) ≡ false
unfolding first_free
passed l n h k zero e i a b = absurd (omega arith)
passed l n h k (suc m) e i a b = by (free l n (ahead h k)) refl e (λ g c. passed l n h (suc k) m g i c (omega arith))
  where
    by : (t : Bool) → free l n (ahead h k) ≡ t → free l n (cond t (ahead h k) (first_free l n h (suc k) m)) ≡ false
        → (free l n (first_free l n h (suc k) m) ≡ false → suc k ≤ i → free l n (ahead h i) ≡ false) → free l n (ahead h i) ≡ false
    by true f g less = clash (sym g ∙ f)
    by false f g less = elim (dec_lt k i) [ yes c ↦ less g (omega arith) | no c ↦ let z : i ≡ k = omega arith in rw z f ]

ahead_apart : (h i j : ℕ) → i < j → j < 4294967296 → ahead h i ≡ ahead h j → ⊥
ahead_apart h i j a b e = omega arith

-- the new handle is free
pub new_free : (l : List Slot) (n h : ℕ) → n ≤ 256 → free l n (first_free l n h 0 tries) ≡ true
new_free l n h le = by (free l n (first_free l n h 0 tries)) refl
  where
    by : (t : Bool) → free l n (first_free l n h 0 tries) ≡ t → t ≡ true
    by true e = refl
    by false e =
        absurd (omega (
          arith,
          taken_length l n,
          pigeon (ahead h) tries (taken l n) (λ i j a c. ahead_apart h i j a (omega arith)) (λ i c. taken_has l n (ahead h i) (passed l n h 0 tries e i (omega arith) (omega arith))),
        ))
