-- What a loop over the shown rows of a glyph draws. Assumes nothing.
use mathlib.Core.Bool.{Bool}
use mathlib.Core.List.{List}
use mathlib.Core.Path.{◌≡◌, refl, ◌∙◌, ap}
use Prim.Native.Nat.{ℕ, ◌+◌, ◌-◌, ◌*◌, ◌≤◌, ◌<◌}
use native.Mathlib.Omega.{arith}
use lib.IntN.{ℤ}
use lib.ListN.{get_or, length, take, drop}
use Rattle.std.proofs.lemmas.List.{get_or-take, get_or-drop}
use Rattle.words.specs.Words.{painted}
use Rattle.words.proofs.Painted.{painted_none, painted_again, painted_cong}
use Rattle.surface.specs.Region.{words_of}
use Rattle.surface.proofs.Accepted.{InOrder}
use Rattle.surface.proofs.Rows.{row_fits}
use Rattle.glyph.specs.declared.Stretch.{Stretch}
use Rattle.glyph.specs.Past.{past}
use Rattle.glyph.specs.Inner.{row_ink, bitmap_ink, Narrow, Shown}
use Rattle.glyph.proofs.Glyph.{rows_ink, rows_none, rows_more, glyph_clipped}

-- row k of a part of the rows
pub row_shown : (g : List ℕ) (first n k : ℕ) → k < n → get_or (take (first + n - first) (drop first g)) k 0 ≡ get_or g (first + k) 0
row_shown g first n k h = get_or-take (first + n - first) (drop first g) k 0 (omega arith) ∙ get_or-drop first g k 0

module _ {x y : ℤ} {W H : ℕ} {s t : Stretch} (across : Shown x 5 W s) (down : Shown y 8 H t) where
  -- a shown row lies in the surface's memory
  pub row_inside : (k : ℕ) → t.from + k < t.to → (t.from + k) * W + s.from + (s.to - s.from) ≤ W * H
  row_inside k h = row_fits W H s.from (s.to - s.from) (t.from + k) t.to (omega (arith, across)) h down.within

  module _ (g : List ℕ) (v : ℕ) (m₀ : List ℕ) (in_order : InOrder W H (length m₀)) where
    abbrev upto : ℕ → ℕ → Bool
    upto r = rows_ink x y g W s.from (s.to - s.from) t.from r

    pub rows_before : m₀ ≡ painted (upto (t.from + 0)) (λ _. v) m₀
    rows_before =
        let start : t.from + 0 ≡ t.from = omega arith in
        rw start (painted_none (upto t.from) (λ _. v) m₀ (λ i lt. rows_none x y g W s.from (s.to - s.from) t.from i))

    pub row_after
        : (k : ℕ) {row : ℕ} {m next : List ℕ} → t.from + k < t.to → row ≡ get_or g (t.skip + k) 0 → m ≡ painted (upto (t.from + k)) (λ _. v) m₀
        → next ≡ painted (row_ink row s.skip ((t.from + k) * W + s.from) (s.to - s.from)) (λ _. v) m → next ≡ painted (upto (t.from + (k + 1))) (λ _. v) m₀
    row_after k {row} h is before then =
        let j = t.skip + k in
        let d = (t.from + k) * W + s.from in
        let run : ℕ → Bool = row_ink (get_or g j 0) s.skip d (s.to - s.from) in
        let lies : past y (t.from + k) ≡ j = down.taken (t.from + k) (omega arith) h ∙ omega arith in
        let next_row : t.from + (k + 1) ≡ t.from + k + 1 = omega arith in
        rw next_row
        (rw is at then
        ∙ ap (painted run (λ _. v)) before
        ∙ painted_again (upto (t.from + k)) run (upto (t.from + k + 1)) (λ _. v) (λ _. v) m₀
        (λ i lt. rows_more x y g W s.from (s.to - s.from) t.from (t.from + k) s.skip j in_order.some (omega (arith, across)) (omega arith) (λ c p q. across.taken c p (omega (arith, across.ordered))) lies i)
        (λ i lt e. refl))

    pub rows_all : (k : ℕ) {m : List ℕ} → Narrow g → t.from + k ≡ t.to → m ≡ painted (upto (t.from + k)) (λ _. v) m₀ → m ≡ painted (words_of W (bitmap_ink x y g)) (λ _. v) m₀
    rows_all k narrow e before =
        rw e at before
        ∙ painted_cong (upto t.to) (words_of W (bitmap_ink x y g)) (λ _. v) m₀
        (λ i lt. glyph_clipped x y g narrow W H s t across down i in_order.some (omega (arith, in_order.long)))
