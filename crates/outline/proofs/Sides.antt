-- Four sides painted one after another. Assumes nothing.
use mathlib.Core.Path.{◌≡◌, refl, ◌∙◌, ap}
use mathlib.Core.Bool.{Bool, ◌||◌}
use mathlib.Core.List.{List}
use Prim.Native.Nat.{ℕ}
use Rattle.words.specs.Words.{painted}
use Rattle.words.proofs.Painted.{painted_again}
use Rattle.surface.specs.Region.{words_of}
use Rattle.surface.proofs.Rows.{rect}
use Rattle.outline.specs.declared.Edges.{Edges}
use Rattle.outline.specs.Inner.{sides}

module _ (W v : ℕ) (cols rows : Edges) (m : List ℕ) where
  abbrev top : ℕ → Bool
  top = words_of W (rect cols.from cols.to rows.from rows.second)

  abbrev bottom : ℕ → Bool
  bottom = words_of W (rect cols.from cols.to rows.last rows.to)

  abbrev left : ℕ → Bool
  left = words_of W (rect cols.from cols.second rows.from rows.to)

  abbrev right : ℕ → Bool
  right = words_of W (rect cols.last cols.to rows.from rows.to)

  pub four_sides
      : {a b c d : List ℕ}
      → a ≡ painted top (λ _. v) m → b ≡ painted bottom (λ _. v) a → c ≡ painted left (λ _. v) b → d ≡ painted right (λ _. v) c
      → d ≡ painted (words_of W (sides cols rows)) (λ _. v) m
  four_sides ea eb ec ed =
      ed
      ∙ ap (painted right (λ _. v)) (ec ∙ ap (painted left (λ _. v)) (eb ∙ ap (painted bottom (λ _. v)) ea ∙ more top bottom) ∙ more (λ i. bottom i || top i) left)
      ∙ more (λ i. left i || (bottom i || top i)) right
    where
      more : (p r : ℕ → Bool) → painted r (λ _. v) (painted p (λ _. v) m) ≡ painted (λ i. r i || p i) (λ _. v) m
      more p r = painted_again p r (λ i. r i || p i) (λ _. v) (λ _. v) m (λ i lt. refl) (λ i lt e. refl)
