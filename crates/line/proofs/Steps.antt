-- A pixel of `steps` is one of its numbered steps, and the steps on two sides are those that the code visits. Assumes nothing.
use mathlib.Core.Bool.{Bool, true, ◌&&◌}
use mathlib.Core.Path.{◌≡◌, sym, ◌∙◌, ap}
use Prim.Native.Nat.{ℕ, ◌+◌, ◌*◌, ◌≤◌, ◌<◌}
use native.Mathlib.Omega.{arith}
use lib.Dec.{ltb, eqb}
use lib.IntN.{ℤ, pos}
use borrow.Author.Tests.{ltb-true, lt-ltb, eqb-true, eq-eqb}
use Rattle.arithmetic.specs.Interval.{between}
use Rattle.arithmetic.specs.Integer.{positive}
use Rattle.arithmetic.specs.Test.{any_below}
use Rattle.arithmetic.proofs.Interval.{between_yes, bounds}
use Rattle.arithmetic.proofs.Test.{both, together, same_test, any_at, any_some}
use Rattle.line.specs.declared.Axis.{Axis}
use Rattle.line.specs.declared.Slope.{Slope}
use Rattle.line.specs.Line.{extent, toward, along, is_at, steps}
use Rattle.line.specs.Inner.{coordinate_of, Seen, word_at, is_shown, dots}
use Rattle.line.proofs.Along.{along_le}
use Rattle.line.proofs.Dots.{dot}
use Rattle.line.specs.Pixel.{StepAt}
use Rattle.line.proofs.Toward.{at_yes, at_is, toward_extent}

-- the step of a pixel is its distance from the start
step_is : {u0 u1 v0 v1 : ℤ} {p s i : ℕ} → StepAt u0 u1 v0 v1 p s i → extent u0 (pos p) ≡ i
step_is {u0} {u1} {i = i} t = ap (extent u0) t.along_u ∙ toward_extent u0 u1 i

pub is_step : {u0 u1 v0 v1 : ℤ} {p s i : ℕ} → StepAt u0 u1 v0 v1 p s i → steps u0 u1 v0 v1 p s ≡ true
is_step {u0} {u1} {v0} {v1} {p} {s} {i} t =
    let q = along (extent u0 u1) (extent v0 v1) i in
    rw (step_is t)
    (together (lt-ltb i (extent u0 u1) t.within) (together (at_yes (toward u0 u1 i) p (sym t.along_u)) (at_yes (toward v0 v1 q) s (sym t.along_v))))

module _ (u0 u1 v0 v1 : ℤ) where
  abbrev a : ℕ
  a = extent u0 u1

  abbrev b : ℕ
  b = extent v0 v1

  abbrev slope : Slope
  slope = record { long = a; short = b }

  pub step_of : (p s : ℕ) → steps u0 u1 v0 v1 p s ≡ true → StepAt u0 u1 v0 v1 p s (extent u0 (pos p))
  step_of p s e =
      let i = extent u0 (pos p) in
      let h = both (ltb i a) (is_at (toward u0 u1 i) p && is_at (toward v0 v1 (along a b i)) s) e in
      let k = both (is_at (toward u0 u1 i) p) (is_at (toward v0 v1 (along a b i)) s) h.1 in
      record { within = ltb-true i a h.0; along_u = sym (at_is (toward u0 u1 i) p k.0); along_v = sym (at_is (toward v0 v1 (along a b i)) s k.1) }

  -- the steps on a surface of two sides
  module _ {side-u side-v us vs : ℕ} {u v : Axis} (across : Seen u0 u1 a side-u us u) (beside : Seen v0 v1 (b + 1) side-v vs v) where
    -- where step i is
    abbrev at_u : ℕ → ℕ
    at_u i = coordinate_of u i

    abbrev at_v : ℕ → ℕ
    at_v i = coordinate_of v (along a b i)

    shown_bounds : (i : ℕ) → is_shown u v slope i ≡ true → ((u.begin ≤ i) × (i < u.end)) × ((v.begin ≤ along a b i) × (along a b i < v.end))
    shown_bounds i e =
        let h = both (between u.begin u.end i) (between v.begin v.end (along a b i)) e in
        (bounds u.begin u.end i h.0, bounds v.begin v.end (along a b i) h.1)

    shown_step : (i : ℕ) → is_shown u v slope i ≡ true → ((at_u i < side-u) × (at_v i < side-v)) × StepAt u0 u1 v0 v1 (at_u i) (at_v i) i
    shown_step i e =
        let h = shown_bounds i e in (
          (across.within i h.0.0 h.0.1, beside.within (along a b i) h.1.0 h.1.1),
          record { within = omega (arith, across.few); along_u = sym (across.exact i h.0.0 h.0.1); along_v = sym (beside.exact (along a b i) h.1.0 h.1.1) },
        )

    step_shown : (p s i : ℕ) → p < side-u → s < side-v → StepAt u0 u1 v0 v1 p s i → ((i < u.end) × (is_shown u v slope i ≡ true)) × ((at_u i ≡ p) × (at_v i ≡ s))
    step_shown p s i lp ls t =
        let h = across.all i p t.within lp (sym t.along_u) in
        let q : along a b i < b + 1 = omega (arith, along_le a b i t.within) in
        let k = beside.all (along a b i) s q ls (sym t.along_v) in (
          (h.1, together (between_yes u.begin u.end i h.0 h.1) (between_yes v.begin v.end (along a b i) k.0 k.1)),
          (ap positive (sym (t.along_u ∙ across.exact i h.0 h.1)), ap positive (sym (t.along_v ∙ beside.exact (along a b i) k.0 k.1))),
        )

    word_is : (i q : ℕ) → word_at u v i q ≡ coordinate_of u i * us + coordinate_of v q * vs
    word_is i q = rw (across.apart, beside.apart)

    -- the words that the code stores are the pixels of `steps`
    pub dots_steps : (j p s : ℕ) → p < side-u → s < side-v → ((c e : ℕ) → c < side-u → e < side-v → j ≡ c * us + e * vs → (c ≡ p) × (e ≡ s)) → j ≡ p * us + s * vs
        → dots u v slope u.end j ≡ steps u0 u1 v0 v1 p s
    dots_steps j p s lp ls one is = same_test (dots u v slope u.end j) (steps u0 u1 v0 v1 p s) stored drawn
      where
        stored : dots u v slope u.end j ≡ true → steps u0 u1 v0 v1 p s ≡ true
        stored e =
            let found = any_some u.end (dot u v slope j) e in
            let i = found.0 in
            let h = both (is_shown u v slope i) (eqb j (word_at u v i (along a b i))) found.1.1 in
            let t = shown_step i h.0 in
            let here = one (at_u i) (at_v i) t.0.0 t.0.1 (eqb-true j (word_at u v i (along a b i)) h.1 ∙ word_is i (along a b i)) in
            rw (← here.0, ← here.1) (is_step t.1)

        drawn : steps u0 u1 v0 v1 p s ≡ true → dots u v slope u.end j ≡ true
        drawn e =
            let i = extent u0 (pos p) in
            let t = step_shown p s i lp ls (step_of p s e) in
            any_at u.end (dot u v slope j) i t.0.0 (together t.0.1 (eq-eqb j (word_at u v i (along a b i)) (is ∙ sym (word_is i (along a b i) ∙ rw (t.1.0, t.1.1)))))

    -- a step on the surface is a pixel of `steps`, and such a pixel is a step
    pub mark_pixel : {t : Bool} → any_below u.end (is_shown u v slope) ≡ true → ((p s : ℕ) → p < side-u → s < side-v → steps u0 u1 v0 v1 p s ≡ true → t ≡ true) → t ≡ true
    mark_pixel e then =
        let found = any_some u.end (is_shown u v slope) e in
        let i = found.0 in
        let k = shown_step i found.1.1 in
        then (at_u i) (at_v i) k.0.0 k.0.1 (is_step k.1)

    pub pixel_mark : (p s : ℕ) → p < side-u → s < side-v → steps u0 u1 v0 v1 p s ≡ true → any_below u.end (is_shown u v slope) ≡ true
    pixel_mark p s lp ls e =
        let i = extent u0 (pos p) in
        let t = step_shown p s i lp ls (step_of p s e) in
        any_at u.end (is_shown u v slope) i t.0.0 t.0.1
