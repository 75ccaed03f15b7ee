-- The words of a line, step by step. Assumes nothing.
use mathlib.Core.Bool.{Bool, true, false, ◌&&◌}
use mathlib.Core.List.{List}
use mathlib.Core.Path.{◌≡◌, refl, sym, ◌∙◌, ap}
use Prim.Native.Nat.{ℕ, ◌+◌, ◌*◌, ◌/◌, ◌%◌, ◌≤◌, ◌<◌}
use native.Mathlib.Omega.{arith}
use lib.Dec.{eqb}
use lib.ListN.{length, set}
use borrow.Author.Tests.{eq-eqb, ne_eqb}
use Rattle.arithmetic.specs.Interval.{between}
use Rattle.arithmetic.specs.Test.{any_below}
use Rattle.arithmetic.proofs.Interval.{between_yes, between_no}
use Rattle.arithmetic.proofs.Test.{any_more, any_none, any_end, together, not_left, not_right}
use Rattle.words.specs.Words.{painted}
use Rattle.words.proofs.Painted.{painted_none, painted_set, painted_cong}
use Rattle.line.specs.declared.Axis.{Axis}
use Rattle.line.specs.declared.Slope.{Slope}
use Rattle.line.specs.Line.{along}
use Rattle.line.specs.Inner.{word_at, is_shown, dots}
use Rattle.line.proofs.Along.{along_order}

module _ (u v : Axis) (s : Slope) where
  -- the word of step i, and whether j is it
  abbrev word : ℕ → ℕ
  word i = word_at u v i (along s.long s.short i)

  abbrev pub dot : ℕ → ℕ → Bool
  dot j i = is_shown u v s i && eqb j (word i)

  -- steps that are not shown
  before_begin : (i : ℕ) → i < u.begin → is_shown u v s i ≡ false
  before_begin i lt = not_left (between v.begin v.end (along s.long s.short i)) (between_no u.begin u.end i (λ h k. omega arith))

  aside : {q : ℕ} (i : ℕ) → along s.long s.short i ≡ q → (v.begin ≤ q → q < v.end → ⊥) → is_shown u v s i ≡ false
  aside i e off = not_right (between u.begin u.end i) (between_no v.begin v.end (along s.long s.short i) (λ h k. off (rw e at h) (rw e at k)))

  inside : {q : ℕ} (i : ℕ) → along s.long s.short i ≡ q → u.begin ≤ i → i < u.end → v.begin ≤ q → q < v.end → is_shown u v s i ≡ true
  inside i e h k low high = together (between_yes u.begin u.end i h k) (between_yes v.begin v.end (along s.long s.short i) (rw e low) (rw e high))

  -- `some` says whether a step before n is shown, and m is the memory m₀ with their words
  pub record Drawn (color : ℕ) (m₀ : List ℕ) (n : ℕ) (some : Bool) (m : List ℕ) : Type 0 where
    pub mark : some ≡ any_below n (is_shown u v s)
    pub bytes : m ≡ painted (dots u v s n) (λ _. color) m₀

  module _ (color : ℕ) (m₀ : List ℕ) where
    -- no step of the first n is shown
    drawn_none : (n : ℕ) → ((i : ℕ) → i < n → is_shown u v s i ≡ false) → Drawn color m₀ n false m₀
    drawn_none n off = record {
      mark = sym (any_none n (is_shown u v s) off);
      bytes = painted_none (dots u v s n) (λ _. color) m₀ (λ j _. any_none n (dot j) (λ i lt. not_left (eqb j (word i)) (off i lt)));
    }

    pub none_along_u : (n : ℕ) → n ≤ u.begin → Drawn color m₀ n false m₀
    none_along_u n le = drawn_none n (λ i lt. before_begin i (omega arith))

    pub none_along_v : (n : ℕ) → v.end ≤ v.begin → Drawn color m₀ n false m₀
    none_along_v n le = drawn_none n (λ i lt. aside i refl (λ h k. omega arith))

module _ {u v : Axis} {s : Slope} {color : ℕ} {m₀ : List ℕ} where
  -- one more step
  module _ {i q : ℕ} {some : Bool} {m : List ℕ} (d : Drawn u v s color m₀ i some m) (is : along s.long s.short i ≡ q) where
    -- it is drawn
    pub drawn_more : {w : ℕ} {marked : Bool} {next : List ℕ} → u.begin ≤ i → i < u.end → v.begin ≤ q → q < v.end → w ≡ word_at u v i q → 2 * w + 1 < length m₀
        → marked ≡ true → next ≡ set (set m (2 * w) (color % 256)) (2 * w + 1) (color / 256) → Drawn u v s color m₀ (i + 1) marked next
    drawn_more {w} h k low high at room t e =
        let on : is_shown u v s i ≡ true = inside u v s i is h k low high in
        let here : w ≡ word u v s i = at ∙ ap (word_at u v i) (sym is) in
        record {
          mark = t ∙ sym (any_more i (is_shown u v s) ∙ rw on);
          bytes = e
              ∙ ap (λ (l : List ℕ). set (set l (2 * w) (color % 256)) (2 * w + 1) (color / 256)) d.bytes
              ∙ painted_set (dots u v s i) (dots u v s (i + 1)) (λ _. color) m₀ w room
              (any_more i (dot u v s w) ∙ rw (on, eq-eqb w (word u v s i) here))
              (λ j n. any_more i (dot u v s j) ∙ rw (on, ne_eqb j (word u v s i) (λ f. n (f ∙ sym here))));
        }

    -- it lies before the side
    pub drawn_past : {marked : Bool} {next : List ℕ} → q < v.begin → marked ≡ some → next ≡ m → Drawn u v s color m₀ (i + 1) marked next
    drawn_past low t e =
        let off : is_shown u v s i ≡ false = aside u v s i is (λ h k. omega arith) in
        record {
          mark = t ∙ d.mark ∙ sym (any_more i (is_shown u v s) ∙ rw off);
          bytes = e ∙ d.bytes ∙ painted_cong (dots u v s i) (dots u v s (i + 1)) (λ _. color) m₀ (λ j _. sym (any_more i (dot u v s j) ∙ rw off));
        }

    -- no step is drawn from here on: it lies behind the side, or it is the end
    drawn_end : (n : ℕ) → i ≤ n → ((k : ℕ) → i ≤ k → k < n → is_shown u v s k ≡ false) → Drawn u v s color m₀ n some m
    drawn_end n le off = record {
      mark = d.mark ∙ any_end i n (is_shown u v s) le off;
      bytes = d.bytes ∙ painted_cong (dots u v s i) (dots u v s n) (λ _. color) m₀ (λ j _. any_end i n (dot u v s j) le (λ k h l. not_left (eqb j (word u v s k)) (off k h l)));
    }

    pub drawn_behind : 0 < s.long → i ≤ u.end → v.end ≤ q → Drawn u v s color m₀ u.end some m
    drawn_behind more le high = drawn_end u.end le (λ k h l. aside u v s k refl (λ p r. omega (arith, along_order s.long s.short i k more h)))
