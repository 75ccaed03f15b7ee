-- A character, and the units of a text drawn one after another. Assumes nothing.
use mathlib.Core.Bool.{Bool, true, false}
use mathlib.Core.List.{List}
use mathlib.Core.Path.{◌≡◌, refl, ◌∙◌, ap}
use Prim.Native.Nat.{ℕ, ◌+◌, ◌-◌, ◌*◌, ◌/◌, ◌%◌, ◌≤◌, ◌<◌}
use native.Mathlib.Omega.{arith}
use lib.IntN.{ℤ, pos, ◌+ℤ◌}
use lib.ListN.{get_or, length}
use Rattle.std.specs.Prelude.{Ok}
use Rattle.words.specs.Words.{painted}
use Rattle.words.proofs.Painted.{painted_none, painted_again, painted_cong}
use Rattle.clip.specs.declared.Span.{Span}
use Rattle.font.specs.Font.{glyph_of}
use Rattle.surface.specs.Region.{words_of}
use Rattle.surface.specs.Refusal.{refusal, drawn}
use Rattle.surface.proofs.Accepted.{InOrder}
use Rattle.surface.proofs.Answers.{drawn_done}
use Rattle.surface.proofs.Rows.{column_lt, row_lt}
use Rattle.text.specs.Ink.{printable, glyph_ink, char_ink, glyph_for, text_ink, DrawChar}
use Rattle.text.specs.Inner.{Reached}
use Rattle.glyph.specs.declared.Stretch.{Stretch}
use Rattle.glyph.specs.Inner.{bitmap_ink, Shown}
use Rattle.glyph.proofs.Glyph.{rows_missed}
use Rattle.text.proofs.Text.{char_in, char_out, text_more, text_off, text_first, text_last}

-- a character: the glyph of a printable one, and nothing of any other
module _ (W H : ℕ) (x y : ℤ) (ch color : ℕ) (m : List ℕ) (accepted : 0 ≡ refusal W H (length m)) where
  pub char_drawn : {rows m' : List ℕ} → printable ch ≡ true → rows ≡ glyph_of (ch - 0x20) → m' ≡ painted (words_of W (bitmap_ink (x +ℤ pos 0) y rows)) (λ _. color) m → DrawChar x y ch color W H m (drawn (Ok false)) m'
  char_drawn some is e =
      drawn_done accepted refl
      (e
      ∙ ap (λ (rows : List ℕ). painted (words_of W (bitmap_ink (x +ℤ pos 0) y rows)) (λ _. color) m) is
      ∙ painted_cong (words_of W (glyph_ink (x +ℤ pos 0) y (ch - 0x20))) (words_of W (char_ink x y ch)) (λ _. color) m (λ i lt. char_in x y ch (i % W) (i / W) some))

  pub char_blank : printable ch ≡ false → DrawChar x y ch color W H m (drawn (Ok false)) m
  char_blank none = drawn_done accepted refl (painted_none (words_of W (char_ink x y ch)) (λ _. color) m (λ i lt. char_out x y ch (i % W) (i / W) none))

-- the units of a text
module _ (W H : ℕ) (us : List ℕ) (n : ℕ) (x y : ℤ) (color : ℕ) (m₀ : List ℕ) where
  -- the ink of the units before k
  abbrev upto : ℕ → ℕ → Bool
  upto k = words_of W (text_ink us k x y)

  -- The units before k are drawn.
  pub record AtUnit (k : ℕ) (m : List ℕ) : Type 0 where
    pub ink : m ≡ painted (upto k) (λ _. color) m₀
    pub size : length m ≡ length m₀
    pub few : k ≤ n

  module _ (order : InOrder W H (length m₀)) where
    -- a text above or below the surface
    pub all_missed : (down : Stretch) → Shown y 8 H down → down.to ≤ down.from → m₀ ≡ painted (upto n) (λ _. color) m₀
    all_missed down shown none =
        painted_none (upto n) (λ _. color) m₀
        (λ i lt. text_off us x y (i % W) (i / W) n (rows_missed y 8 H down shown none (i / W) (row_lt W H i order.some (omega (arith, order.long)))))

    -- the units that reach the surface
    module _ {s : Span} (reach : Reached x W n s) where
      pub first_unit : AtUnit s.from m₀
      first_unit = record {
        ink = painted_none (upto s.from) (λ _. color) m₀ (λ i lt. text_first us x y (i % W) (i / W) W n s reach);
        size = refl;
        few = reach.from_within;
      }

      pub next_unit : {k g : ℕ} {rows m m' : List ℕ} → AtUnit k m → k < s.to → g ≡ glyph_for (get_or us k 0) → rows ≡ glyph_of g
          → m' ≡ painted (words_of W (bitmap_ink (x +ℤ pos (6 * k)) y rows)) (λ _. color) m → length m' ≡ length m → AtUnit (k + 1) m'
      next_unit {k} {g} {m = m} u lt is rows_are e same = record {
        ink =
            e
            ∙ ap (λ (rows : List ℕ). painted (words_of W (bitmap_ink (x +ℤ pos (6 * k)) y rows)) (λ _. color) m) rows_are
            ∙ ap (painted (words_of W (glyph_ink (x +ℤ pos (6 * k)) y g)) (λ _. color)) u.ink
            ∙ painted_again (upto k) (words_of W (glyph_ink (x +ℤ pos (6 * k)) y g)) (upto (k + 1)) (λ _. color) (λ _. color) m₀
            (λ i lt. text_more us x y (i % W) (i / W) k g is) (λ i lt e. refl);
        size = same ∙ u.size;
        few = omega (arith, reach.to_within);
      }

      pub last_unit : {k : ℕ} {m : List ℕ} → AtUnit k m → s.to ≤ k → m ≡ painted (upto n) (λ _. color) m₀
      last_unit {k} u le =
          u.ink
          ∙ painted_cong (upto k) (upto n) (λ _. color) m₀ (λ i lt. text_last us x y (i % W) (i / W) W n s reach k le u.few (column_lt W H i order.some))
