-- What holds of an accepted snapshot, and the number after each test. Assumes nothing.
use mathlib.Core.List.{List}
use mathlib.Core.Path.{◌≡◌, refl, sym, ◌∙◌}
use Prim.Native.Nat.{ℕ, ◌*◌, ◌≤◌}
use native.Mathlib.Omega.{arith}
use lib.ListN.{length}
use borrow.Author.Tests.{eq-eqb, ne_eqb}
use Rattle.refusals.specs.declared.Refusal.{Refusal}
use Rattle.refusals.specs.Refusal.{code_of}
use Rattle.refusals.proofs.Numbers.{number_not_0}
use Rattle.surface.proofs.Accepted.{side_range}
use Rattle.surface.proofs.Answers.{refused_bytes}
use Rattle.numbers.specs.Layout.{record_size, width_place, height_place}
use Rattle.numbers.specs.Block.{at}
use Rattle.numbers.specs.View.{view}
use Rattle.numbers.proofs.Seen.{record_length, width_seen, height_seen}
use Rattle.sound.proofs.Sound.{parts}
use Rattle.ready.specs.Ready.{panel_refusal_on}
use Rattle.ready.proofs.Ready.{lent}
use Rattle.snapshot.specs.Snapshot.{snapshot_refusal, Format, Snapped}

-- The panel memory has the record's length; width and height are the sides that the code reads.
pub record Shown (l : List ℕ) (n : ℕ) : Type 0 where
  pub numbers : length l ≡ record_size
  pub wide : at l width_place ≤ 4096
  pub high : at l height_place ≤ 4096
  pub long : 2 * (at l width_place * at l height_place) ≤ n

module _ (l : List ℕ) (n : ℕ) where
  module _ (got : ℕ) (wanted : (width height : ℕ) → ℕ) where
    refused : {number : ℕ} → number ≡ panel_refusal_on l n → (number ≡ 0 → ⊥) → number ≡ snapshot_refusal l n got wanted
    unfolding snapshot_refusal
    refused is k = rw (ne_eqb (panel_refusal_on l n) 0 (λ e. k (is ∙ e))) is

    module _ (is : 0 ≡ panel_refusal_on l n) where
      other_length : (got ≡ wanted (at l width_place) (at l height_place) → ⊥) → 8 ≡ snapshot_refusal l n got wanted
      unfolding snapshot_refusal
      other_length k = rw (eq-eqb (panel_refusal_on l n) 0 (sym is), ne_eqb got (wanted (view l).width (view l).height) (λ e. k (rw (width_seen l, height_seen l) at e)))

      exact : got ≡ wanted (at l width_place) (at l height_place) → 0 ≡ snapshot_refusal l n got wanted
      unfolding snapshot_refusal
      exact e = rw (eq-eqb (panel_refusal_on l n) 0 (sym is), eq-eqb got (wanted (view l).width (view l).height) (rw (width_seen l, height_seen l) e))

  pub shown : 0 ≡ panel_refusal_on l n → Shown l n
  shown is =
      let r = lent l n (view l).store_len 0 is refl in
      let s = parts (view l) r.ready.sound in
      let fits : 2 * ((view l).width * (view l).height) ≤ n = omega (arith, r.ready.panel, s.panel) in
      record {
        numbers = record_length l r.is_record_lem;
        wide = rw (width_seen l) at (side_range (view l).width s.width).1;
        high = rw (height_seen l) at (side_range (view l).height s.height).1;
        long = rw (width_seen l, height_seen l) at fits;
      }

-- A snapshot in any format, by the outcome of its tests: refused for the record or the panel memory, refused for the output, made.
module _ (f : Format) {l panel out : List ℕ} where
  pub panel_refused : (r : Refusal) → code_of r ≡ panel_refusal_on l (length panel) → Snapped f l panel out (code_of r) out
  panel_refused r is = record { answer = refused l (length panel) (length out) f.wanted is (number_not_0 r); bytes = refused_bytes _ refl (number_not_0 r) _ _ }

  module _ (is : 0 ≡ panel_refusal_on l (length panel)) where
    pub output_refused : (length out ≡ f.wanted (at l width_place) (at l height_place) → ⊥) → Snapped f l panel out 8 out
    output_refused k = record { answer = other_length l (length panel) (length out) f.wanted is k; bytes = refl }

    pub made : {out' : List ℕ} {n : ℕ} → n ≡ f.wanted (at l width_place) (at l height_place) → length out ≡ n
        → out' ≡ f.picture (at l width_place) (at l height_place) panel → Snapped f l panel out 0 out'
    made e h g = record { answer = exact l (length panel) (length out) f.wanted is (h ∙ e); bytes = rw (width_seen l, height_seen l) g }
