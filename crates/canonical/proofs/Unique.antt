-- Updated numbers are determined by the numbers before and the record. Assumes nothing.
use mathlib.Core.List.{List}
use mathlib.Core.Path.{◌≡◌, sym, ◌∙◌, ap}
use Prim.Native.Nat.{ℕ, ◌<◌, ◌^◌}
use lib.ListN.{drop}
use Rattle.gdi.specs.declared.GdiState.{GdiState}
use Rattle.numbers.specs.Layout.{count_place, slot_place}
use Rattle.numbers.specs.Block.{at}
use Rattle.numbers.specs.View.{Updated}
use Rattle.numbers.proofs.Seen.{count_seen}
use Rattle.canonical.proofs.Pinned.{same_numbers}

-- updated numbers are determined by the numbers before and the record
pub updated_unique : (l l' k' : List ℕ) (b : GdiState) → ((k : ℕ) → at l' k < 2 ^ 32) → ((k : ℕ) → at k' k < 2 ^ 32) → Updated l b l' → Updated l b k' → l' ≡ k'
updated_unique l l' k' b sl sk x y =
    same_numbers l' k' sl sk x.is_record_lem y.is_record_lem (x.same ∙ sym y.same) (rest l' x ∙ sym (rest k' y))
  where
    rest : (m : List ℕ) → Updated l b m → drop (slot_place (at m count_place)) m ≡ drop (slot_place b.count) l
    rest m z = ap (λ (n : ℕ). drop (slot_place n) m) (sym (count_seen m) ∙ ap (λ (s : GdiState). s.count) z.same) ∙ z.rest
