-- A text added to a line: its characters go over the zeros behind the line, and those behind the text stay.
use Rattle.std.proofs.Common.{◌≡◌, ◌∙◌, sym, ap, ℕ, ◌+◌, ◌-◌, ◌≤◌, List, ◌++◌, length, take, drop, replicate, arith}
use Rattle.std.proofs.lemmas.List.{drop-replicate}
use Rattle.std.proofs.lemmas.Slice.{take-put_mid, drop-put_mid}
use lib.Seq.{drop-drop}
use borrow.Rule.Slice.PartMut.{put_mid}
use Rattle.output.specs.Padded.{padding, IsPadded}

module _ (n k : ℕ) (l t : List ℕ) (h : IsPadded n l) (e : length t ≡ k) (room : n + k ≤ 160) where
  pub seen : take (n + k) (put_mid n (n + k - n) l t) ≡ take n l ++ t
  seen = take-put_mid n (n + k - n) l t (n + k) (omega (arith, e)) h.0

  pub zeros : drop (n + k) (put_mid n (n + k - n) l t) ≡ padding (n + k)
  zeros =
      drop-put_mid n (n + k - n) l t (n + k) (omega arith) h.0 (omega (arith, e))
      ∙ sym (drop-drop k n l)
      ∙ ap (drop k) h.1.1
      ∙ drop-replicate k (160 - n) 0
      ∙ ap (λ (i : ℕ). replicate i 0) (omega arith)
