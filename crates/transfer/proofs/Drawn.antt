-- A blit on a surface's part of a memory: from other bytes, from the same memory, and from nowhere. Assumes nothing.
use mathlib.Core.Bool.{Bool, true, false, ◌&&◌}
use mathlib.Core.List.{List, []}
use mathlib.Core.Logic.{◌⊎◌, inl, inr}
use mathlib.Core.Path.{◌≡◌, refl, sym, ◌∙◌, ap}
use Prim.Native.Nat.{ℕ, ◌+◌, ◌-◌, ◌*◌, ◌/◌, ◌%◌, ◌≤◌, ◌<◌}
use native.Mathlib.Nat.{mul-le-mul_right, mul_comm}
use native.Mathlib.Omega.{arith}
use lib.IntN.{ℤ, pos, negsuc}
use lib.ListN.{length, drop, take-append-drop}
use lib.Seq.{drop-drop}
use lib.Signed.{le_z}
use borrow.Author.Tests.{le-ltb}
use borrow.Rule.Slice.PartMut.{put_mid}
use Rattle.arithmetic.specs.Interval.{between}
use Rattle.arithmetic.specs.Integer.{positive}
use Rattle.arithmetic.proofs.Interval.{bounds}
use Rattle.arithmetic.proofs.Test.{both, not_left, not_right}
use Rattle.words.specs.Words.{word}
use Rattle.words.specs.Parts.{part, with_part}
use Rattle.words.proofs.Painted.{painted_same, painted_none}
use Rattle.words.proofs.Parts.{length_part, word_part, part_painted}
use Rattle.rop3.specs.Rop3.{applied}
use Rattle.clip.specs.Clip.{covers}
use Rattle.clip_blit.specs.Blit.{source_at, inside, drawn_along, drawn_at}
use Rattle.clip_blit.proofs.Blit.{drawn_source}
use Rattle.surface.specs.Region.{words_of}
use Rattle.blit.specs.declared.Blit.{Blit}
use Rattle.blit.specs.Blit.{region, marks, source_word, blit_from}
use Rattle.blit_within.specs.Inner.{blit_within, Placed}
use Rattle.blit.proofs.From.{all_rows_held}
use Rattle.gdi.specs.Record.{size}
use Rattle.place.specs.Place.{Inside}
use Rattle.plan.specs.declared.Area.{Area}
use Rattle.plan.specs.declared.Point.{Point}
use Rattle.transfer.specs.Inner.{SameOrApart, blit_part, blit_numbers}

module _ (W H : ℕ) (a : Area) (f : Point) (SW SH t c : ℕ) where
  abbrev B : Blit
  B = blit_numbers W H a f SW SH

  -- the source word of a pixel of the blit is a word of the source
  source_lt : (x y : ℕ) → region B x y ≡ true → source_word B x y < SW * SH
  source_lt x y e =
      let d = both (drawn_along a.x f.x a.w SW x) (drawn_along a.y f.y a.h SH y) e in
      omega (
        arith,
        drawn_source a.x f.x a.w SW x d.0,
        mul-le-mul_right SW (drawn_source a.y f.y a.h SH y d.1),
        mul_comm SW SH,
      )

  abbrev taken : ℕ → ℕ
  taken i = positive (source_at a.x f.x (i % W)) + positive (source_at a.y f.y (i / W)) * SW

  -- from other bytes, as many as the source's sides require
  from_part : (src m : List ℕ) → 0 < W → length m ≡ size W H → length src ≡ size SW SH → blit_from B t c src m ≡ blit_part a f t c src SW SH W m
  from_part src m some long full =
      all_rows_held B t c src m some long full
      ∙ painted_same (words_of W (region B)) (words_of W (region B)) (λ i. applied t c (word src (source_word B (i % W) (i / W))) (word m i))
      (λ i. applied t c (word src (taken i)) (word m i)) m
      (λ i lt. refl)
      (λ i lt e. ap (λ (k : ℕ). applied t c (word src k) (word m i)) (omega arith))

  module _ (mem other : List ℕ) (p q : ℕ) (to : Inside (length mem) p W H) (from : Inside (length other) q SW SH) where
    -- the part after it was lent
    pub drawn_between : {b : Blit} {due : Bool} {ys : List ℕ} → b ≡ B
        → (due ≡ marks b) × (ys ≡ blit_from b t c (part other q (q + size SW SH - q)) (part mem p (p + size W H - p)))
        → (due ≡ marks B) × (put_mid p (p + size W H - p) mem ys
        ≡ with_part mem p (size W H) (blit_part a f t c (part other q (size SW SH)) SW SH W (part mem p (size W H))))
    drawn_between e (mark, g) =
        let n : p + size W H - p ≡ size W H = omega arith in
        let k : q + size SW SH - q ≡ size SW SH = omega arith in
        let d =
        from_part (part other q (size SW SH)) (part mem p (size W H)) to.some
        (length_part mem p (size W H) to.fits) (length_part other q (size SW SH) from.fits) in
        (mark ∙ ap marks e, rw (g, n, k, e, drop-drop, d))

  -- from a surface of the same memory, given by the words where both begin
  module _ (m : List ℕ) (at src-at : ℕ) (room : 2 * at + size W H ≤ length m) where
    abbrev source : List ℕ
    source = part m (2 * src-at) (size SW SH)

    abbrev Region : ℕ → Bool
    Region i = between at (at + W * H) i && words_of W (region B) (i - at)

    abbrev Old : ℕ → ℕ
    Old i = applied t c (word m (src-at + source_word B ((i - at) % W) ((i - at) / W))) (word m i)

    abbrev New : ℕ → ℕ
    New i = applied t c (word source (taken i)) (word (part m (2 * at) (size W H)) i)

    same_word : (i : ℕ) → Region i ≡ true → Old i ≡ New (i - at)
    same_word i e =
        let d = both (between at (at + W * H) i) (words_of W (region B) (i - at)) e in
        let h = bounds at (at + W * H) i d.0 in
        let lt = source_lt ((i - at) % W) ((i - at) / W) d.1 in
        let x : src-at + source_word B ((i - at) % W) ((i - at) / W) ≡ src-at + taken (i - at) = omega arith in
        let y : i ≡ at + (i - at) = omega arith in
        ap (λ (k : ℕ). applied t c (word m k) (word m i)) x
        ∙ ap (λ (k : ℕ). applied t c k (word m i)) (sym (word_part m src-at (SW * SH) (taken (i - at)) (omega arith)))
        ∙ ap (λ (k : ℕ). applied t c (word source (taken (i - at))) k)
        (ap (word m) y ∙ sym (word_part m at (W * H) (i - at) (omega arith)))

    within_part : blit_within B at src-at t c m ≡ with_part m (2 * at) (size W H) (blit_part a f t c source SW SH W (part m (2 * at) (size W H)))
    unfolding blit_within
    within_part =
        painted_same Region Region Old (λ i. New (i - at)) m (λ i lt. refl) (λ i lt e. same_word i e)
        ∙ sym (part_painted (words_of W (region B)) New m at (W * H) room)

  module _ (m : List ℕ) (p q : ℕ) (to : Inside (length m) p W H) (from : Inside (length m) q SW SH) (side : SameOrApart p W H q SW SH) where
    -- both surfaces by their words
    pub placed : {b : Blit} → b ≡ B → Placed (length m) (p / 2) (q / 2) b
    placed g =
        rw g (record {
          some = to.some;
          narrow = to.wide;
          some_source = from.some;
          room = omega (arith, side.whole, to.fits);
          room_source = omega (arith, side.whole_source, from.fits);
          apart = by side.apart;
        })
      where
        by : ((p ≡ q) × ((W ≡ SW) × (H ≡ SH))) ⊎ ((p + size W H ≤ q) ⊎ (q + size SW SH ≤ p))
            → ((p / 2 ≡ q / 2) × (W ≡ SW)) ⊎ ((p / 2 + W * H ≤ q / 2) ⊎ (q / 2 + SW * SH ≤ p / 2))
        by (inl e) = inl (ap (λ (k : ℕ). k / 2) e.0, e.1.0)
        by (inr (inl e)) = inr (inl (omega (arith, side.whole, side.whole_source)))
        by (inr (inr e)) = inr (inr (omega (arith, side.whole, side.whole_source)))

    pub drawn_inside : {b : Blit} {due : Bool} {l : List ℕ} → b ≡ B
        → (due ≡ marks b) × (l ≡ blit_within b (p / 2) (q / 2) t c m)
        → (due ≡ marks B) × (l ≡ with_part m p (size W H) (blit_part a f t c (part m q (size SW SH)) SW SH W (part m p (size W H))))
    drawn_inside e (mark, g) =
        let d = within_part m (p / 2) (q / 2) (omega (arith, side.whole, to.fits)) in
        (mark ∙ ap marks e, g ∙ ap (λ (b : Blit). blit_within b (p / 2) (q / 2) t c m) e ∙ d ∙ rw (side.whole, side.whole_source))

-- where there is no source, nothing is drawn
none_inside : (z : ℤ) → inside z 0 ≡ false
none_inside (pos n) = not_right (le_z (pos 0) (pos n)) (le-ltb n 0 (omega arith))
none_inside (negsuc n) = refl

pub no_source : (a : Area) (f : Point) (t c W : ℕ) (m : List ℕ) → m ≡ blit_part a f t c [] 0 0 W m
no_source a f t c W m =
    painted_none (words_of W (drawn_at a.x a.y f.x f.y a.w a.h 0 0))
    (λ i. applied t c (word [] (positive (source_at a.x f.x (i % W)) + positive (source_at a.y f.y (i / W)) * 0)) (word m i)) m
    (λ i lt. not_left (drawn_along a.y f.y a.h 0 (i / W)) (not_right (covers a.x a.w (i % W)) (none_inside (source_at a.x f.x (i % W)))))

-- a part put back unchanged
pub part_back : (m : List ℕ) (p n : ℕ) → with_part m p n (part m p n) ≡ m
part_back m p n = rw (← drop-drop n p m, take-append-drop n (drop p m), take-append-drop p m)
