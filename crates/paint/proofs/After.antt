-- The taint after each kind of paint, exactly. Assumes nothing.
use mathlib.Core.Bool.{Bool, true, false, cond, ◌&&◌, ◌||◌}
use mathlib.Core.Logic.Iff
use mathlib.Core.Logic.{◌↔◌, ◌⊎◌, inl, inr}
use mathlib.Core.Path.{◌≡◌, refl, sym, ◌∙◌}
use Prim.Native.Nat.{ℕ}
use borrow.Author.Tests.{eq-eqb}
use Rattle.arithmetic.proofs.Test.{and-true, and-false, neither}
use Rattle.rop3.specs.Rop3.{uses_src, uses_dst}
use Rattle.place.specs.declared.Memory.{Memory}
use Rattle.place.specs.declared.SurfaceId.{SurfaceId}
use Rattle.place.specs.declared.SurfaceId.TheVariants.{Panel, Bitmap}
use Rattle.place.specs.Place.{same}
use Rattle.place.proofs.Apart.{clash}
use Rattle.paint.specs.Paint.{Draw, draw, blank, close, only}
use Rattle.paint.specs.Taint.{Taint, sample_tainted, Reads, by_d, by_s, tainted_by, Exactly, Untaints, everywhere}

same_self : (s : SurfaceId) → same s s ≡ true
same_self Panel = refl
same_self (Bitmap h) = eq-eqb h h refl

-- the same by another rule that holds of the same pixels
pub ruled : {m n : Taint} {s : SurfaceId} {r : (x y : ℕ) → Bool} {f g : (x y : ℕ) → Type 0} → Exactly m n s r f → ((x y : ℕ) → f x y ↔ g x y) → Exactly m n s r g
ruled e i = record { drawn = λ x y t. Iff.trans (e.drawn x y t) (i x y); others = e.others }

-- a drawing taints the pixels that read a tainted one
one : (m : Taint) (d : Draw) → Exactly m (tainted_by (draw d) m) d.target d.region (Reads m d d.target)
unfolding tainted_by
one m d = record { drawn = λ x y t. rw (same_self d.target, t) Iff.rfl; others = λ u x y f. rw f Iff.rfl }

-- a drawing reads the destination and the source pixel
reads : (m : Taint) (d : Draw) (s : SurfaceId) (x y : ℕ)
    → Reads m d s x y ↔ (((uses_dst d.table ≡ true) × m s x y) ⊎ ((uses_src d.table ≡ true) × sample_tainted m d.source x y))
reads m d s x y = (by, back)
  where
    by : Reads m d s x y → ((uses_dst d.table ≡ true) × m s x y) ⊎ ((uses_src d.table ≡ true) × sample_tainted m d.source x y)
    by (by_d e i) = inl (e, i)
    by (by_s e i) = inr (e, i)

    back : ((uses_dst d.table ≡ true) × m s x y) ⊎ ((uses_src d.table ≡ true) × sample_tainted m d.source x y) → Reads m d s x y
    back (inl i) = by_d i.0 i.1
    back (inr i) = by_s i.0 i.1

pub draw_exact : (m : Taint) (d : Draw) → Exactly m (tainted_by (draw d) m) d.target d.region
    (λ x y. ((uses_dst d.table ≡ true) × m d.target x y) ⊎ ((uses_src d.table ≡ true) × sample_tainted m d.source x y))
draw_exact m d = ruled (one m d) (reads m d d.target)

-- two drawings on one surface that untaint what they draw
module _ {m n o : Taint} {s : SurfaceId} {f g : (x y : ℕ) → Bool} (e : Untaints m n s f) (i : Untaints n o s g) where
  either_drawn : (x y : ℕ) (t u : Bool) → f x y ≡ t → g x y ≡ u → (t || u) ≡ true → o s x y ↔ ⊥
  either_drawn x y t true p q z = i.drawn x y q
  either_drawn x y true false p q z = Iff.trans (i.others s x y (rw q (and-false (same s s)))) (e.drawn x y p)
  either_drawn x y false false p q z = clash z

  neither_drawn : (u : SurfaceId) (x y : ℕ) (t : Bool) → same u s ≡ t → (t && (f x y || g x y)) ≡ false → o u x y ↔ m u x y
  neither_drawn u x y true p z =
      let k = neither (f x y) (g x y) z in
      Iff.trans (i.others u x y (rw (p, k.1))) (e.others u x y (rw (p, k.0)))
  neither_drawn u x y false p z = Iff.trans (i.others u x y (rw p)) (e.others u x y (rw p))

  pub two_exact : Untaints m o s (λ x y. f x y || g x y)
  two_exact = record { drawn = λ x y z. either_drawn x y (f x y) (g x y) refl refl z; others = λ u x y z. neither_drawn u x y (same u s) refl z }

-- one surface loses its taint: the one that is blanked, or a deleted bitmap
cleared : (m : Taint) (s : SurfaceId) → Untaints m (λ u x y. cond (same u s) ⊥ (m u x y)) s everywhere
cleared m s =
    record {
      drawn = λ x y t. rw (same_self s) Iff.rfl;
      others = λ u x y f. let e : same u s ≡ false = sym (and-true (same u s)) ∙ f in rw e Iff.rfl;
    }

pub blank_exact : (m : Taint) (k : Memory) (p n : ℕ) (s : SurfaceId) → Untaints m (tainted_by (blank k p n (only s)) m) s everywhere
unfolding tainted_by
blank_exact m k p n s = cleared m s

pub close_exact : (m : Taint) (h p n used : ℕ) → Untaints m (tainted_by (close h p n used) m) (Bitmap h) everywhere
unfolding tainted_by
close_exact m h p n used = cleared m (Bitmap h)
