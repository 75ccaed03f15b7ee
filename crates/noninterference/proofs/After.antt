-- The taint after two lists in turn; and where nothing is tainted, no list of calls taints anything. Assumes nothing.
use mathlib.Core.Bool.{Bool, true, false, cond, ◌&&◌}
use mathlib.Core.List.{List, [], ◌∷◌, ◌++◌}
use mathlib.Core.Path.{◌≡◌, refl, subst₂}
use Prim.Native.Nat.{ℕ}
use Rattle.gdi.specs.declared.GdiState.{GdiState}
use Rattle.place.specs.declared.SurfaceId.{SurfaceId}
use Rattle.place.specs.declared.SurfaceId.TheVariants.{Bitmap}
use Rattle.place.specs.Place.{same}
use Rattle.paint.specs.Paint.{Source, black, sampled, Paint, draw, blank, close}
use Rattle.paint.specs.Taint.{Taint, sample_tainted, Reads, by_d, by_s, tainted_by, tainted}
use Rattle.plan.specs.Calls.{Invocation}
use Rattle.execution.specs.Execution.{Device, plan_for, answer, step, run}
use Rattle.execution.proofs.Steps.{step_kept}
use Rattle.noninterference.specs.Claim.{taint_after, taint_on}

-- two lists in turn taint what the joined list does
pub taint_append : (cs ds : List Invocation) (s : Device) (m : Taint) → taint_on (cs ++ ds) s m ≡ taint_on ds (run cs s).1 (taint_on cs s m)
unfolding run taint_after
taint_append [] ds s m = refl
taint_append (c ∷ cs) ds s m =
    let m' : Taint = tainted (plan_for c s).paint m in
    subst₂ (λ (n k : ℕ). taint_after (cs ++ ds) (answer c s).state n k m' ≡ taint_on ds (run cs (step c s)).1 (taint_after cs (answer c s).state n k m'))
    (step_kept c s).panel (step_kept c s).store (taint_append cs ds (step c s) m')

-- no pixel is tainted
abbrev pub Untainted : Taint → Type 0
Untainted m = (u : SurfaceId) (x y : ℕ) → m u x y → ⊥

none_taken : (m : Taint) → Untainted m → (o : Source) (x y : ℕ) → sample_tainted m o x y → ⊥
none_taken m f black x y z = z
none_taken m f (sampled s fx fy) x y z = f s (fx x) (fy y) z

-- a pixel that keeps its taint, or loses it
unless : (t : Bool) {A B : Type 0} → (A → ⊥) → (B → ⊥) → cond t A B → ⊥
unless true f g z = f z
unless false f g z = g z

none_by : (p : Paint) (m : Taint) → Untainted m → Untainted (tainted_by p m)
unfolding tainted_by
none_by (draw d) m f u x y = unless (same u d.target && d.region x y) reads (f u x y)
  where
    reads : Reads m d u x y → ⊥
    reads (by_d e z) = f u x y z
    reads (by_s e z) = none_taken m f d.source x y z
none_by (blank k p n clears) m f u x y = unless (clears u) (λ z. z) (f u x y)
none_by (close h p n used) m f u x y = unless (same u (Bitmap h)) (λ z. z) (f u x y)

none_tainted : (ps : List Paint) (m : Taint) → Untainted m → Untainted (tainted ps m)
unfolding tainted
none_tainted [] m f = f
none_tainted (p ∷ ps) m f = none_tainted ps (tainted_by p m) (none_by p m f)

pub none_after : (cs : List Invocation) (b : GdiState) (n k : ℕ) (m : Taint) → Untainted m → Untainted (taint_after cs b n k m)
unfolding taint_after
none_after [] b n k m f = f
none_after (c ∷ cs) b n k m f = none_after cs _ n k _ (none_tainted _ m f)
