-- The plan of a call by its DC's target: refused without a DC or a surface, else the plan for the surface; and the same for
-- a source. Assumes nothing.
use Rattle.std.specs.Prelude.{Result, Err}
use mathlib.Core.Path.{◌≡◌, sym, ◌∙◌, ap}
use Prim.Native.Nat.{ℕ}
use Rattle.gdi.specs.declared.GdiState.{GdiState}
use Rattle.gdi.specs.declared.Dc.{Dc}
use Rattle.place.specs.declared.Site.{Site}
use Rattle.place.specs.declared.SurfaceId.{SurfaceId}
use Rattle.place.specs.declared.NoTarget.{NoTarget}
use Rattle.place.specs.declared.Target.{Target}
use Rattle.place.specs.declared.NoTarget.TheVariants.{NoDc, NoSurface}
use Rattle.refusals.specs.Refusal.{code_of}
use Rattle.place.specs.Place.{target_of, on, refusal_of, source_refusal_of}
use Rattle.plan.specs.Plan.{Plan, refuse}
use Rattle.plan.specs.Drawing.{on_target, on_source}

-- p is the plan of a call on the DC's surface: f gives it from the surface and the DC's record
pub record Targeted (p : Plan) (b : GdiState) (dc : ℕ) (f : SurfaceId → Dc → Plan) : Type 0 where
  pub plan : p ≡ on_target b (target_of b dc) f

module _ {p : Plan} {b : GdiState} {dc : ℕ} {f : SurfaceId → Dc → Plan} (i : Targeted p b dc f) {t : Result Target NoTarget} (e : t ≡ target_of b dc) where
  target_is : (u : Result Target NoTarget) → t ≡ u → p ≡ on_target b u f
  target_is u g = i.plan ∙ ap (λ (z : Result Target NoTarget). on_target b z f) (sym e ∙ g)

  pub no_target : (why : NoTarget) → t ≡ Err why → p ≡ refuse (code_of (refusal_of why)) b
  no_target NoDc g = target_is (Err NoDc) g
  no_target NoSurface g = target_is (Err NoSurface) g

  pub painted : {s : SurfaceId} {o : Site} {d : Dc} → t ≡ on s o d → p ≡ f s d
  painted {s} {o} {d} g = target_is (on s o d) g

-- p is the plan of a call with the surface of the DC src as its source: f gives it from that surface
pub record Sourced (p : Plan) (b : GdiState) (src : ℕ) (f : SurfaceId → Plan) : Type 0 where
  pub plan : p ≡ on_source b (target_of b src) f

module _ {p : Plan} {b : GdiState} {src : ℕ} {f : SurfaceId → Plan} (i : Sourced p b src f) {t : Result Target NoTarget} (e : t ≡ target_of b src) where
  source_is : (u : Result Target NoTarget) → t ≡ u → p ≡ on_source b u f
  source_is u g = i.plan ∙ ap (λ (z : Result Target NoTarget). on_source b z f) (sym e ∙ g)

  pub no_source : (why : NoTarget) → t ≡ Err why → p ≡ refuse (code_of (source_refusal_of why)) b
  no_source NoDc g = source_is (Err NoDc) g
  no_source NoSurface g = source_is (Err NoSurface) g

  pub from_source : {s : SurfaceId} {o : Site} {d : Dc} → t ≡ on s o d → p ≡ f s
  from_source {s} {o} {d} g = source_is (on s o d) g
