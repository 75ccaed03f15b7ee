-- A property of every refusal and of every accepted call is one of every drawing call and every move. Assumes nothing.
use Rattle.std.specs.Prelude.{Option, Some, None, Result, Err, Ok}
use mathlib.Core.Bool.{Bool, true, false, cond, ◌&&◌, ◌||◌}
use mathlib.Core.List.{List}
use mathlib.Core.Path.{◌≡◌, refl}
use Prim.Native.Nat.{ℕ, ◌≤◌}
use native.Mathlib.Omega.{arith}
use lib.Dec.{eqb, leb, ltb}
use lib.ListN.{length}
use borrow.Author.Tests.{eqb-false, le-leb, ltb-false}
use Rattle.arithmetic.proofs.Test.{neither, together}
use Rattle.rop3.specs.Rop3.{table_of, uses_src}
use Rattle.surface.specs.Refusal.{side}
use Rattle.text.specs.Ink.{unit_count}
use Rattle.gdi.specs.declared.Spot.{Spot}
use Rattle.gdi.specs.declared.GdiState.{GdiState}
use Rattle.gdi.specs.declared.Dc.{Dc}
use Rattle.gdi.specs.Record.{size, is_position}
use Rattle.gdi.specs.Lookup.{dc_of}
use Rattle.sound.specs.Sound.{sizes_fit, is_sound}
use Rattle.saved_table.specs.Table.{saved_table}
use Rattle.saved_table.specs.Held.{held_by, is_table}
use Rattle.place.specs.declared.SurfaceId.{SurfaceId}
use Rattle.place.specs.declared.NoTarget.{NoTarget}
use Rattle.place.specs.declared.Target.{Target}
use Rattle.place.specs.declared.NoTarget.TheVariants.{NoDc, NoSurface}
use Rattle.place.specs.Place.{target_of, on}
use Rattle.plan.specs.declared.Area.{Area}
use Rattle.plan.specs.declared.Point.{Point}
use Rattle.plan.specs.Answer.{done, saved}
use Rattle.plan.specs.Plan.{Plan, record_only, refuse}
use Rattle.plan.specs.Drawing.{on_target, on_source, pattern_fill_on, pattern_fill, rectangle_on, rectangle, text_on, text, blit_on, blit}
use Rattle.plan.specs.Panel.{resized, resize}
use Rattle.plan.specs.Lines.{unless_far, move_on, move_at, move_to, line_on, line_to}
use Rattle.plan.specs.Load.{loaded, load_table}
use Rattle.plan.specs.Save.{save_table}

module _ {ℓ} (P : Plan → Type ℓ) (b : GdiState) (refused : (n : ℕ) → P (refuse n b)) where
  on_target_lem : (q : Result Target NoTarget) (f : SurfaceId → Dc → Plan) → ((s : SurfaceId) (d : Dc) → P (f s d)) → P (on_target b q f)
  on_target_lem (Err NoDc) f k = refused 1
  on_target_lem (Err NoSurface) f k = refused 2
  on_target_lem (Ok t) f k = k t.id t.dc

  on_source_lem : (q : Result Target NoTarget) (f : SurfaceId → Plan) → ((s : SurfaceId) → P (f s)) → P (on_source b q f)
  on_source_lem (Err NoDc) f k = refused 3
  on_source_lem (Err NoSurface) f k = refused 4
  on_source_lem (Ok t) f k = k t.id

  pub pattern_fill_by : (dc : ℕ) (a : Area) (rop : ℕ) → ((s : SurfaceId) (d : Dc) → P (pattern_fill_on b a (table_of rop) s d)) → P (pattern_fill b dc a rop)
  unfolding pattern_fill
  pattern_fill_by dc a rop k = on_target_lem (target_of b dc) (pattern_fill_on b a (table_of rop)) k

  pub rectangle_by : (dc : ℕ) (a : Area) → ((s : SurfaceId) (d : Dc) → P (rectangle_on b a s d)) → P (rectangle b dc a)
  unfolding rectangle
  rectangle_by dc a k = on_target_lem (target_of b dc) (rectangle_on b a) k

  pub text_by : (us : List ℕ) (dc : ℕ) (at : Point) → ((s : SurfaceId) (d : Dc) → P (text_on b us (unit_count us) at s d)) → P (text b us dc at)
  unfolding text
  text_by us dc at k =
      on_target_lem (target_of b dc) (λ s d. cond (leb (unit_count us) 65535) (text_on b us (unit_count us) at s d) (refuse 10 b)) (λ s d. by s d (leb (unit_count us) 65535))
    where
      by : (s : SurfaceId) (d : Dc) (t : Bool) → P (cond t (text_on b us (unit_count us) at s d) (refuse 10 b))
      by s d true = k s d
      by s d false = refused 10

  unless_far_lem : (to : Point) {p : Plan} → (is_position to.x to.y ≡ true → P p) → P (unless_far b to p)
  unless_far_lem to {p} k = by (is_position to.x to.y) refl
    where
      by : (t : Bool) → is_position to.x to.y ≡ t → P (cond t p (refuse 11 b))
      by true e = k e
      by false e = refused 11

  pub move_by : (dc : ℕ) (to : Point) → (is_position to.x to.y ≡ true → (d : Dc) → P (move_on b dc to d)) → P (move_to b dc to)
  unfolding move_to
  move_by dc to k = by (dc_of b dc)
    where
      by : (q : Option (Spot × Dc)) → P (move_at b dc to q)
      by (Some (p, d)) = unless_far_lem to (λ e. k e d)
      by None = refused 1

  pub line_by : (dc : ℕ) (to : Point) → (is_position to.x to.y ≡ true → (s : SurfaceId) (d : Dc) → P (line_on b dc to s d)) → P (line_to b dc to)
  unfolding line_to
  line_by dc to k = on_target_lem (target_of b dc) (λ s d. unless_far b to (line_on b dc to s d)) (λ s d. unless_far_lem to (λ e. k e s d))

  pub blit_by : (dc : ℕ) (a : Area) (src : ℕ) (p : Point) (rop : ℕ) → ((s : SurfaceId) (d : Dc) → P (pattern_fill_on b a (table_of rop) s d))
      → ((s : SurfaceId) (d : Dc) (q : SurfaceId) → P (blit_on b a p (table_of rop) s d q)) → P (blit b dc a src p rop)
  unfolding blit
  blit_by dc a src p rop plain k = by (uses_src (table_of rop))
    where
      from : SurfaceId → Dc → Plan
      from s d = on_source b (target_of b src) (blit_on b a p (table_of rop) s d)

      by : (t : Bool) → P (cond t (on_target b (target_of b dc) from) (pattern_fill b dc a rop))
      by true = on_target_lem (target_of b dc) from (λ s d. on_source_lem (target_of b src) (blit_on b a p (table_of rop) s d) (k s d))
      by false = pattern_fill_by dc a rop plain

  pub resize_by : (w h : ℕ) → P (record_only b done) → (side w ≡ true → side h ≡ true → size w h ≤ b.panel_len → P (resized b w h)) → P (resize b w h)
  unfolding resize
  resize_by w h none k = by (still || present) refl (ltb 4096 w || ltb 4096 h) refl (ltb b.panel_len (size w h)) refl
    where
      still : Bool
      still = eqb w 0 || eqb h 0

      present : Bool
      present = eqb w b.width && eqb h b.height

      is_side : (n : ℕ) → eqb n 0 ≡ false → ltb 4096 n ≡ false → side n ≡ true
      is_side n e f = together (le-leb 1 n (omega (arith, eqb-false n 0 e))) (le-leb n 4096 (ltb-false 4096 n f))

      by : (s : Bool) → (still || present) ≡ s → (t : Bool) → (ltb 4096 w || ltb 4096 h) ≡ t → (u : Bool) → ltb b.panel_len (size w h) ≡ u
          → P (cond s (record_only b done) (cond t (refuse 6 b) (cond u (refuse 7 b) (resized b w h))))
      by true d t e u f = none
      by false d true e u f = refused 6
      by false d false e true f = refused 7
      by false d false e false f =
          let z = neither (eqb w 0) (eqb h 0) (neither still present d).0 in
          let n = neither (ltb 4096 w) (ltb 4096 h) e in
          k (is_side w z.0 n.0) (is_side h z.1 n.1) (ltb-false b.panel_len (size w h) f)

  pub load_by : (bytes : List ℕ) → (is_table b bytes ≡ true → sizes_fit (held_by b bytes) ≡ true → P (loaded (held_by b bytes))) → P (load_table b bytes)
  unfolding load_table
  load_by bytes k = by (is_table b bytes) refl (sizes_fit (held_by b bytes)) refl
    where
      by : (t : Bool) → is_table b bytes ≡ t → (u : Bool) → sizes_fit (held_by b bytes) ≡ u → P (cond t (cond u (loaded (held_by b bytes)) (refuse 7 b)) (refuse 12 b))
      by true e true f = k e f
      by true e false f = refused 7
      by false e u f = refused 12

  pub save_by : (room : ℕ) → P (record_only b (saved (saved_table b))) → P (save_table b room)
  unfolding save_table
  save_by room k = by (is_sound b) (leb (length (saved_table b)) room)
    where
      by : (t u : Bool) → P (cond t (cond u (record_only b (saved (saved_table b))) (refuse 13 b)) (refuse 9 b))
      by true true = k
      by true false = refused 13
      by false u = refused 9
