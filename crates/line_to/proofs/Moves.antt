-- The record with a DC at another position, and the plans of moves and lines by what the lookups find. Assumes nothing.
use Rattle.std.specs.Prelude.{Option, Some, None}
use mathlib.Core.Bool.{Bool, true, false, cond}
use mathlib.Core.List.{List}
use mathlib.Core.Path.{◌≡◌, refl, sym, ◌∙◌, ap, ap₂}
use Prim.Native.Nat.{ℕ}
use mir.Val.{SFits}
use mir.Syntax.{w32}
use Rattle.arithmetic.proofs.Machine.{held32, stored32}
use Rattle.gdi.specs.declared.Dc.{Dc}
use Rattle.gdi.specs.declared.GdiState.{GdiState}
use Rattle.gdi.specs.declared.Spot.{Spot}
use Rattle.gdi.specs.Record.{is_position}
use Rattle.gdi.specs.Lookup.{dc_of}
use Rattle.gdi.specs.Updates.{with_dc, with_position}
use Rattle.numbers.specs.View.{view, is_record, Updated}
use Rattle.ready.proofs.Ready.{Lent}
use Rattle.place.specs.declared.Site.{Site}
use Rattle.place.specs.declared.SurfaceId.{SurfaceId}
use Rattle.place.specs.Place.{slot_for}
use Rattle.place.specs.Inner.{SiteFound}
use Rattle.place.proofs.Same.{Still, updated_slot}
use Rattle.paint.specs.Memories.{Memories}
use Rattle.plan.specs.declared.Point.{Point}
use Rattle.plan.specs.Answer.{refused, placed}
use Rattle.plan.specs.Plan.{Plan, refuse}
use Rattle.plan.specs.Lines.{position_of, moved_at, moved_to, unless_far, move_on, move_at, move_to, line_on, line_to}
use Rattle.plan.specs.Followed.{Followed}
use Rattle.plan.proofs.Select.{moved_still}
use Rattle.plan.proofs.Followed.{refusal, acceptance_record_only}
use Rattle.draw.proofs.Targeted.{Targeted}

-- the plan for a point in range, and for one that is not
module _ (b : GdiState) (to : Point) (p : Plan) where
  pub if_near : is_position to.x to.y ≡ true → unless_far b to p ≡ p
  if_near e = ap (λ (t : Bool). cond t p (refuse 11 b)) e

  pub if_far : is_position to.x to.y ≡ false → unless_far b to p ≡ refuse 11 b
  if_far e = ap (λ (t : Bool). cond t p (refuse 11 b)) e

-- a DC that was found is written with its new position
pub position_written : (l : List ℕ) (dc : ℕ) (to : Point) {p : Spot} {d d' : Dc} {l' : List ℕ} → SFits w32 to.x → SFits w32 to.y → dc_of (view l) dc ≡ Some (p, d)
    → d' ≡ with_position d (held32 to.x) (held32 to.y) → Updated l (with_dc (view l) dc p d') l' → Updated l (moved_to (view l) dc to) l'
position_written l dc to fx fy f g u = rw (f, ← stored32 to.x fx, ← stored32 to.y fy, ← g) u

module _ (l : List ℕ) (dc : ℕ) (to : Point) {q : Option (Spot × Dc)} (e : q ≡ dc_of (view l) dc) where
  -- a move
  module _ (ms : Memories) where
    move_is : (r : Option (Spot × Dc)) → q ≡ r → move_to (view l) dc to ≡ move_at (view l) dc to r
    unfolding move_to
    move_is r f = ap (move_at (view l) dc to) (sym e ∙ f)

    pub move_made : {p : Spot} {d : Dc} {o : Point} {l' : List ℕ} → q ≡ Some (p, d) → is_position to.x to.y ≡ true → o ≡ position_of d → Updated l (moved_to (view l) dc to) l'
        → Followed (move_to (view l) dc to) l ms (placed o) l' ms
    move_made {p} {d} f near o u = acceptance_record_only refl (move_is (Some (p, d)) f ∙ if_near (view l) to (move_on (view l) dc to d) near ∙ rw o refl) u

    pub move_far : {p : Spot} {d : Dc} → q ≡ Some (p, d) → is_position to.x to.y ≡ false → is_record l ≡ true → Followed (move_to (view l) dc to) l ms (refused 11) l ms
    move_far {p} {d} f far r = refusal r (move_is (Some (p, d)) f ∙ if_far (view l) to (move_on (view l) dc to d) far)

    pub move_no_dc : q ≡ None → is_record l ≡ true → Followed (move_to (view l) dc to) l ms (refused 1) l ms
    move_no_dc f r = refusal r (move_is None f)

-- a line by its DC's target
pub line_on_lem : (b : GdiState) (dc : ℕ) (to : Point) → Targeted (line_to b dc to) b dc (λ s d. unless_far b to (line_on b dc to s d))
unfolding line_to
line_on_lem b dc to = record { plan = refl }

-- every bitmap's record stays in its slot
moved_slot : (b : GdiState) (dc : ℕ) (to : Point) (u : SurfaceId) → slot_for (moved_to b dc to) u ≡ slot_for b u
moved_slot b dc to u = by (dc_of b dc) refl
  where
    by : (q : Option (Spot × Dc)) → dc_of b dc ≡ q → slot_for (moved_at b dc to q) u ≡ slot_for b u
    by (Some (p, d)) e = updated_slot b dc _ e u
    by None e = refl

-- numbers that were updated to the record with a DC at another position: still lent, and every surface at its site
module _ (l : List ℕ) {l₁ : List ℕ} (dc : ℕ) (to : Point) (near : is_position to.x to.y ≡ true) (u : Updated l (moved_to (view l) dc to) l₁) where
  pub moved_in_place : Still (view l) (view l₁)
  moved_in_place = rw u.same (moved_still (view l) dc to near)

  pub moved_lent : {n k : ℕ} → Lent l n k → Lent l₁ n k
  moved_lent i =
      let t = moved_in_place in
      record { is_record_lem = u.is_record_lem; ready = record { sound = t.sound i.ready.sound; panel = i.ready.panel ∙ sym t.panel_len; store = i.ready.store ∙ sym t.store_len } }

  pub moved_site : {s : SurfaceId} {i : Site} → SiteFound (view l) s i → SiteFound (view l₁) s i
  moved_site {s} w =
      let t = moved_in_place in
      record {
        same = w.same ∙ sym (ap₂ {C = Site} (λ at slot. record { at = at; slot = slot }) (t.places s) (rw u.same (moved_slot (view l) dc to s)));
        within = rw (t.panel_len, t.store_len) w.within;
      }
