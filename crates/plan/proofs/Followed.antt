-- How the steps of a call show that its plan was followed. Assumes nothing.
use mathlib.Core.Bool.{true}
use mathlib.Core.List.{List, ◌++◌}
use mathlib.Core.Path.{◌≡◌, refl, sym, ◌∙◌, ap, subst}
use Prim.Native.Nat.{ℕ}
use lib.ListN.{drop}
use Rattle.gdi.specs.declared.GdiState.{GdiState}
use Rattle.numbers.specs.Layout.{slot_place}
use Rattle.numbers.specs.View.{view, is_record, Updated}
use Rattle.numbers.proofs.Kept.{updated_same}
use Rattle.place.proofs.Same.{Still}
use Rattle.paint.specs.Memories.{Memories, memories}
use Rattle.paint.specs.Paint.{after}
use Rattle.plan.specs.Answer.{Parts, refused}
use Rattle.plan.specs.Plan.{Outcome, Plan, record_only, refuse}
use Rattle.plan.specs.Stroke.{Stroke, dirtied_by, paints_of, drawn_by}
use Rattle.plan.specs.Followed.{Followed, Slice}
use Rattle.plan.proofs.Strokes.{Stroked, dirtied_by_count, same_drawings, stroked_then}

-- Strokes were made on a flat record.
pub record StrokedOn (l : List ℕ) (ss : List Stroke) (ms : Memories) (l' : List ℕ) (ms' : Memories) : Type 0 where
  pub numbers : Updated l (dirtied_by (view l) ss) l'
  pub memories : ms' ≡ after (view l) (paints_of ss) ms

-- A relation of the two memories before and after, stated on the slices that a function is lent.
abbrev pub OnMemories : (Memories → Memories → Type 0) → (panel store : Slice) → Type 0
OnMemories R panel store = R (memories panel.entry.now store.entry.now) (memories panel.exit.now store.exit.now)

-- two updates in turn, with the number of objects kept
pub updated_twice : {l l₁ l' : List ℕ} {b₁ b : GdiState} → b.count ≡ b₁.count → Updated l b₁ l₁ → Updated l₁ b l' → Updated l b l'
updated_twice {l} {l₁} e s t = record { is_record_lem = t.is_record_lem; same = t.same; rest = t.rest ∙ subst (λ (n : ℕ). drop (slot_place n) l₁ ≡ drop (slot_place n) l) (sym e) s.rest }

-- an equal plan
pub followed_as : {p q : Plan} {l : List ℕ} {ms : Memories} {a : Parts} {l' : List ℕ} {ms' : Memories} → p ≡ q → Followed q l ms a l' ms' → Followed p l ms a l' ms'
followed_as e f = rw e f

module _ {p : Plan} {l : List ℕ} {ms : Memories} where
  -- a refusal: on a record, and on any numbers
  pub refusal : {n : ℕ} → is_record l ≡ true → p ≡ refuse n (view l) → Followed p l ms (refused n) l ms
  unfolding after
  refusal r e = record { answer = rw e; numbers = λ z. rw e (updated_same r); memories = rw e; kept = λ z. (refl, refl) }

  pub refusal_of_any : {n : ℕ} → (n ≡ 0 → ⊥) → p ≡ refuse n (view l) → Followed p l ms (refused n) l ms
  unfolding after
  refusal_of_any ne e = record { answer = rw e; numbers = λ z. absurd (ne z); memories = rw e; kept = λ z. (refl, refl) }

  -- an accepted call: in general; one that paints nothing; one that changes nothing
  pub acceptance : {b : GdiState} {a : Parts} {l' : List ℕ} {ms' : Memories} → a.number ≡ 0 → p.outcome ≡ record { state = b; answer = a }
      → Updated l b l' → ms' ≡ after (view l) p.paint ms → Followed p l ms a l' ms'
  acceptance {l' = l'} z e s m =
      record {
        answer = sym (ap (λ (o : Outcome). o.answer) e);
        numbers = λ y. subst (λ (o : Outcome). Updated l o.state l') (sym e) s;
        memories = m;
        kept = λ h. absurd (h z);
      }

  pub acceptance_record_only : {b : GdiState} {a : Parts} {l' : List ℕ} → a.number ≡ 0 → p ≡ record_only b a → Updated l b l' → Followed p l ms a l' ms
  unfolding after
  acceptance_record_only z e s = acceptance z (ap (λ (q : Plan). q.outcome) e) s (rw e)

  pub acceptance_same : {a : Parts} → is_record l ≡ true → a.number ≡ 0 → p ≡ record_only (view l) a → Followed p l ms a l ms
  acceptance_same r z e = acceptance_record_only z e (updated_same r)

-- strokes on the numbers are strokes on the record that they encode; strokes made in two steps are the strokes of one list
pub stroked_on : {l l' : List ℕ} {ss : List Stroke} {ms ms' : Memories} → StrokedOn l ss ms l' ms' → Stroked (view l) ss ms (view l') ms'
stroked_on x = record { state = x.numbers.same; memories = x.memories }

pub stroked_on_then : {l l₁ l' : List ℕ} {ss ts : List Stroke} {ms ms₁ ms' : Memories} → StrokedOn l ss ms l₁ ms₁ → StrokedOn l₁ ts ms₁ l' ms' → StrokedOn l (ss ++ ts) ms l' ms'
stroked_on_then {l} {l₁} {l'} {ss} {ts} x y =
    let z = stroked_then (stroked_on x) (stroked_on y) in
    record {
      numbers = subst (λ (b : GdiState). Updated l b l') (sym y.numbers.same ∙ z.state)
          (updated_twice (dirtied_by_count ts (view l₁) ∙ ap (λ (b : GdiState). b.count) x.numbers.same) x.numbers y.numbers);
      memories = z.memories;
    }

-- a call that made the strokes of its plan
pub strokes_followed : {p : Plan} {l l' : List ℕ} {ss : List Stroke} {ms ms' : Memories} {a : Parts} → a.number ≡ 0 → p ≡ drawn_by (view l) ss a → StrokedOn l ss ms l' ms' → Followed p l ms a l' ms'
strokes_followed z e x = acceptance z (ap (λ (q : Plan). q.outcome) e) x.numbers (rw e x.memories)

-- the same of a call that first changed the record, with every surface in its place
pub updated_strokes : {p : Plan} {l l₁ l' : List ℕ} {b : GdiState} {ss : List Stroke} {ms ms' : Memories} {a : Parts} → a.number ≡ 0 → p ≡ drawn_by b ss a → Still (view l) b
    → Updated l b l₁ → StrokedOn l₁ ss ms l' ms' → Followed p l ms a l' ms'
updated_strokes {l = l} {l₁ = l₁} {l' = l'} {b = b} {ss = ss} {ms = ms} z e t u x =
    acceptance z (ap (λ (q : Plan). q.outcome) e)
    (subst (λ (r : GdiState). Updated l (dirtied_by r ss) l') u.same (updated_twice (dirtied_by_count ss (view l₁) ∙ ap (λ (r : GdiState). r.count) u.same) u x.numbers))
    (rw e (x.memories ∙ ap (λ (r : GdiState). after r (paints_of ss) ms) u.same ∙ same_drawings (view l) b t.places ss ms))
