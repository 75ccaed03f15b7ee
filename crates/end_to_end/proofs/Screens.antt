-- From open to a saved screen, through `perform` and through the C function. Assumes nothing.
use mathlib.Core.Bool.{cond}
use mathlib.Core.List.{List, [], ◌∷◌, ◌++◌}
use mathlib.Core.Logic.{inl, inr}
use mathlib.Core.Path.{◌≡◌, refl, ◌∙◌, ap}
use Prim.Native.Nat.{ℕ}
use native.Mathlib.Omega.{arith}
use Rattle.ready.specs.Ready.{common_refusal}
use Rattle.place.specs.declared.SurfaceId.TheVariants.{Panel}
use Rattle.paint.specs.Taint.{Taint}
use Rattle.noninterference.proofs.After.{Untainted, none_after}
use Rattle.end_to_end.specs.Lists.{FlatDevice, refuses_all_on, Entry, through_perform, through_host, Made, none, then, calls_of}
use Rattle.end_to_end.specs.Screens.{SameScreen, Session, EqualLengths, Between, SameSession, ScreensAgree}
use Rattle.end_to_end.proofs.Entries.{served_record, Lawful, perform_lawful, host_lawful}
use Rattle.end_to_end.proofs.Lists.{Linked, linked_same, linked_pixels, linked_of, made_linked, made_ready, made_refused}
use Rattle.end_to_end.proofs.Fresh.{nothing, opened_linked, opened_settled}
use Rattle.end_to_end.proofs.Snapshots.{Settled, same_snapshots}

-- the number with which every call is refused follows from the record and the lengths
refusals_same : {m : Taint} {s t : FlatDevice} → Linked m s t → refuses_all_on s ≡ refuses_all_on t
refusals_same l = linked_same l (λ r b n k. cond r (common_refusal b n k) 9) (λ b b' n k n' k'. refl)

-- two linked flat devices show the same if no pixel is tainted
same_screen : {m : Taint} {s t : FlatDevice} → Linked m s t → Untainted m → Settled s → SameScreen s t
same_screen {s = s} l clear settled =
    record {
      refusals = refusals_same l;
      records = λ z. (l.agree (served_record s z)).states;
      pixels = λ u x y i. linked_pixels l u x y i (clear u x y);
      snapshots = λ f saves. same_snapshots l settled (λ x y i. clear Panel x y) saves;
    }

-- a point of a list
split : (e : Entry) (cs ds : List e.Argument) {s t : FlatDevice} {rs : List e.Answer} → Made e (cs ++ ds) s rs t → Between e cs ds s rs t
split e [] ds {s} {t} {rs} xs = record { point = s; first = []; rest = rs; answers = refl; before = none; after = xs }
split e (c ∷ cs) ds (then {a = a} x xs) =
    let b = split e cs ds xs in
    record { point = b.point; first = a ∷ b.first; rest = b.rest; answers = ap (λ (l : List e.Answer). a ∷ l) b.answers; before = then x b.before; after = b.after }

module _ (e : Entry) (law : Lawful e) where
  made_settled : {cs : List e.Argument} {s t : FlatDevice} {rs : List e.Answer} → Settled s → Made e cs s rs t → Settled t
  made_settled (inl z) xs = inl (made_ready e law z xs)
  made_settled (inr z) xs = inr (ap refuses_all_on (made_refused e law (λ y. omega (arith, y, z)) xs) ∙ z)

  same_session : {w h : ℕ} {cs : List e.Argument} {s t s' t' : FlatDevice} {n k : ℕ} {rs qs : List e.Answer} → EqualLengths s t → Session e w h cs s n rs s' → Session e w h cs t k qs t'
      → SameSession n k rs qs s' t'
  same_session {cs = cs} q x y =
      let (number, l) = opened_linked q x.opened y.opened in
      let (answers, k) = made_linked e law l x.made y.made in
      record {
        number = number;
        answers = answers;
        screen = same_screen k (none_after (calls_of e cs) _ _ _ nothing (λ u i j z. z)) (made_settled (opened_settled x.opened) x.made);
      }

  screens_agree : ScreensAgree e
  screens_agree =
      record {
        sessions = λ w h cs s t s' t' n k rs qs q x y. same_session q x y;
        points = λ cs ds s t rs xs. split e cs ds xs;
        untainted = λ f saves cs m s t s' t' rs qs q z xs ys clear.
            same_snapshots (made_linked e law (linked_of q) xs ys).1 (inl (made_ready e law z xs)) clear saves;
      }

pub perform_screens : ScreensAgree through_perform
perform_screens = screens_agree through_perform perform_lawful

pub host_screens : ScreensAgree through_host
host_screens = screens_agree through_host host_lawful
