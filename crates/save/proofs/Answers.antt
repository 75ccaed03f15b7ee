-- What a save answers: of an unsound record, into an output that is too short, and accepted. Assumes nothing.
use mathlib.Core.Bool.{Bool, true, false, cond, ◌&&◌, true≢false}
use mathlib.Core.List.{List}
use mathlib.Core.Path.{◌≡◌, refl, ◌∙◌, ap}
use Prim.Native.Nat.{ℕ, ◌≤◌, ◌<◌}
use native.Mathlib.Omega.{arith}
use lib.Dec.{leb}
use lib.ListN.{length}
use borrow.Author.Tests.{le-leb, lt-leb}
use Rattle.arithmetic.proofs.Test.{both}
use Rattle.numbers.specs.View.{view, is_record}
use Rattle.sound.specs.Sound.{is_sound}
use Rattle.saved_table.specs.Table.{saved_table}
use Rattle.plan.specs.Answer.{Parts, refused, saved}
use Rattle.plan.specs.Plan.{refuse, record_only}
use Rattle.plan.specs.Save.{save_table}
use Rattle.plan.specs.Calls.{plan, plan_on}
use Rattle.save.specs.Save.{save_answer}

module _ (l : List ℕ) (n : ℕ) where
  -- the answer by the three tests: the numbers are a record, the record is sound, the table fits the output
  abbrev answer_by : (r s f : Bool) → Parts
  answer_by true true true = saved (saved_table (view l))
  answer_by true true false = refused 13
  answer_by true false f = refused 9
  answer_by false s f = refused 9

  is_answer : save_answer l n ≡ answer_by (is_record l) (is_sound (view l)) (leb (length (saved_table (view l))) n)
  unfolding plan_on plan save_table
  is_answer = by (is_record l) (is_sound (view l)) (leb (length (saved_table (view l))) n)
    where
      by : (r s f : Bool) → (cond r (cond s (cond f (record_only (view l) (saved (saved_table (view l)))) (refuse 13 (view l))) (refuse 9 (view l))) (refuse 9 (view l))).outcome.answer ≡ answer_by r s f
      by true true true = refl
      by true true false = refl
      by true false f = refl
      by false s f = refl

  pub unsound : (is_record l && is_sound (view l)) ≡ false → save_answer l n ≡ refused 9
  unsound t = is_answer ∙ by (is_record l) (is_sound (view l)) (leb (length (saved_table (view l))) n) t
    where
      by : (r s f : Bool) → (r && s) ≡ false → answer_by r s f ≡ refused 9
      by true true f t = absurd (true≢false t)
      by true false f t = refl
      by false s f t = refl

  module _ (t : (is_record l && is_sound (view l)) ≡ true) where
    is_record_lem : is_record l ≡ true
    is_record_lem = (both (is_record l) (is_sound (view l)) t).0

    is_sound_lem : is_sound (view l) ≡ true
    is_sound_lem = (both (is_record l) (is_sound (view l)) t).1

    pub too_short : n < length (saved_table (view l)) → save_answer l n ≡ refused 13
    too_short lt = is_answer ∙ rw (is_record_lem, is_sound_lem, lt-leb (length (saved_table (view l))) n lt)

    pub accepted : length (saved_table (view l)) ≤ n → save_answer l n ≡ saved (saved_table (view l))
    accepted le = is_answer ∙ rw (is_record_lem, is_sound_lem, le-leb (length (saved_table (view l))) n le)

  -- an accepted save answers the table of a sound record
  pub if_accepted : (save_answer l n).number ≡ 0 → ((is_record l && is_sound (view l)) ≡ true) × (save_answer l n ≡ saved (saved_table (view l)))
  if_accepted z = by (is_record l) (is_sound (view l)) (leb (length (saved_table (view l))) n) is_answer
    where
      by : (r s f : Bool) → save_answer l n ≡ answer_by r s f → ((r && s) ≡ true) × (save_answer l n ≡ saved (saved_table (view l)))
      by true true true e = (refl, e)
      by true true false e = absurd (omega (arith, ap (λ (a : Parts). a.number) e, z))
      by true false f e = absurd (omega (arith, ap (λ (a : Parts). a.number) e, z))
      by false s f e = absurd (omega (arith, ap (λ (a : Parts). a.number) e, z))
