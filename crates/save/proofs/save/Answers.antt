-- `save::save` meets its contract. Assumes nothing.
use mathlib.Core.List.{List, ◌++◌}
use mathlib.Core.Path.{◌≡◌, refl, sym, ◌∙◌, ap}
use Prim.Native.Nat.{ℕ}
use native.Mathlib.Omega.{arith}
use lib.ListN.{length, drop}
use Rattle.plan.specs.Answer.{Parts}
use Rattle.save.specs.Save.{save_answer, Saved}
use Rattle.save.specs.declared.Saving.{Saving}
use Rattle.save.proofs.Answers.{unsound, too_short, accepted}
use Rattle.save.proofs.save.Goals as goal

-- a save whose answer is known
met : {l out : List ℕ} {a : Parts} {r : Saving} {out' : List ℕ} → save_answer l (length out) ≡ a → r.refusal ≡ a.number → r.length ≡ a.value
    → out' ≡ a.bytes ++ drop (length a.bytes) out → Saved l out r out'
met {out = out} e f g h =
    record {
      refusal = f ∙ ap (λ (x : Parts). x.number) (sym e);
      length = g ∙ ap (λ (x : Parts). x.value) (sym e);
      bytes = h ∙ ap (λ (x : Parts). x.bytes ++ drop (length x.bytes) out) (sym e);
    }

-- The numbers are no sound record: refused with 9.
pub returns-then-not-is_sound : goal.returns-then-not-is_sound
returns-then-not-is_sound c =
    met (unsound _ _ (sym c.is_sound.ensures ∙ c.if-not-is_sound.true)) refl refl refl

-- The table is longer than the output: refused with 13.
pub returns-then-out-n : goal.returns-then-out-n
returns-then-out-n c =
    met (too_short _ _ (sym c.is_sound.ensures ∙ c.if-not-is_sound.false) (omega (arith, c.table_len-n.ensures.value))) refl refl refl

-- The table fits: its length is answered, and the output begins with it.
pub returns : goal.returns
returns c =
    let e = c.table_len-n.ensures.value in
    met (accepted _ _ (sym c.is_sound.ensures ∙ c.if-not-is_sound.false) (omega (arith, e))) refl e c.put_table.ensures
