-- The bytes of a call that was read. Assumes nothing.
use mathlib.Core.Bool.{Bool, true, false, cond}
use mathlib.Core.List.{List}
use mathlib.Core.Path.{◌≡◌, refl, sym, subst, ◌∙◌}
use Prim.Native.Nat.{ℕ, ◌+◌, ◌*◌, ◌≤◌, ◌<◌}
use native.Mathlib.Omega.{arith}
use lib.Dec.{leb}
use lib.ListN.{get_or, length}
use borrow.Author.Tests.{leb-true, lt-ltb}
use Rattle.bigendian.specs.BigEndian.{be32}
use Rattle.plan.specs.declared.Call.{Call}
use Rattle.std.specs.Prelude.{Option, Some, None}
use Rattle.script.specs.declared.Entry.{Entry}
use Rattle.script.specs.declared.Entry.TheVariants.{Look, Call as Is, Load, Save}
use Rattle.script.specs.Script.{EndsWithin, Read, script_call, call_at}
use Rattle.replay.specs.Calls.{CallBytes}

-- where the text at a byte may end
abbrev TextEnds : ℕ → Option Entry → Type 0
TextEnds at None = Unit
TextEnds at (Some Look) = Unit
TextEnds at (Some (Is c next)) = (at + 17 ≤ next) × (next ≤ at + 140017)
TextEnds at (Some (Load start n)) = Unit
TextEnds at (Some (Save n next)) = Unit

units_end :
    (at n : ℕ) (few there : Bool) (c : Call) → leb n 70000 ≡ few → TextEnds at (cond few (cond there (Some (Is c (at + 1 + (16 + 2 * n)))) None) None)
units_end at n true true c e = omega (arith, leb-true n 70000 e)
units_end at n true false c e = tt
units_end at n false there c e = tt

module _ (s : List ℕ) (at : ℕ) where
  text_ends : TextEnds at (script_call 15 s (at + 1))
  unfolding script_call
  text_ends =
      let n = be32 s (at + 1 + 12) in
      units_end at n (leb n 70000) (leb (at + 1 + (16 + 2 * n)) (length s)) _ refl

  text_at : (g : Bool) → at < length s → get_or s at 0 ≡ 15 → call_at s g at ≡ script_call 15 s (at + 1)
  unfolding call_at
  text_at g lt k = rw (lt-ltb at (length s) lt, k)

module _ {s : List ℕ} {g : Bool} {at next : ℕ} {r : Option Entry} {c : Call} (h : Read s g at r) (e : r ≡ Some (Is c next)) where
  behind : (at < next) × (next ≤ length s)
  behind = subst (EndsWithin s at) e h.behind

  pub ahead : at < next
  ahead = behind.0

  pub call_bytes : at < length s → CallBytes s at next
  call_bytes lt =
      record {
        some = ahead;
        inside = behind.1;
        text = λ k. subst (TextEnds at) (sym (h.same ∙ text_at s at g lt k) ∙ e) (text_ends s at);
      }

-- a load's bytes, and a save, behind the byte of the call
module _ {s : List ℕ} {g : Bool} {at : ℕ} {r : Option Entry} (h : Read s g at r) where
  pub load_within : {start n : ℕ} → r ≡ Some (Load start n) → (at < start) × (start + n ≤ length s)
  load_within e = subst (EndsWithin s at) e h.behind

  pub save_within : {n next : ℕ} → r ≡ Some (Save n next) → (at < next) × ((next ≤ length s) × (n ≤ 16384))
  save_within e = subst (EndsWithin s at) e h.behind
