-- A further parameter of an operation: its place in the signature, and what it is on the machine. No statement about it is made at exit.
--     Param n          such a parameter, in a signature of n lifetimes.        int, number, colour, slice     an `i32`, a `u32`, an `Rgb565`, and a shared slice at the second lifetime
--     slots, tys, spells, tells, rests, silents     of a list of them, what `Operation.antt` asks.        all_fit     their machine values are of their types
-- `all_fit` takes `Logic`. The rest assumes nothing.
use mathlib.Core.Path.{◌≡◌, refl}
use Prim.Native.Nat.{ℕ}
use mathlib.Core.List.{List, [], ◌∷◌}
use seplogic.Ra.Ura.{Ura}
use mir.Syntax.{Ty, named, imm, w32, ty_int, ty_ref}
use mir.Val.{Val}
use base.Fml.{ftrue}
use types.Logic.{Logic}
use contract.Lifetimes.{Lfts}
use denote.Builtin.{u32, i32}
use denote.Exit.{yes, Last, left}
use denote.Laws.{Is, Ises, Are, Spells, Tells, Tellss, Typed, Typed-app, valss}
use denote.Memory.{pointee}
use denote.Plain.{uint_vals, uint_Tells, uint_Lawful}
use denote.RattleType.{RattleType, Denots, flat}
use denote.Signature.{Slot, plain, shr_slice, types_at}
use denote.Signed.{sint_vals, sint_Tells, sint_Lawful}
use denote.Slice.{slice_ty, shr_slice_vals, shr_slice_Tells, shr_slice_Lawful}
use denote.Struct.Laws as LL
use denote.Triple.End.{all, Fins}
use Rattle.color.specs.contracts.Rgb565 as Rgb
use Rattle.color.proofs.Rgb565.TheLaws as Rgb'

pub record Param (n : ℕ) : Type 2 where
  pub slot : Slot n
  pub ty : Ty
  pub spell : (κs : Lfts n) → (slot.row κs).Denot → List Val
  pub tell : (κs : Lfts n) → Tells (slot.row κs) (Is (slot.row κs)) (spell κs)
  pub fit : {M : Type 1} {𝓤 : Ura M} (𝓛 : Logic 𝓤) → (κs : Lfts n) (x : (slot.row κs).Denot) (vs : List Val) → Is (slot.row κs) x vs → Typed (ty ∷ []) vs
  pub rest : (κs : Lfts n) (x : (slot.row κs).Denot) → Last ((slot.row κs).exit yes) x
  pub silent : (κs : Lfts n) (x : (slot.row κs).Denot) (f : Last ((slot.row κs).exit yes) x) → left ((slot.row κs).exit yes) x f ≡ ftrue

module _ {n : ℕ} where
  abbrev pub int : Param n
  int = record {
    slot = plain (λ _. i32);
    ty = ty_int w32;
    spell = λ κs. sint_vals w32;
    tell = λ κs. sint_Tells w32;
    fit = λ 𝓛 κs. (sint_Lawful 𝓛 w32).typed;
    rest = λ κs x. tt;
    silent = λ κs x f. refl;
  }

  abbrev pub number : Param n
  number = record {
    slot = plain (λ _. u32);
    ty = ty_int w32;
    spell = λ κs. uint_vals w32;
    tell = λ κs. uint_Tells w32;
    fit = λ 𝓛 κs. (uint_Lawful 𝓛 w32).typed;
    rest = λ κs x. tt;
    silent = λ κs x f. refl;
  }

  abbrev pub colour : Param n
  colour = record {
    slot = plain (λ _. Rgb.the_row);
    ty = Rgb'.mir;
    spell = λ κs. LL.vals Rgb.the_type Rgb'.the_laws;
    tell = λ κs. LL.tells Rgb.the_type Rgb'.the_laws;
    fit = λ 𝓛 κs. (LL.lawful Rgb.the_type Rgb'.the_laws 𝓛).typed;
    rest = λ κs x. tt;
    silent = λ κs x f. refl;
  }

-- `&[R]`, at the lifetime after the surface's
abbrev pub slice : RattleType → Param 2
slice R = record {
  slot = shr_slice 1 tt (λ _. R);
  ty = slice_ty (ty_ref (named 1) imm (pointee R.written));
  spell = λ κs. shr_slice_vals;
  tell = λ κs. shr_slice_Tells (named 1) κs.1.0 R;
  fit = λ 𝓛 κs. (shr_slice_Lawful 𝓛 (named 1) κs.1.0 R).typed;
  rest = λ κs x. tt;
  silent = λ κs x f. refl;
}

-- ---- a list of them
module _ {n : ℕ} where
  abbrev pub slots : List (Param n) → List (Slot n)
  slots [] = []
  slots (P ∷ Ps) = P.slot ∷ slots Ps

  abbrev pub tys : List (Param n) → List Ty
  tys [] = []
  tys (P ∷ Ps) = P.ty ∷ tys Ps

  abbrev pub spells : (Ps : List (Param n)) (κs : Lfts n) → Spells (types_at (slots Ps) κs)
  spells [] κs = tt
  spells (P ∷ Ps) κs = (P.spell κs, spells Ps κs)

  abbrev pub tells : (Ps : List (Param n)) (κs : Lfts n) → Tellss (types_at (slots Ps) κs) (Ises (types_at (slots Ps) κs)) (spells Ps κs)
  tells [] κs = tt
  tells (P ∷ Ps) κs = (P.tell κs, tells Ps κs)

  abbrev pub rests : (Ps : List (Param n)) (κs : Lfts n) (e : Denots (types_at (slots Ps) κs)) → Fins κs (slots Ps) (all yes (slots Ps)) e
  rests [] κs e = tt
  rests (P ∷ Ps) κs e = (P.rest κs e.0, rests Ps κs e.1)

  pub all_fit : {M : Type 1} {𝓤 : Ura M} (𝓛 : Logic 𝓤) → (Ps : List (Param n)) (κs : Lfts n) (e : Denots (types_at (slots Ps) κs))
      → Are (types_at (slots Ps) κs) (Ises (types_at (slots Ps) κs)) e (valss (types_at (slots Ps) κs) (spells Ps κs) e) → Typed (tys Ps) (flat (types_at (slots Ps) κs) (valss (types_at (slots Ps) κs) (spells Ps κs) e))
  all_fit 𝓛 [] κs e are = tt
  all_fit 𝓛 (P ∷ Ps) κs e are =
      Typed-app (P.ty ∷ []) (tys Ps) (P.spell κs e.0) (flat (types_at (slots Ps) κs) (valss (types_at (slots Ps) κs) (spells Ps κs) e.1)) (P.fit 𝓛 κs e.0 (P.spell κs e.0) are.0) (all_fit 𝓛 Ps κs e.1 are.1)
