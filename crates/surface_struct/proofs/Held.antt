-- What is known at exit of a `Surface` that was passed by value, and whose bytes were passed on to a callee: their last list, and the closed borrow.
--     SurfaceS         the struct's place in a signature, whose first lifetime is the surface's
--     surface_gave     what is had of it at exit (`Denote/Triple/Walked.antt`'s `Stay`).        surface_goes     the law for it
-- The law takes `Logic`. The rest assumes nothing.
use mathlib.Core.Path.{refl}
use Prim.Native.Nat.{ℕ, suc}
use mathlib.Core.List.{List, [], ◌∷◌}
use seplogic.Ra.Ura.{Ura}
use mir.Syntax.{Sym, named}
use types.Logic.{Logic}
use denote.Builtin.{u8, u32}
use denote.Exit.{yes}
use denote.Signature.{Slot, plain, mut_slice, named_lft}
use denote.Signature.Struct.{struct_at}
use denote.Triple.Walked.{Stay, Fields, stay_none, gave_slice, stay_struct_at, stay_declared, Goes, Goes-none, Goes-gave_slice, Goes-struct_at, Goes-declared}
use Rattle.surface_struct.specs.declared.Surface.{Surface}
use Rattle.surface_struct.specs.contracts.Surface as T

abbrev name : Sym
name = (T.struct (record { mir = named 0; lft = [] })).name

module _ (k : ℕ) where
  -- the struct's fields, as places of the signature
  abbrev slots : List (Slot (suc k))
  slots = mut_slice 0 tt (λ _. u8) ∷ plain (λ _. u32) ∷ plain (λ _. u32) ∷ []

  abbrev pub SurfaceS : Slot (suc k)
  SurfaceS = plain (λ κs. T.the_row (named_lft (suc k) 0 tt κs))

  abbrev gives : Fields slots yes
  gives = (gave_slice (0 ∷ []) tt (plain (λ _. u8)), (stay_none (λ _. u32) yes, (stay_none (λ _. u32) yes, tt)))

  abbrev pub surface_gave : Stay SurfaceS yes
  surface_gave = stay_declared (struct_at name (named 0 ∷ []) slots) yes (stay_struct_at name (named 0 ∷ []) slots yes gives) Surface (λ κs. (T.the_type (named_lft (suc k) 0 tt κs)).to) (λ κs. (T.the_type (named_lft (suc k) 0 tt κs)).to_one)

module _ {M : Type 1} {𝓤 : Ura M} (𝓛 : Logic 𝓤) (k : ℕ) where
  pub surface_goes : Goes 𝓛 (suc k) (SurfaceS k) yes (surface_gave k)
  surface_goes =
      Goes-declared 𝓛 (suc k) (struct_at name (named 0 ∷ []) (slots k)) yes (stay_struct_at name (named 0 ∷ []) (slots k) yes (gives k)) Surface (λ κs. (T.the_type (named_lft (suc k) 0 tt κs)).to) (λ κs. (T.the_type (named_lft (suc k) 0 tt κs)).to_one)
      (Goes-struct_at 𝓛 (suc k) name (named 0 ∷ []) (slots k) yes (gives k) (Goes-gave_slice 𝓛 (suc k) 0 tt (plain (λ _. u8)), (Goes-none 𝓛 (suc k) (λ _. u32) yes (λ κs x f. refl), (Goes-none 𝓛 (suc k) (λ _. u32) yes (λ κs x f. refl), tt))))
