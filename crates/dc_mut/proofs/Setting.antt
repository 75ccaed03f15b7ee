-- The proof of a setting on a lent DC, for any field: the borrow is opened, the field is read and written, and the borrow is closed.
--     Kind, Setting        what the proof needs of a setting's type, and of its field
--     function     the MIR of a function that sets it.        signature, ended     that function's signature
--     Says c       what the contract c ensures holds of the old value and of the record with the new one
--     setting_meets        that MIR meets such a contract.        clauses     the one that says just that
-- `setting_meets` takes `Logic`. The rest assumes nothing.
use mathlib.Core.Path.{◌≡◌, refl, sym, subst}
use Prim.Native.Nat.{ℕ}
use mathlib.Core.List.{[], ◌∷◌, List}
use mathlib.Core.Option.{some}
use seplogic.Ra.Ura.{Ura}
use base.Fraction.{full_share}
use lib.Dec.{T as Holds}
use mir.Syntax.{Ty, Fn, named, mut, ty_ref, place, deref, field, copy, rv_opd, seq, assign, return, value_local, local}
use mir.Val.{Val, Vals, WT, has_ty, vptr, vstruct, of_list}
use mir.Fields.{get_v, set_v}
use base.Logic.{SProp, ent, sep, emp, via, fst∗}
use base.Fml.{GName, Lft, Share, ftrue, flft, fobs, fbor, fat}
use prog.Memory.{field_of}
use prog.Wp.{Calls, Loops, WpFn, Tables}
use types.Logic.{Logic}
use contract.Lifetimes.{Lfts}
use contract.Monad.{fact}
use types.Kit.{‵, raw, ◌⊛◌, ◌$◌, ◌∵◌, !, qed, by, move, keep, drop, use0, use1, split, join, rewrite, fsplit, fsplit3, fjoin, fjoin3, feq_i, suffices, frame, done}
use types.Run.{look, init, forget, stop, hop, fld, from, load, of_opd, assigns, returns, enter, alloc1, alloc0, params1, pass1, pass0, free1, free0}
use types.Part.{whole, sub, look_in, store_in}
use types.SemTy.{Body}
use sound.WpLaws.{WpFn-mono}
use denote.RattleType.{RattleType, owns, flat}
use denote.Laws.{Is, Tells, Makes, shows, valss}
use denote.Memory.{mem, cell_at, pointee}
use denote.Ref.{MutBor, MutRef, mut_vals, mut_Tells}
use denote.Signature.{Signature, plain, mut_ref}
use denote.Steps.{opens, closes, owned, peeks, nothing}
use denote.Struct.Declared.{fields}
use denote.Struct.Steps.{spelt}
use denote.Struct.Laws as LL
use denote.Triple.Entry.{Args, on_entry}
use denote.Triple.Spec.{Meets}
use denote.Triple.Clauses.{Clauses, Ended, at_exit, closing}
use denote.Triple.Walked.{Stays, stay_ref, stay_dropped, walk_of, AllGo, Goes-dropped, Goes-ref, Walks, ends_at, walked, walk_Meets}
use denote.Exit.{yes, Last, left}
use Rattle.gdi.specs.declared.Dc.{Dc}
use Rattle.gdi.specs.contracts.Dc as T
use Rattle.gdi.proofs.Dc.TheLaws as T'

-- a DC's machine value: those of its fields, and the struct of them
abbrev pub parts : Dc → Vals
parts d = of_list (flat (fields T.the_type) (valss (fields T.the_type) (LL.spells (T.the_type).parts T'.the_laws) ((T.the_type).to d)))

abbrev pub spelled : Dc → List Val
spelled d = LL.vals T.the_type T'.the_laws d

abbrev pub IsDc : Dc → Type 0
IsDc d = Is T.the_row d (spelled d)

-- a type of settings: plain data of one machine value
pub record Kind : Type 2 where
  pub row : RattleType
  pub ty : Ty
  pub val : row.Denot → Val
  pub tells : Tells row (Is row) (λ x. val x ∷ [])
  pub typed : {M : Type 1} {𝓤 : Ura M} (𝓛 : Logic 𝓤) → (x : row.Denot) → Is row x (val x ∷ []) → Holds (has_ty ty (val x)) × WT (val x)
  pub makes : {M : Type 1} {𝓤 : Ura M} (𝓛 : Logic 𝓤) → Makes 𝓛 row (Is row)
  pub last : (x : row.Denot) → Last (row.exit yes) x
  pub silent : (x : row.Denot) (f : Last (row.exit yes) x) → left (row.exit yes) x f ≡ ftrue

-- a field of a DC: its number and offset, its value and the record with another, and what these are on the machine
pub record Setting (K : Kind) : Type 2 where
  pub at : ℕ
  pub off : ℕ
  pub there : field_of T'.mir at ≡ some (K.ty, off)
  pub old : Dc → K.row.Denot
  pub new : Dc → K.row.Denot → Dc
  pub gets : (d : Dc) → get_v (parts d) at ≡ K.val (old d)
  pub puts : (d : Dc) (x : K.row.Denot) → set_v (parts d) at (K.val x) ≡ parts (new d x)
  pub is_old : (d : Dc) → IsDc d → Is K.row (old d) (K.val (old d) ∷ [])
  pub is_new : (d : Dc) (x : K.row.Denot) → IsDc d → Is K.row x (K.val x ∷ []) → IsDc (new d x)

module _ (K : Kind) (S : Setting K) where
  abbrev pub function : Fn
  function = record {
    lifetimes = 1;
    outlives = [];
    ty_params = [];
    givens = 0;
    params = 2;
    locals = local K.ty value_local ∷ local (ty_ref (named 0) mut (pointee (T.the_row).written)) value_local ∷ local K.ty value_local ∷ local K.ty value_local ∷ [];
    body = seq (assign (place 3 []) (rv_opd (copy (place 1 (deref T'.mir ∷ field S.at ∷ [])))))
        (seq (assign (place 1 (deref T'.mir ∷ field S.at ∷ [])) (rv_opd (copy (place 2 []))))
        (seq (assign (place 0 []) (rv_opd (copy (place 3 [])))) return));
  }

  abbrev pub signature : Signature
  signature = record { lifetimes = 1; outlives = []; params = mut_ref 0 tt (λ _. T.the_row) ∷ plain (λ _. K.row) ∷ []; result = plain (λ _. K.row) }

  abbrev pub ended : Ended
  ended = record { signature = signature; kept = (yes, (yes, tt)) }

  abbrev stayed : Stays ended.signature.params ended.kept
  stayed = (stay_ref (0 ∷ []) tt (plain (λ _. T.the_row)), (stay_dropped (plain (λ _. K.row)) yes, tt))

  abbrev pub clauses : {M : Type 1} (𝓤 : Ura M) → Clauses 𝓤 ended
  clauses 𝓤 κs a = record { ghost = Unit {0}; requires = λ _. emp 𝓤; ensures = λ _ r e. fact 𝓤 ((r ≡ S.old a.0.now) × (e.0.now ≡ S.new a.0.now a.1.0)) }

  abbrev pub Says : {M : Type 1} (𝓤 : Ura M) → Clauses 𝓤 ended → Type 1
  Says 𝓤 c = (κs : Lfts 1) (a : Args signature κs) (g : (c κs a).ghost) → ent 𝓤 (emp 𝓤) ((c κs a).ensures g (S.old a.0.now) (at_exit ended κs a (S.new a.0.now a.1.0, (K.last a.1.0, tt))))

-- a fact that holds in any case is joined to P
pub and_so : {M : Type 1} {𝓤 : Ura M} (𝓛 : Logic 𝓤) → (P : SProp 𝓤) {Q : SProp 𝓤} → ent 𝓤 (emp 𝓤) Q → ent 𝓤 P (sep 𝓤 P Q)
and_so 𝓛 P {Q} q = qed 𝓛 (raw P ∷ []) ∵ use0 𝓛 (raw Q) q $ move ! (1 ∷ 0 ∷ []) $ done !

module _ {M : Type 1} {𝓤 : Ura M} (𝓛 : Logic 𝓤) (K : Kind) (S : Setting K)
    (c : Clauses 𝓤 (ended K S)) (says : Says K S 𝓤 c) (κ : Lft) (q : Share) (b o : ℕ) (γ : GName) (h : Dc) (n : K.row.Denot)
    (g : (c (κ, tt) (record { ref_ptr = (b, o); ghost_name = γ; now = h }, (n, tt))).ghost) where
  open 𝓛 use {H, A}

  abbrev Arg : Type 0
  Arg = MutBor Dc × (K.row.Denot × Unit {0})

  abbrev x : Arg
  x = (record { ref_ptr = (b, o); ghost_name = γ; now = h }, (n, tt))

  abbrev vals : List Val × (List Val × Unit {0})
  vals = (vptr b o ∷ [], (K.val n ∷ [], tt))

  abbrev h' : Dc
  h' = S.new h n

  abbrev was : Val
  was = K.val (S.old h)

  abbrev Post : Val → SProp 𝓤
  Post = (walk_of 𝓛 (ended K S) (stayed K S) c).post (((κ, tt), (q, tt), tt, x, vals), g)

  exits : IsDc h → ent 𝓤 (sep 𝓤 (A.obs γ ((T.the_row).coded.code h')) (sep 𝓤 (A.bor κ (Body (mem T.the_row) b o γ)) (A.lft κ q))) (Post was)
  exits is =
      qed 𝓛 (‵ (fobs γ ((T.the_row).coded.code h')) ∷ ‵ (fbor κ (Body (mem T.the_row) b o γ)) ∷ ‵ (flft κ q) ∷ []) ∵
      suffices ! _ (ends_at 𝓛 (ended K S) (stayed K S) c (((κ, tt), (q, tt), tt, x, vals), g) was (S.old h) (h', (K.last n, tt)) (tt, (tt, tt))) $ suffices ! _ (and_so 𝓛 _ (says (κ, tt) x g)) $ nothing ! $ move ! (3 ∷ 0 ∷ []) $ join ! $
      frame ! $ feq_i ! (List Val) (vptr b o ∷ []) (vptr b o ∷ []) refl $ fjoin3 ! $ nothing ! $ nothing ! $ fjoin ! $ move ! (1 ∷ 0 ∷ []) $ fjoin ! $
      owned ! K.row (Is K.row) (K.makes 𝓛) (S.old h) _ (S.is_old h is) $ move ! (1 ∷ 0 ∷ []) $ done !

  -- the field's machine value is of the field's type
  typed_old : IsDc h → Holds (has_ty K.ty (get_v (parts h) S.at)) × WT (get_v (parts h) S.at)
  typed_old is = subst (λ (v : Val). Holds (has_ty K.ty v) × WT v) (sym (S.gets h)) (K.typed 𝓛 (S.old h) (S.is_old h is))

  module _ (C : Calls 𝓤 H) (Λ : Loops 𝓤 H) where
    walk : Is K.row n (K.val n ∷ []) → ent 𝓤 (on_entry 𝓛 (signature K S) (κ, tt) (q, tt) x vals) (WpFn 𝓤 H C Λ (function K S) (vptr b o ∷ K.val n ∷ []) Post)
    walk is-n =
        qed 𝓛 ((‵ (flft κ q) ⊛ ‵ ftrue) ∷ ‵ (owns (MutRef (named 0) κ T.the_row ∷ K.row ∷ []) x vals) ∷ []) ∵ split ! $ move ! (2 ∷ []) $ fsplit ! $
        fsplit3 ! $ drop ! $ move ! (0 ∷ 1 ∷ 3 ∷ []) $
        -- [obs; the borrow; the token; what the new value owns; true]
        enter ! C Λ (function K S) (vptr b o ∷ K.val n ∷ []) _ $
        alloc1 ! (λ l₀. alloc1 ! (λ l₁. alloc1 ! (λ l₂. alloc1 ! (λ l₃. alloc0 ! $ params1 ! $ pass1 ! (init ! 4 refl (tt, tt)) $ pass1 ! (init ! 2 refl (K.typed 𝓛 n is-n)) $ pass0 ! $
        move ! (8 ∷ 9 ∷ 10 ∷ []) $ opens ! tt T.the_row {h = h} b o (λ vs. spelt ! T.the_row (Is T.the_row) (shows 𝓛 T.the_row) spelled (LL.tells T.the_type T'.the_laws) full_share h vs b o $
        move ! (1 ∷ []) $ peeks ! T.the_row (Is T.the_row) (shows 𝓛 T.the_row) h (spelled h) (λ is. move ! (1 ∷ 0 ∷ []) $
        use1 𝓛 (‵ (fat full_share T'.mir b o (vstruct (parts h)))) (𝓛.laws.raw_at full_share T'.mir b o (vstruct (parts h))) $
        -- [the DC's cell; what a Dc owns; the open borrow; obs; auth; room for _3; …; _2; …; _1; …; room for _0; …]
        assigns ! (of_opd ! (load ! (from ! (hop ! (look ! 9 refl) (fld ! S.there (stop !)))) (look_in ! 0 (sub ! S.at S.there (whole !))))) (from ! (stop !)) (init ! 5 refl (typed_old is)) $
        assigns ! (of_opd ! (load ! (from ! (stop !)) (look ! 7 refl))) (from ! (hop ! (look ! 9 refl) (fld ! S.there (stop !)))) (store_in ! 0 (sub ! S.at S.there (whole !)) (K.typed 𝓛 n is-n)) $
        assigns ! (of_opd ! (load ! (from ! (stop !)) (look ! 5 refl))) (from ! (stop !)) (init ! 11 refl (typed_old is)) $
        rewrite ! 11 (λ (v : Val). ‵ (fat full_share K.ty l₀ 0 v)) (S.gets h) refl $
        rewrite ! 0 (λ (vs : Vals). ‵ (fat full_share T'.mir b o (vstruct vs))) (S.puts h n) refl $
        use1 𝓛 (‵ (cell_at full_share (T.the_row).mir (spelled h') b o)) (𝓛.laws.at_raw full_share T'.mir b o (vstruct (parts h'))) $
        move ! (1 ∷ []) $ drop ! $ owned ! T.the_row (Is T.the_row) ((LL.makes T.the_type T'.the_plain) 𝓛) h' _ (S.is_new h n is is-n) $ move ! (1 ∷ 0 ∷ []) $ closes ! tt T.the_row h' (spelled h') b o $
        -- [obs; the borrow; the token; _3; …; _2; …; _1; …; _0; …]
        returns ! (look ! 9 refl) $ forget ! 3 refl $ forget ! 5 refl $ forget ! 7 refl $ forget ! 9 refl $ move ! (9 ∷ 10 ∷ []) $ free1 ! $ move ! (7 ∷ 8 ∷ []) $ free1 ! $ move ! (5 ∷ 6 ∷ []) $ free1 ! $ move ! (3 ∷ 4 ∷ []) $ free1 ! $ free0 ! $
        keep ! (0 ∷ 1 ∷ 2 ∷ []) $ by ! (exits is)))))))

module _ {M : Type 1} {𝓤 : Ura M} (𝓛 : Logic 𝓤) (K : Kind) (S : Setting K) (c : Clauses 𝓤 (ended K S)) (says : Says K S 𝓤 c) where
  open 𝓛 use {H}

  walks : (C : Calls 𝓤 H) (Λ : Loops 𝓤 H) → Walks 𝓛 (ended K S) (stayed K S) (WpFn 𝓤 H C Λ (function K S)) c
  walks C Λ = walked 𝓛 (ended K S) (stayed K S) c (WpFn 𝓤 H C Λ (function K S)) (λ κs. (mut_vals, ((λ x. K.val x ∷ []), tt))) (λ κs. (mut_Tells (named 0) κs.0 T.the_row, (K.tells, tt)))
      (λ κs qs bounds a g are. via 𝓤 _ (fst∗ 𝓤 _ ((c κs a).requires g)) (walk 𝓛 K S c says κs.0 qs.0 a.0.ref_ptr.0 a.0.ref_ptr.1 a.0.ghost_name a.0.now a.1.0 g C Λ are.1.0))

  goes : AllGo 𝓛 1 (signature K S).params (ended K S).kept (stayed K S)
  goes = (Goes-ref 𝓛 1 0 tt (plain (λ _. T.the_row)), (Goes-dropped 𝓛 1 (plain (λ _. K.row)) yes (λ κs. K.silent), tt))

  pub setting_meets : (𝓣 : Tables 𝓤 H) → Meets 𝓛 (signature K S) (WpFn 𝓤 H 𝓣.C 𝓣.Λ (function K S)) (closing 𝓛 (ended K S) c)
  setting_meets 𝓣 = walk_Meets 𝓛 (ended K S) (stayed K S) goes c (WpFn 𝓤 H 𝓣.C 𝓣.Λ (function K S)) (WpFn-mono 𝓤 H 𝓛.laws 𝓣 (function K S)) (walks 𝓣.C 𝓣.Λ)
