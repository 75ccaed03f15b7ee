-- The proof of a setting on a DC by value, for any field: a copy of the DC is lent to the setting, and is returned with the old value.
--     Answer       what the proof needs of the struct that is returned
--     function     the MIR of a function that makes the copy and calls the setting g.        signature, ended     that function's signature
--     Says c       what the contract c ensures holds of the struct of the record with the new value and the old one
--     valued_meets         that MIR meets such a contract if g meets the setting's
-- `valued_meets` takes `Logic`. The rest assumes nothing.
use mathlib.Core.Path.{◌≡◌, refl, sym, ap, subst}
use Prim.Native.Nat.{ℕ}
use mathlib.Core.List.{[], ◌∷◌, List}
use seplogic.Ra.Ura.{Ura}
use base.Fraction.{full_share}
use lib.Dec.{T as Holds}
use mir.Syntax.{Callee, Ty, Fn, named, erased, mut, ty_ref, place, copy, rv_opd, addr_of, aggregate, seq, assign, call, return, value_local, memory_slot, local}
use mir.Val.{Val, WT, has_ty, vptr, vstruct, of_list}
use base.Logic.{SProp, ent, sep, emp, id⊢, via, fst∗}
use base.Fml.{GName, ftrue, flft, flent, fres, fsep, fat}
use prog.Wp.{Calls, Loops, WpFn, Tables}
use types.Logic.{Logic, sem}
use contract.Lifetimes.{Lfts}
use contract.Monad.{fact}
use types.Kit.{‵, raw, ◌⊛◌, some, later, ◌$◌, ◌∵◌, !, qed, by, move, keep, drop, use1, use2, use3, split, join, pick, rewrite, fsplit, fjoin, fpick, fpack, suffices, await, done}
use types.Tokens.{lft_new, lft_end}
use types.Run.{look, init, forget, stop, from, load, addr, of_opd, and_then, no_more, assigns, land, returns, enter, alloc1, alloc0, params1, pass1, pass0, free1, free0}
use types.Part.{agg}
use types.SemTy.{Body}
use sound.WpLaws.{FmC, fm_of, WpFn-mono}
use denote.RattleType.{RattleType, owns}
use denote.Laws.{Is, Makes, shows}
use denote.Lend.{lends_ref, ref_back}
use denote.Memory.{mem, cell_at, part_at, part_of, pointee}
use denote.Ref.{MutBor, MutRef}
use denote.Signature.{Signature, plain}
use denote.Steps.{only, owned, facts, heard, nothing}
use denote.Struct.Laws as LL
use denote.Struct.Steps.{spelt}
use denote.Triple.Call.{calls_at}
use denote.Triple.Entry.{Args, on_entry}
use denote.Triple.Spec.{Meets, triple_of}
use denote.Triple.Statement.{Contract, Triple}
use denote.Triple.Clauses.{Clauses, Ended, Lasts, at_exit, closing, ensured, lasts}
use denote.Triple.Walked.{Stays, stay_dropped, walk_of, AllGo, Goes-dropped, Walks, ends_at, walked, walk_Meets}
use denote.Exit.{yes}
use Rattle.gdi.specs.declared.Dc.{Dc}
use Rattle.gdi.specs.contracts.Dc as T
use Rattle.gdi.proofs.Dc.TheLaws as T'
use Rattle.dc_mut.proofs.Setting as set
use Rattle.dc_mut.proofs.Setting.{Kind, Setting, parts, spelled, IsDc, and_so}

-- the struct of a DC and a setting's old value
pub record Answer (K : Kind) : Type 2 where
  pub row : RattleType
  pub ty : Ty
  pub make : Dc → K.row.Denot → row.Denot
  pub is_made : (d : Dc) (x : K.row.Denot) → IsDc d → Is K.row x (K.val x ∷ []) → Is row (make d x) (vstruct (of_list (vstruct (parts d) ∷ K.val x ∷ [])) ∷ [])
  pub typed : {M : Type 1} {𝓤 : Ura M} (𝓛 : Logic 𝓤) → (y : row.Denot) (v : Val) → Is row y (v ∷ []) → Holds (has_ty ty v) × WT v
  pub makes : {M : Type 1} {𝓤 : Ura M} (𝓛 : Logic 𝓤) → Makes 𝓛 row (Is row)

module _ (K : Kind) (S : Setting K) (B : Answer K) where
  abbrev pub function : Callee → Fn
  function g = record {
    lifetimes = 0;
    outlives = [];
    ty_params = [];
    givens = 0;
    params = 2;
    locals = local B.ty value_local ∷ local T'.mir value_local ∷ local K.ty value_local ∷ local T'.mir memory_slot ∷ local K.ty value_local ∷ local (ty_ref erased mut (pointee (T.the_row).written)) value_local ∷ local T'.mir value_local ∷ [];
    body = seq (assign (place 3 []) (rv_opd (copy (place 1 []))))
        (seq (assign (place 5 []) (addr_of (place 3 [])))
        (seq (call g (copy (place 5 []) ∷ copy (place 2 []) ∷ []) (place 4 []))
        (seq (assign (place 6 []) (rv_opd (copy (place 3 []))))
        (seq (assign (place 0 []) (aggregate (copy (place 6 []) ∷ copy (place 4 []) ∷ []))) return))));
  }

  abbrev pub signature : Signature
  signature = record { lifetimes = 0; outlives = []; params = plain (λ _. T.the_row) ∷ plain (λ _. K.row) ∷ []; result = plain (λ _. B.row) }

  abbrev pub ended : Ended
  ended = record { signature = signature; kept = (yes, (yes, tt)) }

  abbrev stayed : Stays ended.signature.params ended.kept
  stayed = (stay_dropped (plain (λ _. T.the_row)) yes, (stay_dropped (plain (λ _. K.row)) yes, tt))

  abbrev pub Says : {M : Type 1} (𝓤 : Ura M) → Clauses 𝓤 ended → Type 1
  Says 𝓤 c = (κs : Lfts 0) (a : Args signature κs) (g : (c κs a).ghost) → ent 𝓤 (emp 𝓤) ((c κs a).ensures g (B.make (S.new a.0 a.1.0) (S.old a.0)) (at_exit ended κs a (tt, (K.last a.1.0, tt))))

-- the contract of the setting that is called
abbrev pub Set : {M : Type 1} {𝓤 : Ura M} (𝓛 : Logic 𝓤) (K : Kind) (S : Setting K) → Contract 𝓤
Set {𝓤 = 𝓤} 𝓛 K S = triple_of 𝓛 (set.signature K S) (closing 𝓛 (set.ended K S) (set.clauses K S 𝓤))

module _ {M : Type 1} {𝓤 : Ura M} (𝓛 : Logic 𝓤) where
  -- a DC in a local, as what a borrow of it holds
  open 𝓛 use {H}

  lies_in : (d : Dc) (b : ℕ) → IsDc d → ent 𝓤 (H.at full_share T'.mir b 0 (vstruct (parts d))) (sem 𝓛 (part_at T.the_row full_share d b 0))
  unfolding part_of
  lies_in d b is =
      qed 𝓛 (‵ (fat full_share T'.mir b 0 (vstruct (parts d))) ∷ []) ∵ use1 𝓛 (‵ (cell_at full_share (T.the_row).mir (spelled d) b 0)) (𝓛.laws.at_raw full_share T'.mir b 0 (vstruct (parts d))) $
      owned ! T.the_row (Is T.the_row) (LL.makes T.the_type T'.the_plain 𝓛) d _ is $ move ! (1 ∷ 0 ∷ []) $ fjoin ! $
      fpack ! (List Val) (λ vs. fsep (cell_at full_share (T.the_row).mir vs b 0) ((T.the_row).own_val d vs)) (spelled d) $ done !

  lies_out : (d : Dc) (b : ℕ) → ent 𝓤 (sem 𝓛 (part_at T.the_row full_share d b 0)) (H.at full_share T'.mir b 0 (vstruct (parts d)))
  unfolding part_of
  lies_out d b =
      qed 𝓛 (‵ (part_at T.the_row full_share d b 0) ∷ []) ∵ fpick ! (λ vs. fsplit ! $ spelt ! T.the_row (Is T.the_row) (shows 𝓛 T.the_row) spelled (LL.tells T.the_type T'.the_laws) full_share d vs b 0 $
      use1 𝓛 (‵ (fat full_share T'.mir b 0 (vstruct (parts d)))) (𝓛.laws.raw_at full_share T'.mir b 0 (vstruct (parts d))) $ keep ! (0 ∷ []) $ done !)

  typed_dc : (d : Dc) → IsDc d → Holds (has_ty T'.mir (vstruct (parts d))) × WT (vstruct (parts d))
  typed_dc d is = ((LL.lawful T.the_type T'.the_laws 𝓛).typed d _ is).0

module _ {M : Type 1} {𝓤 : Ura M} (𝓛 : Logic 𝓤) (K : Kind) (S : Setting K) (B : Answer K)
    (c : Clauses 𝓤 (ended K S B)) (says : Says K S B 𝓤 c) (h : Dc) (n : K.row.Denot) (g₀ : (c tt (h, (n, tt))).ghost) (is-h : IsDc h) (is-n : Is K.row n (K.val n ∷ [])) where
  open 𝓛 use {H, A}

  abbrev Arg : Type 0
  Arg = Dc × (K.row.Denot × Unit {0})

  abbrev a : Arg
  a = (h, (n, tt))

  abbrev vals : List Val × (List Val × Unit {0})
  vals = (spelled h, (K.val n ∷ [], tt))

  abbrev h' : Dc
  h' = S.new h n

  abbrev made : Val
  made = vstruct (of_list (vstruct (parts h') ∷ K.val (S.old h) ∷ []))

  is_made : Is B.row (B.make h' (S.old h)) (made ∷ [])
  is_made = B.is_made h' (S.old h) (S.is_new h n is-h is-n) (S.is_old h is-h)

  abbrev Post : Val → SProp 𝓤
  Post = (walk_of 𝓛 (ended K S B) (stayed K S B) c).post ((tt, tt, tt, a, vals), g₀)

  exits : ent 𝓤 (emp 𝓤) (Post made)
  exits =
      qed 𝓛 [] ∵ suffices ! _ (ends_at 𝓛 (ended K S B) (stayed K S B) c ((tt, tt, tt, a, vals), g₀) made (B.make h' (S.old h)) (tt, (K.last n, tt)) (tt, (tt, tt))) $
      suffices ! _ (and_so 𝓛 _ (says tt a g₀)) $ owned ! B.row (Is B.row) (B.makes 𝓛) (B.make h' (S.old h)) _ is_made $
      nothing ! $ nothing ! $ fjoin ! $ nothing ! $ fjoin ! $ nothing ! $ done !

  -- the copy, lent: at the block l for the lifetime α under the name γ
  abbrev lent : ℕ → GName → MutBor Dc
  lent l γ = record { ref_ptr = (l, 0); ghost_name = γ; now = h }

  abbrev to_set : ℕ → ℕ → GName → (Set 𝓛 K S).Ghost
  to_set l α γ = (((α ∷ [], tt), (full_share, tt), tt, (lent l γ, (n, tt)), (vptr l 0 ∷ [], (K.val n ∷ [], tt))), tt)

  goes_set : (l α : ℕ) (γ : GName) → ent 𝓤 (sep 𝓤 (A.lft (α ∷ []) full_share) (sem 𝓛 ((MutRef (named 0) (α ∷ []) T.the_row).own_val (lent l γ) (vptr l 0 ∷ [])))) ((Set 𝓛 K S).pre (to_set l α γ))
  goes_set l α γ =
      qed 𝓛 (‵ (flft (α ∷ []) full_share) ∷ ‵ ((MutRef (named 0) (α ∷ []) T.the_row).own_val (lent l γ) (vptr l 0 ∷ [])) ∷ []) ∵
      nothing ! $ owned ! K.row (Is K.row) (K.makes 𝓛) n _ is-n $ fjoin ! $ move ! (2 ∷ 0 ∷ []) $ fjoin ! $ nothing ! $ nothing ! $ move ! (3 ∷ 0 ∷ []) $ join ! $ move ! (0 ∷ 2 ∷ []) $ join ! $ move ! (0 ∷ 1 ∷ []) $ done !

  module _ (C : Calls 𝓤 H) (Λ : Loops 𝓤 H) (fm : FmC 𝓤 H 𝓛.laws C) (g : Callee) (known : Triple 𝓤 (C g) (Set 𝓛 K S)) where
    walk : ent 𝓤 (on_entry 𝓛 (signature K S B) tt tt a vals) (WpFn 𝓤 H C Λ (function K S B g) (vstruct (parts h) ∷ K.val n ∷ []) Post)
    walk =
        qed 𝓛 (‵ ftrue ∷ ‵ (owns (T.the_row ∷ K.row ∷ []) a vals) ∷ []) ∵ enter ! C Λ (function K S B g) (vstruct (parts h) ∷ K.val n ∷ []) _ $
        alloc1 ! (λ l₀. alloc1 ! (λ l₁. alloc1 ! (λ l₂. alloc1 ! (λ l₃. alloc1 ! (λ l₄. alloc1 ! (λ l₅. alloc1 ! (λ l₆. alloc0 ! $ params1 ! $
        pass1 ! (init ! 10 refl (typed_dc 𝓛 h is-h)) $ pass1 ! (init ! 8 refl (K.typed 𝓛 n is-n)) $ pass0 ! $
        -- [_6; …; _5; …; _4; …; _3; …; _2; …; _1; …; room for _0; …]
        assigns ! (of_opd ! (load ! (from ! (stop !)) (look ! 10 refl))) (from ! (stop !)) (init ! 6 refl (typed_dc 𝓛 h is-h)) $
        assigns ! (addr ! (from ! (stop !))) (from ! (stop !)) (init ! 2 refl (tt, tt)) $
        -- the copy is lent for a lifetime that is made for the call
        move ! (6 ∷ []) $ use1 𝓛 (‵ (part_at T.the_row full_share h l₃ 0)) (lies_in 𝓛 h l₃ is-h) $ lft_new ! tt (λ α. move ! (1 ∷ []) $
        use1 𝓛 (later (some (λ (γ : GName). ‵ ((MutRef (named 0) (α ∷ []) T.the_row).own_val (lent l₃ γ) (vptr l₃ 0 ∷ [])) ⊛ ‵ (flent (α ∷ []) (Body (mem T.the_row) l₃ 0 γ))))) (lends_ref 𝓛 T.the_row (named 0) (α ∷ []) h l₃ 0) $ await ! tt $ pick ! (λ γ. split ! $
        move ! (2 ∷ 0 ∷ []) $ use2 𝓛 (raw ((Set 𝓛 K S).pre (to_set l₃ α γ))) (goes_set l₃ α γ) $
        -- [what the call asks; the lender's part; _6; …; _5; …; _4; …; (_3) …; _2; …; _1; …; room for _0; …]
        calls_at ! fm (Set 𝓛 K S) known (to_set l₃ α γ) (and_then ! (load ! (from ! (stop !)) (look ! 4 refl)) (and_then ! (load ! (from ! (stop !)) (look ! 9 refl)) (no_more !))) (λ w.
        use1 𝓛 (later (some (λ (r : K.row.Denot). ((‵ (flft (α ∷ []) full_share) ⊛ ‵ ftrue) ⊛ ‵ (K.row.own_val r (w ∷ []))) ⊛ raw (ensured 𝓛 (set.ended K S) (set.clauses K S 𝓤) (α ∷ [], tt) (lent l₃ γ, (n, tt)) tt r)))) (id⊢ 𝓤 _) $ await ! tt $ pick ! (λ r.
        split ! $ move ! (1 ∷ []) $ use1 𝓛 (some (λ (ws : Lasts (set.ended K S) (α ∷ [], tt) (lent l₃ γ, (n, tt))). ‵ (lasts (set.ended K S) (α ∷ [], tt) (lent l₃ γ, (n, tt)) ws) ⊛ raw (fact 𝓤 ((r ≡ S.old h) × (ws.0 ≡ h'))))) (id⊢ 𝓤 _) $ pick ! (λ ws.
        split ! $ move ! (1 ∷ []) $ heard ! ((r ≡ S.old h) × (ws.0 ≡ h')) (λ e. fsplit ! $ fsplit ! $ move ! (1 ∷ []) $ drop ! $ rewrite ! 0 (λ (d : Dc). ‵ (fres γ ((T.the_row).coded.code d))) e.1 refl $
        move ! (2 ∷ []) $ split ! $ move ! (1 ∷ []) $ rewrite ! 0 (λ (x : K.row.Denot). ‵ (K.row.own_val x (w ∷ []))) e.0 refl $
        facts ! K.row (Is K.row) (shows 𝓛 K.row) (S.old h) (w ∷ []) (λ is.
        -- [the token; what says the copy's last value; …; the lender's part; _6; …; _5; …; room for _4; …]
        land ! (from ! (stop !)) (init ! 8 refl (subst (λ (v : Val). Holds (has_ty K.ty v) × WT v) (sym (ap only (K.tells (S.old h) (w ∷ []) is))) (K.typed 𝓛 (S.old h) (S.is_old h is-h)))) $
        rewrite ! 8 (λ (v : Val). ‵ (fat full_share K.ty l₄ 0 v)) (ap only (K.tells (S.old h) (w ∷ []) is)) refl $
        -- the lifetime ends, and the copy has its last value
        split ! $ lft_end ! tt $ move ! (0 ∷ 4 ∷ 2 ∷ []) $ use3 𝓛 (later (‵ (part_at T.the_row full_share h' l₃ 0))) (ref_back 𝓛 T.the_row (α ∷ []) γ h' l₃ 0) $ await ! tt $
        use1 𝓛 (‵ (fat full_share T'.mir l₃ 0 (vstruct (parts h')))) (lies_out 𝓛 h' l₃) $
        -- [_3; …; _6; …; _5; …; _4; …; (_3) …; _2; …; _1; …; room for _0; …]
        assigns ! (of_opd ! (load ! (from ! (stop !)) (look ! 0 refl))) (from ! (stop !)) (init ! 3 refl (typed_dc 𝓛 h' (S.is_new h n is-h is-n))) $
        assigns ! (agg ! (and_then ! (load ! (from ! (stop !)) (look ! 3 refl)) (and_then ! (load ! (from ! (stop !)) (look ! 7 refl)) (no_more !)))) (from ! (stop !)) (init ! 14 refl (B.typed 𝓛 (B.make h' (S.old h)) made is_made)) $
        returns ! (look ! 14 refl) $ forget ! 0 refl $ forget ! 3 refl $ forget ! 5 refl $ forget ! 7 refl $ forget ! 10 refl $ forget ! 12 refl $ forget ! 14 refl $
        move ! (14 ∷ 15 ∷ []) $ free1 ! $ move ! (12 ∷ 13 ∷ []) $ free1 ! $ move ! (10 ∷ 11 ∷ []) $ free1 ! $ move ! (0 ∷ 9 ∷ []) $ free1 ! $ move ! (6 ∷ 7 ∷ []) $ free1 ! $ move ! (4 ∷ 5 ∷ []) $ free1 ! $ move ! (2 ∷ 3 ∷ []) $ free1 ! $ free0 ! $
        keep ! [] $ by ! exits))))))))))))))

module _ {M : Type 1} {𝓤 : Ura M} (𝓛 : Logic 𝓤) (K : Kind) (S : Setting K) (B : Answer K) (c : Clauses 𝓤 (ended K S B)) (says : Says K S B 𝓤 c) (g : Callee) where
  open 𝓛 use {H}

  walks : (C : Calls 𝓤 H) (Λ : Loops 𝓤 H) → FmC 𝓤 H 𝓛.laws C → Triple 𝓤 (C g) (Set 𝓛 K S) → Walks 𝓛 (ended K S B) (stayed K S B) (WpFn 𝓤 H C Λ (function K S B g)) c
  walks C Λ fm known = walked 𝓛 (ended K S B) (stayed K S B) c (WpFn 𝓤 H C Λ (function K S B g)) (λ κs. (spelled, ((λ x. K.val x ∷ []), tt))) (λ κs. (LL.tells T.the_type T'.the_laws, (K.tells, tt)))
      (λ κs qs bounds a g₀ are. via 𝓤 _ (fst∗ 𝓤 _ ((c κs a).requires g₀)) (walk 𝓛 K S B c says a.0 a.1.0 g₀ are.0 are.1.0 C Λ fm g known))

  goes : AllGo 𝓛 0 (signature K S B).params (ended K S B).kept (stayed K S B)
  goes = (Goes-dropped 𝓛 0 (plain (λ _. T.the_row)) yes (λ κs x f. refl), (Goes-dropped 𝓛 0 (plain (λ _. K.row)) yes (λ κs. K.silent), tt))

  pub valued_meets : (𝓣 : Tables 𝓤 H) → Triple 𝓤 (𝓣.C g) (Set 𝓛 K S) → Meets 𝓛 (signature K S B) (WpFn 𝓤 H 𝓣.C 𝓣.Λ (function K S B g)) (closing 𝓛 (ended K S B) c)
  valued_meets 𝓣 known =
      walk_Meets 𝓛 (ended K S B) (stayed K S B) goes c (WpFn 𝓤 H 𝓣.C 𝓣.Λ (function K S B g)) (WpFn-mono 𝓤 H 𝓛.laws 𝓣 (function K S B g))
      (walks 𝓣.C 𝓣.Λ (fm_of 𝓤 H 𝓛.laws 𝓣) known)
