-- The proofs of all operations, over the surface struct and over its parts, whatever further parameters an operation has.
--     apart_function g         the MIR of a function that takes the struct apart and calls g.        apart_meets     it meets a contract over the struct if g meets the contract over the parts
--     together_function g      the MIR of a function that makes the struct from its parts and calls g.        together_meets     it meets a contract over the parts if g meets the contract over the struct
-- The theorems take `Logic`. The rest assumes nothing.
use mathlib.Core.Path.{◌≡◌, refl}
use Prim.Native.Nat.{ℕ, suc, ◌<◌, ◌^◌}
use mathlib.Core.List.{List, [], ◌∷◌, ◌++◌}
use lib.Dec.{T as Holds}
use lib.ListN.{length}
use seplogic.Ra.Ura.{Ura}
use mir.Syntax.{Callee, Fn, named, erased, mut, w8, w32, ty_int, ty_ref, place, field, deref, copy, rv_opd, addr_of, aggregate, seq, assign, call, return, value_local, local}
use mir.Val.{Val, WT, has_ty, vint, vstruct, vnil, vcons}
use base.Logic.{ent, via, fst∗}
use base.Fml.{GName}
use prog.Wp.{Env, spot_of, Calls, Loops, WpFn, Tables}
use types.Logic.{Logic}
use contract.Lifetimes.{Lfts, Shares}
use types.Kit.{raw, ◌$◌, ◌∵◌, !, qed, by, move, use1, split, join, pick, learn, await}
use types.Run.{look, init, forget, stop, hop, fld, from, load, addr, of_opd, and_then, assigns, no_more, land, returns, enter, alloc1, alloc0, params1, pass1, free1, free0}
use types.Part.{agg, whole, sub, look_in}
use sound.WpLaws.{FmC, fm_of, WpFn-mono}
use denote.Builtin.{u8}
use denote.Laws.{Is, Typed, valss, shows}
use denote.Plain.{uint_vals, uint_Tells}
use denote.RattleType.{Denots, Valss, flat}
use denote.Ref.{MutBor, NamedLft}
use denote.Signature.{named_lft, types_at}
use denote.Slice.{slice_val, slice_ty, Room, mut_slice_vals, mut_slice_Tells}
use denote.Steps.{peeks}
use denote.Struct.Laws as LL
use denote.Triple.Call.{calls_at}
use denote.Triple.Clauses.{Clauses, closing}
use denote.Triple.Entry.{on_entry}
use denote.Triple.Spec.{Meets}
use denote.Triple.Statement.{Triple}
use denote.Triple.Walked.{walked, walk_Meets}
use Rattle.surface_struct.specs.declared.Surface.{Surface}
use Rattle.surface_struct.specs.contracts.Surface as T
use Rattle.surface_struct.proofs.Surface.TheLaws as T'
use Rattle.surface_struct.proofs.Param.{slots, tys, spells, tells, all_fit}
use Rattle.surface_struct.proofs.Operation.{Operation, parts, surface, parts_stay, surface_stay, parts_go, surface_go, Parts, OnSurface, PartsSays, SurfaceSays, to_parts, to_surface, apart, together, GivenBack, parts_give, surface_give, PartsPost, SurfacePost, parts_end, surface_end}
use Rattle.surface_struct.proofs.Locals.{Blocks, env, locals, copies, past, at_next, at_start, spot_past, at_spot, reads_at, alloc_all, pass_all, forget_all, free_all}

module _ (O : Operation) where
  -- the number of the local j after the further parameters
  abbrev after_two : ℕ → ℕ
  after_two j = suc (suc (past (tys O.params) j))

  abbrev pub apart_function : Callee → Fn
  apart_function g = record {
    lifetimes = suc O.lives;
    outlives = [];
    ty_params = [];
    givens = 0;
    params = suc (past (tys O.params) 0);
    locals = local O.kind.ty value_local ∷ local (T'.mir (named 0)) value_local ∷ locals (tys O.params)
        ++ (local (ty_ref erased mut (ty_int w8)) value_local ∷ local (slice_ty (ty_ref erased mut (ty_int w8))) value_local ∷ local (ty_int w32) value_local ∷ local (ty_int w32) value_local ∷ []);
    body = seq (assign (place (after_two 0) []) (addr_of (place 1 (field 0 ∷ field 0 ∷ deref (ty_int w8) ∷ []))))
        (seq (assign (place (after_two 1) []) (aggregate (copy (place (after_two 0) []) ∷ copy (place 1 (field 0 ∷ field 1 ∷ [])) ∷ [])))
        (seq (assign (place (after_two 2) []) (rv_opd (copy (place 1 (field 1 ∷ [])))))
        (seq (assign (place (after_two 3) []) (rv_opd (copy (place 1 (field 2 ∷ [])))))
        (seq (call g (copy (place (after_two 1) []) ∷ copy (place (after_two 2) []) ∷ copy (place (after_two 3) []) ∷ copies 2 (tys O.params)) (place 0 [])) return))));
  }

  -- the same past the parts
  abbrev after_four : ℕ → ℕ
  after_four j = suc (suc (after_two j))

  abbrev pub together_function : Callee → Fn
  together_function g = record {
    lifetimes = suc O.lives;
    outlives = [];
    ty_params = [];
    givens = 0;
    params = suc (after_two 0);
    locals = local O.kind.ty value_local ∷ local (slice_ty (ty_ref (named 0) mut (ty_int w8))) value_local ∷ local (ty_int w32) value_local ∷ local (ty_int w32) value_local ∷ locals (tys O.params)
        ++ (local (T'.mir erased) value_local ∷ local (ty_ref erased mut (ty_int w8)) value_local ∷ local (slice_ty (ty_ref erased mut (ty_int w8))) value_local ∷ local (T'.mir erased) value_local ∷ []);
    body = seq (assign (place (after_four 1) []) (addr_of (place 1 (field 0 ∷ deref (ty_int w8) ∷ []))))
        (seq (assign (place (after_four 2) []) (aggregate (copy (place (after_four 1) []) ∷ copy (place 1 (field 1 ∷ [])) ∷ [])))
        (seq (assign (place (after_four 0) []) (aggregate (copy (place (after_four 2) []) ∷ copy (place 2 []) ∷ copy (place 3 []) ∷ [])))
        (seq (assign (place (after_four 3) []) (rv_opd (copy (place (after_four 0) []))))
        (seq (call g (copy (place (after_four 3) []) ∷ copies 4 (tys O.params)) (place 0 [])) return))));
  }

module _ {M : Type 1} {𝓤 : Ura M} (𝓛 : Logic 𝓤) (O : Operation)
    (κs : Lfts (suc O.lives)) (qs : Shares (suc O.lives)) (b o : ℕ) (γ : GName) (ys : List ℕ) (n m : ℕ) (n-fits : n < 2 ^ 32) (m-fits : m < 2 ^ 32) (e : Denots (types_at (slots O.params) κs)) where
  open 𝓛 use {H}

  abbrev α : NamedLft
  α = named_lft (suc O.lives) 0 tt κs

  abbrev s : Val
  s = slice_val (b, o) (length ys)

  abbrev mach : Val
  mach = vstruct (vcons s (vcons (vint w32 n) (vcons (vint w32 m) vnil)))

  abbrev x : MutBor (List ℕ)
  x = record { ref_ptr = (b, o); ghost_name = γ; now = ys }

  abbrev h : Surface
  h = record { pixels = x; width = n; height = m }

  abbrev vs : Valss (types_at (slots O.params) κs)
  vs = valss (types_at (slots O.params) κs) (spells O.params κs) e

  -- the further parameters' machine values
  abbrev us : List Val
  us = flat (types_at (slots O.params) κs) vs

  -- the locals after the further parameters
  abbrev apart_locals : ℕ → ℕ → ℕ → ℕ → Env 𝓤 H
  apart_locals lp ls lw lh = (ty_ref erased mut (ty_int w8), lp) ∷ (slice_ty (ty_ref erased mut (ty_int w8)), ls) ∷ (ty_int w32, lw) ∷ (ty_int w32, lh) ∷ []

  abbrev together_locals : ℕ → ℕ → ℕ → ℕ → Env 𝓤 H
  together_locals lh lp ls lt = (T'.mir erased, lh) ∷ (ty_ref erased mut (ty_int w8), lp) ∷ (slice_ty (ty_ref erased mut (ty_int w8)), ls) ∷ (T'.mir erased, lt) ∷ []

  -- the further parameters and the locals after them
  abbrev apart_rest : Blocks (tys O.params) → ℕ → ℕ → ℕ → ℕ → Env 𝓤 H
  apart_rest bs lp ls lw lh = env 𝓤 H (tys O.params) bs ++ apart_locals lp ls lw lh

  abbrev together_rest : Blocks (tys O.params) → ℕ → ℕ → ℕ → ℕ → Env 𝓤 H
  together_rest bs lh lp ls lt = env 𝓤 H (tys O.params) bs ++ together_locals lh lp ls lt

  spot : (bs : Blocks (tys O.params)) (E : Env 𝓤 H) (j : ℕ) → spot_of 𝓤 H (env 𝓤 H (tys O.params) bs ++ E) (past (tys O.params) j) ≡ spot_of 𝓤 H E j
  spot bs = spot_past 𝓤 H (tys O.params) bs

  module _ (C : Calls 𝓤 H) (Λ : Loops 𝓤 H) (fm : FmC 𝓤 H 𝓛.laws C) (g : Callee) (room : Room u8 (length ys)) (typed : Typed (tys O.params) us) where
    -- the struct's machine value is of its type
    whole_typed : Holds (has_ty (T'.mir erased) mach) × WT mach
    whole_typed = (tt, ((tt, (record { fits = room.0 }, tt)), (record { fits = n-fits }, (record { fits = m-fits }, tt))))

    apart_walk : (c : Clauses 𝓤 (surface O)) (says : SurfaceSays O 𝓤 c) (k : (c κs (h, e)).ghost) → Triple 𝓤 (C g) (Parts 𝓛 O) → Is (T.the_row α) h (mach ∷ [])
        → ent 𝓤 (on_entry 𝓛 (surface O).signature κs qs (h, e) (mach ∷ [], vs)) (WpFn 𝓤 H C Λ (apart_function O g) (mach ∷ us) (SurfacePost 𝓛 O κs qs b o γ ys n m n-fits m-fits e vs c says k))
    apart_walk c says k known is =
        qed 𝓛 (raw (on_entry 𝓛 (surface O).signature κs qs (h, e) (mach ∷ [], vs)) ∷ []) ∵ enter ! C Λ (apart_function O g) (mach ∷ us) _ $
        alloc1 ! (λ l₀. alloc1 ! (λ l₁. alloc_all ! (tys O.params) (λ bs. alloc1 ! (λ lp. alloc1 ! (λ ls. alloc1 ! (λ lw. alloc1 ! (λ lh. alloc0 ! $ params1 ! $
        pass1 ! (init ! 9 refl ((LL.lawful (T.the_type α) (T'.the_laws α) 𝓛).typed h _ is).0) $ move ! (8 ∷ []) $ pass_all ! (tys O.params) bs (apart_locals lp ls lw lh) us typed $
        -- [the further parameters; room for the height; …; for the width; …; for the slice; …; for its pointer; …; the struct; …; room for the result; …; what is owned]
        assigns ! (addr ! (from ! (fld ! refl (fld ! refl (hop ! (look_in ! 9 (sub ! 0 refl (sub ! 0 refl (whole !)))) (stop !)))))) (at_spot ! (spot bs (apart_locals lp ls lw lh) 0)) (init ! 7 refl (tt, tt)) $
        assigns ! (agg ! (and_then ! (load ! (at_spot ! (spot bs (apart_locals lp ls lw lh) 0)) (look ! 7 refl)) (and_then ! (load ! (from ! (fld ! refl (fld ! refl (stop !)))) (look_in ! 9 (sub ! 1 refl (sub ! 0 refl (whole !))))) (no_more !))))
        (at_spot ! (spot bs (apart_locals lp ls lw lh) 1)) (init ! 5 refl (tt, (tt, (record { fits = room.0 }, tt)))) $
        assigns ! (of_opd ! (load ! (from ! (fld ! refl (stop !))) (look_in ! 9 (sub ! 1 refl (whole !))))) (at_spot ! (spot bs (apart_locals lp ls lw lh) 2)) (init ! 3 refl (tt, record { fits = n-fits })) $
        assigns ! (of_opd ! (load ! (from ! (fld ! refl (stop !))) (look_in ! 9 (sub ! 2 refl (whole !))))) (at_spot ! (spot bs (apart_locals lp ls lw lh) 3)) (init ! 1 refl (tt, record { fits = m-fits })) $
        move ! (13 ∷ []) $ use1 𝓛 (raw ((Parts 𝓛 O).pre (to_parts 𝓛 O κs qs b o γ ys n m n-fits m-fits e vs))) (apart 𝓛 O κs qs b o γ ys n m n-fits m-fits e vs) $
        calls_at ! fm (Parts 𝓛 O) known (to_parts 𝓛 O κs qs b o γ ys n m n-fits m-fits e vs)
        (and_then ! (load ! (at_spot ! (spot bs (apart_locals lp ls lw lh) 1)) (look ! 6 refl)) (and_then ! (load ! (at_spot ! (spot bs (apart_locals lp ls lw lh) 2)) (look ! 4 refl)) (and_then ! (load ! (at_spot ! (spot bs (apart_locals lp ls lw lh) 3)) (look ! 2 refl))
        (reads_at ! 2 (tys O.params) bs us typed (at_next 𝓤 H ((T'.mir (named 0), l₁) ∷ apart_rest bs lp ls lw lh) (O.kind.ty, l₀) 1 (tys O.params) bs (at_next 𝓤 H (apart_rest bs lp ls lw lh) (T'.mir (named 0), l₁) 0 (tys O.params) bs (at_start 𝓤 H (tys O.params) bs (apart_locals lp ls lw lh)))) (λ τ c d v back p. look_in ! 1 p))))) (λ v.
        use1 𝓛 (GivenBack 𝓛 O κs qs b o γ ys n m n-fits m-fits e vs v) (parts_give 𝓛 O κs qs b o γ ys n m n-fits m-fits e vs v) $ await ! tt $ pick ! (λ p. learn ! (λ said.
        split ! $ move ! (1 ∷ []) $ split ! $ move ! (1 ∷ []) $ peeks ! O.kind.row (Is O.kind.row) (shows 𝓛 O.kind.row) p.0 (v ∷ []) (λ is-v.
        land ! (from ! (stop !)) (init ! 14 refl (O.kind.typed 𝓛 p.0 v is-v)) $ move ! (1 ∷ 0 ∷ []) $ join ! $ move ! (1 ∷ 0 ∷ []) $ join ! $
        -- [what comes back; the further parameters; the height; …; the width; …; the slice; …; its pointer; …; the struct; …; the result; …]
        returns ! (look ! 12 refl) $ forget ! 2 refl $ forget ! 4 refl $ forget ! 6 refl $ forget ! 8 refl $ forget ! 10 refl $ forget ! 12 refl $ move ! (1 ∷ []) $ forget_all ! (tys O.params) bs us typed $
        move ! (12 ∷ 13 ∷ []) $ free1 ! $ move ! (10 ∷ 11 ∷ []) $ free1 ! $ free_all ! (tys O.params) bs (apart_locals lp ls lw lh) $ move ! (7 ∷ 8 ∷ []) $ free1 ! $ move ! (5 ∷ 6 ∷ []) $ free1 ! $ move ! (3 ∷ 4 ∷ []) $ free1 ! $ move ! (1 ∷ 2 ∷ []) $ free1 ! $ free0 ! $
        by ! (surface_end 𝓛 O κs qs b o γ ys n m n-fits m-fits e vs c says k p.0 p.1 v said))))))))))))

    together_walk : (c : Clauses 𝓤 (parts O)) (says : PartsSays O 𝓤 c) (k : (c κs (x, (n, (m, e)))).ghost) → Triple 𝓤 (C g) (OnSurface 𝓛 O)
        → ent 𝓤 (on_entry 𝓛 (parts O).signature κs qs (x, (n, (m, e))) (s ∷ [], (vint w32 n ∷ [], (vint w32 m ∷ [], vs)))) (WpFn 𝓤 H C Λ (together_function O g) (s ∷ vint w32 n ∷ vint w32 m ∷ us) (PartsPost 𝓛 O κs qs b o γ ys n m n-fits m-fits e vs c says k))
    together_walk c says k known =
        qed 𝓛 (raw (on_entry 𝓛 (parts O).signature κs qs (x, (n, (m, e))) (s ∷ [], (vint w32 n ∷ [], (vint w32 m ∷ [], vs)))) ∷ []) ∵ enter ! C Λ (together_function O g) (s ∷ vint w32 n ∷ vint w32 m ∷ us) _ $
        alloc1 ! (λ l₀. alloc1 ! (λ l₁. alloc1 ! (λ l₂. alloc1 ! (λ l₃. alloc_all ! (tys O.params) (λ bs. alloc1 ! (λ lh. alloc1 ! (λ lp. alloc1 ! (λ ls. alloc1 ! (λ lt. alloc0 ! $ params1 ! $
        pass1 ! (init ! 13 refl (tt, (tt, (record { fits = room.0 }, tt)))) $ pass1 ! (init ! 11 refl (tt, record { fits = n-fits })) $ pass1 ! (init ! 9 refl (tt, record { fits = m-fits })) $
        move ! (8 ∷ []) $ pass_all ! (tys O.params) bs (together_locals lh lp ls lt) us typed $
        -- [the further parameters; room for the struct passed on; …; for the slice; …; for its pointer; …; for the struct; …; the height; …; the width; …; the slice passed; …; room for the result; …; what is owned]
        assigns ! (addr ! (from ! (fld ! refl (hop ! (look_in ! 13 (sub ! 0 refl (whole !))) (stop !))))) (at_spot ! (spot bs (together_locals lh lp ls lt) 1)) (init ! 5 refl (tt, tt)) $
        assigns ! (agg ! (and_then ! (load ! (at_spot ! (spot bs (together_locals lh lp ls lt) 1)) (look ! 5 refl)) (and_then ! (load ! (from ! (fld ! refl (stop !))) (look_in ! 13 (sub ! 1 refl (whole !)))) (no_more !))))
        (at_spot ! (spot bs (together_locals lh lp ls lt) 2)) (init ! 3 refl (tt, (tt, (record { fits = room.0 }, tt)))) $
        assigns ! (agg ! (and_then ! (load ! (at_spot ! (spot bs (together_locals lh lp ls lt) 2)) (look ! 3 refl)) (and_then ! (load ! (from ! (stop !)) (look ! 11 refl)) (and_then ! (load ! (from ! (stop !)) (look ! 9 refl)) (no_more !)))))
        (at_spot ! (spot bs (together_locals lh lp ls lt) 0)) (init ! 7 refl whole_typed) $
        assigns ! (of_opd ! (load ! (at_spot ! (spot bs (together_locals lh lp ls lt) 0)) (look ! 7 refl))) (at_spot ! (spot bs (together_locals lh lp ls lt) 3)) (init ! 1 refl whole_typed) $
        move ! (17 ∷ []) $ use1 𝓛 (raw ((OnSurface 𝓛 O).pre (to_surface 𝓛 O κs qs b o γ ys n m n-fits m-fits e vs))) (together 𝓛 O κs qs b o γ ys n m n-fits m-fits e vs) $
        calls_at ! fm (OnSurface 𝓛 O) known (to_surface 𝓛 O κs qs b o γ ys n m n-fits m-fits e vs) (and_then ! (load ! (at_spot ! (spot bs (together_locals lh lp ls lt) 3)) (look ! 2 refl))
        (reads_at ! 4 (tys O.params) bs us typed
        (at_next 𝓤 H ((slice_ty (ty_ref (named 0) mut (ty_int w8)), l₁) ∷ (ty_int w32, l₂) ∷ (ty_int w32, l₃) ∷ together_rest bs lh lp ls lt) (O.kind.ty, l₀) 3 (tys O.params) bs
        (at_next 𝓤 H ((ty_int w32, l₂) ∷ (ty_int w32, l₃) ∷ together_rest bs lh lp ls lt) (slice_ty (ty_ref (named 0) mut (ty_int w8)), l₁) 2 (tys O.params) bs
        (at_next 𝓤 H ((ty_int w32, l₃) ∷ together_rest bs lh lp ls lt) (ty_int w32, l₂) 1 (tys O.params) bs (at_next 𝓤 H (together_rest bs lh lp ls lt) (ty_int w32, l₃) 0 (tys O.params) bs (at_start 𝓤 H (tys O.params) bs (together_locals lh lp ls lt))))))
        (λ τ c d v back p. look_in ! 1 p))) (λ v.
        use1 𝓛 (GivenBack 𝓛 O κs qs b o γ ys n m n-fits m-fits e vs v) (surface_give 𝓛 O κs qs b o γ ys n m n-fits m-fits e vs v) $ await ! tt $ pick ! (λ p. learn ! (λ said.
        split ! $ move ! (1 ∷ []) $ split ! $ move ! (1 ∷ []) $ peeks ! O.kind.row (Is O.kind.row) (shows 𝓛 O.kind.row) p.0 (v ∷ []) (λ is-v.
        land ! (from ! (stop !)) (init ! 18 refl (O.kind.typed 𝓛 p.0 v is-v)) $ move ! (1 ∷ 0 ∷ []) $ join ! $ move ! (1 ∷ 0 ∷ []) $ join ! $
        -- [what comes back; the further parameters; the struct passed on; …; the slice; …; its pointer; …; the struct; …; the height; …; the width; …; the slice passed; …; the result; …]
        returns ! (look ! 16 refl) $ forget ! 2 refl $ forget ! 4 refl $ forget ! 6 refl $ forget ! 8 refl $ forget ! 10 refl $ forget ! 12 refl $ forget ! 14 refl $ forget ! 16 refl $
        move ! (1 ∷ []) $ forget_all ! (tys O.params) bs us typed $
        move ! (16 ∷ 17 ∷ []) $ free1 ! $ move ! (14 ∷ 15 ∷ []) $ free1 ! $ move ! (12 ∷ 13 ∷ []) $ free1 ! $ move ! (10 ∷ 11 ∷ []) $ free1 ! $ free_all ! (tys O.params) bs (together_locals lh lp ls lt) $
        move ! (7 ∷ 8 ∷ []) $ free1 ! $ move ! (5 ∷ 6 ∷ []) $ free1 ! $ move ! (3 ∷ 4 ∷ []) $ free1 ! $ move ! (1 ∷ 2 ∷ []) $ free1 ! $ free0 ! $
        by ! (parts_end 𝓛 O κs qs b o γ ys n m n-fits m-fits e vs c says k p.0 p.1 v said))))))))))))))

module _ {M : Type 1} {𝓤 : Ura M} (𝓛 : Logic 𝓤) (O : Operation) (g : Callee) (𝓣 : Tables 𝓤 𝓛.H) where
  open 𝓛 use {H}

  pub apart_meets : (c : Clauses 𝓤 (surface O)) → SurfaceSays O 𝓤 c → Triple 𝓤 (𝓣.C g) (Parts 𝓛 O) → Meets 𝓛 (surface O).signature (WpFn 𝓤 H 𝓣.C 𝓣.Λ (apart_function O g)) (closing 𝓛 (surface O) c)
  apart_meets c says known =
      walk_Meets 𝓛 (surface O) (surface_stay O) (surface_go 𝓛 O) c (WpFn 𝓤 H 𝓣.C 𝓣.Λ (apart_function O g)) (WpFn-mono 𝓤 H 𝓛.laws 𝓣 (apart_function O g))
      (walked 𝓛 (surface O) (surface_stay O) c (WpFn 𝓤 H 𝓣.C 𝓣.Λ (apart_function O g))
      (λ κs. (LL.vals (T.the_type (named_lft (suc O.lives) 0 tt κs)) (T'.the_laws (named_lft (suc O.lives) 0 tt κs)), spells O.params κs)) (λ κs. (LL.tells (T.the_type (named_lft (suc O.lives) 0 tt κs)) (T'.the_laws (named_lft (suc O.lives) 0 tt κs)), tells O.params κs))
      (λ κs qs bounds a k are. via 𝓤 _ (fst∗ 𝓤 _ ((c κs a).requires k)) (
      let fields = LL.owed (T.the_type (named_lft (suc O.lives) 0 tt κs)) (T'.the_laws (named_lft (suc O.lives) 0 tt κs)) a.0 _ are.0 in
      apart_walk 𝓛 O κs qs a.0.pixels.ref_ptr.0 a.0.pixels.ref_ptr.1 a.0.pixels.ghost_name a.0.pixels.now a.0.width a.0.height fields.1.0.1 fields.1.1.0.1 a.1
      𝓣.C 𝓣.Λ (fm_of 𝓤 H 𝓛.laws 𝓣) g fields.0.0.1 (all_fit 𝓛 O.params κs a.1 are.1) c says k known are.0)))

  pub together_meets : (c : Clauses 𝓤 (parts O)) → PartsSays O 𝓤 c → Triple 𝓤 (𝓣.C g) (OnSurface 𝓛 O) → Meets 𝓛 (parts O).signature (WpFn 𝓤 H 𝓣.C 𝓣.Λ (together_function O g)) (closing 𝓛 (parts O) c)
  together_meets c says known =
      walk_Meets 𝓛 (parts O) (parts_stay O) (parts_go 𝓛 O) c (WpFn 𝓤 H 𝓣.C 𝓣.Λ (together_function O g)) (WpFn-mono 𝓤 H 𝓛.laws 𝓣 (together_function O g))
      (walked 𝓛 (parts O) (parts_stay O) c (WpFn 𝓤 H 𝓣.C 𝓣.Λ (together_function O g))
      (λ κs. (mut_slice_vals, (uint_vals w32, (uint_vals w32, spells O.params κs)))) (λ κs. (mut_slice_Tells (named 0) κs.0 u8, (uint_Tells w32, (uint_Tells w32, tells O.params κs))))
      (λ κs qs bounds a k are. via 𝓤 _ (fst∗ 𝓤 _ ((c κs a).requires k)) (
      together_walk 𝓛 O κs qs a.0.ref_ptr.0 a.0.ref_ptr.1 a.0.ghost_name a.0.now a.1.0 a.1.1.0 are.1.0.1 are.1.1.0.1 a.1.1.1
      𝓣.C 𝓣.Λ (fm_of 𝓤 H 𝓛.laws 𝓣) g are.0.0.1 (all_fit 𝓛 O.params κs a.1.1.1 are.1.1.1) c says k known)))
