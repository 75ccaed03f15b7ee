-- What the proofs of all operations share, whatever parameters an operation has beside its surface: the two forms of its contract, and
-- what is passed to a callee and returned.
--     Operation        its further parameters, its answer, and the relation that says what it does
--     on_parts         the contract over a slice and two sides: the covered function's, and that of the function that makes the struct.        on_surface     the contract over the struct
--     PartsSays c, SurfaceSays c       what the contract c ensures follows from that relation
--     apart, together          what is owned of a struct is what is owned of its parts
--     parts_give, surface_give     what a caller knows of a call.        parts_end, surface_end     the end of a proof
-- The laws take `Logic`. The rest assumes nothing.
use mathlib.Core.Path.{◌≡◌, refl}
use Prim.Native.Nat.{ℕ, suc, ◌<◌, ◌^◌}
use mathlib.Core.List.{List, [], ◌∷◌}
use lib.Dec.{T as Holds}
use lib.ListN.{length}
use seplogic.Ra.Ura.{Ura}
use mir.Syntax.{Ty, named, w32}
use mir.Val.{Val, WT, has_ty, vint, vstruct, vnil, vcons}
use base.Logic.{SProp, ent, sep, emp, id⊢}
use base.Fml.{Lft, GName, Fml, ftrue, fsep, fbor}
use types.Logic.{Logic, sem}
use types.SemTy.{Body, Arr}
use types.Hole.{Holey}
use contract.Lifetimes.{Lfts, Shares, toks}
use contract.Monad.{fact, fact_i}
use types.Kit.{Item, ‵, raw, given, ◌⊛◌, some, later, mean, ◌$◌, ◌∵◌, !, qed, move, keep, drop, use0, use1, split, join, pick, learn, show, check, fsplit, fjoin, feq_l, suffices, frame, await, updating, now as at_once, done}
use denote.Builtin.{u8, u32}
use denote.Exit.{yes}
use denote.Laws.{Is}
use denote.Memory.{mem}
use denote.Plain.{uint_Makes}
use denote.RattleType.{RattleType, Denots, Valss, owns}
use denote.Ref.{MutBor, NamedLft}
use denote.Signature.{Slot, plain, mut_slice, types_at}
use denote.Signature.Struct.{in_struct, makes}
use denote.Slice.{slice_val, MutSlice, finally}
use denote.Steps.{owned, heard, nothing}
use denote.Struct.Rest.{all_own, own_open, own_shut}
use denote.Triple.Clauses.{Clauses, Ended, Lasts, at_exit, closing, ensured, lasts}
use denote.Triple.End.{all, Fins}
use denote.Triple.Entry.{Args, on_entry}
use denote.Triple.Spec.{triple_of}
use denote.Triple.Statement.{Contract}
use denote.Triple.Walked.{Stays, stay_dropped, gave_slice, fits_of, has_of, AllGo, Goes-dropped, Goes-gave_slice, walk_of, ends_at}
use Rattle.surface_struct.specs.declared.Surface.{Surface}
use Rattle.surface_struct.specs.On.{On}
use Rattle.surface_struct.specs.contracts.Surface as T
use Rattle.surface_struct.proofs.Surface.TheLaws as T'
use Rattle.surface_struct.proofs.Param.{Param, slots, rests}
use Rattle.surface_struct.proofs.Held.{SurfaceS, surface_gave, surface_goes}

-- nothing is known at exit of the further parameters
abbrev pub dropped : {k : ℕ} (ss : List (Slot (suc k))) → Stays ss (all yes ss)
dropped [] = tt
dropped (s ∷ ss) = (stay_dropped s yes, dropped ss)

dropped_fit : {k : ℕ} (κs : Lfts (suc k)) (ss : List (Slot (suc k))) (a : Denots (types_at ss κs)) (ws : Fins κs ss (all yes ss) a) → fits_of κs ss (all yes ss) (dropped ss) a ws
dropped_fit κs [] a ws = tt
dropped_fit κs (s ∷ ss) a ws = (tt, dropped_fit κs ss a.1 ws.1)

-- an answer's type
pub record Answer : Type 2 where
  pub row : RattleType
  pub ty : Ty
  pub typed : {M : Type 1} {𝓤 : Ura M} (𝓛 : Logic 𝓤) → (r : row.Denot) (v : Val) → Is row r (v ∷ []) → Holds (has_ty ty v) × WT v

pub record Operation : Type 2 where
  pub kind : Answer
  -- the further parameters, and how many lifetimes they have
  pub lives : ℕ
  pub params : List (Param (suc lives))
  -- what it does, by further parameters, width, height, bytes before, answer and bytes after
  pub does : (κs : Lfts (suc lives)) → Denots (types_at (slots params) κs) → (n m : ℕ) → (ys : List ℕ) → kind.row.Denot → (zs : List ℕ) → Type 0

module _ (O : Operation) where
  abbrev pub parts : Ended
  parts = record {
    signature = record { lifetimes = suc O.lives; outlives = []; params = mut_slice 0 tt (λ _. u8) ∷ plain (λ _. u32) ∷ plain (λ _. u32) ∷ slots O.params; result = plain (λ _. O.kind.row) };
    kept = (yes, (yes, (yes, all yes (slots O.params))));
  }

  abbrev pub surface : Ended
  surface = record {
    signature = record { lifetimes = suc O.lives; outlives = []; params = SurfaceS O.lives ∷ slots O.params; result = plain (λ _. O.kind.row) };
    kept = (yes, all yes (slots O.params));
  }

  abbrev pub parts_stay : Stays parts.signature.params parts.kept
  parts_stay = (gave_slice (0 ∷ []) tt (plain (λ _. u8)), (stay_dropped (plain (λ _. u32)) yes, (stay_dropped (plain (λ _. u32)) yes, dropped (slots O.params))))

  abbrev pub surface_stay : Stays surface.signature.params surface.kept
  surface_stay = (surface_gave O.lives, dropped (slots O.params))

  module _ {M : Type 1} (𝓤 : Ura M) where
    abbrev pub on_parts : Clauses 𝓤 parts
    on_parts κs a = record {
      ghost = Unit {0};
      requires = λ _. emp 𝓤;
      ensures = λ _ r e. fact 𝓤 (O.does κs a.1.1.1 a.1.0 a.1.1.0 a.0.now r e.0.now);
    }

    abbrev pub on_surface : Clauses 𝓤 surface
    on_surface κs a = record {
      ghost = Unit {0};
      requires = λ _. emp 𝓤;
      ensures = λ _ r e. fact 𝓤 (On a.0 (O.does κs a.1) r e.0.0.now);
    }

    abbrev pub PartsSays : Clauses 𝓤 parts → Type 1
    PartsSays c = (κs : Lfts (suc O.lives)) (a : Args parts.signature κs) (g : (c κs a).ghost) (r : O.kind.row.Denot) (zs : List ℕ) → O.does κs a.1.1.1 a.1.0 a.1.1.0 a.0.now r zs
        → ent 𝓤 (emp 𝓤) ((c κs a).ensures g r (at_exit parts κs a (zs, (tt, (tt, rests O.params κs a.1.1.1)))))

    abbrev pub SurfaceSays : Clauses 𝓤 surface → Type 1
    SurfaceSays c = (κs : Lfts (suc O.lives)) (a : Args surface.signature κs) (g : (c κs a).ghost) (r : O.kind.row.Denot) (zs : List ℕ) → On a.0 (O.does κs a.1) r zs
        → ent 𝓤 (emp 𝓤) ((c κs a).ensures g r (at_exit surface κs a ((zs, tt), rests O.params κs a.1)))

-- a fact
pub it_says : {M : Type 1} (𝓤 : Ura M) {φ : Type 0} → φ → ent 𝓤 (emp 𝓤) (fact 𝓤 φ)
it_says 𝓤 {φ} y = fact_i 𝓤 φ (emp 𝓤) y

-- ---- what is known at exit of the parameters
module _ {M : Type 1} {𝓤 : Ura M} (𝓛 : Logic 𝓤) where
  dropped_has : {k : ℕ} (κs : Lfts (suc k)) (ss : List (Slot (suc k))) (a : Denots (types_at ss κs)) (ws : Fins κs ss (all yes ss) a) (vss : Valss (types_at ss κs)) → ent 𝓤 (emp 𝓤) (sem 𝓛 (has_of κs ss (all yes ss) (dropped ss) a ws vss))
  dropped_has κs [] a ws vss = id⊢ 𝓤 (emp 𝓤)
  dropped_has κs (s ∷ ss) a ws vss =
      qed 𝓛 [] {P = sem 𝓛 (has_of κs (s ∷ ss) (all yes (s ∷ ss)) (dropped (s ∷ ss)) a ws vss)} (use0 𝓛 (‵ (has_of κs ss (all yes ss) (dropped ss) a.1 ws.1 vss.1)) (dropped_has κs ss a.1 ws.1 vss.1) $ nothing ! $ done !)

  dropped_go : {k : ℕ} (Ps : List (Param (suc k))) → AllGo 𝓛 (suc k) (slots Ps) (all yes (slots Ps)) (dropped (slots Ps))
  dropped_go [] = tt
  dropped_go {k} (P ∷ Ps) = (Goes-dropped 𝓛 (suc k) P.slot yes P.silent, dropped_go Ps)

  pub parts_go : (O : Operation) → AllGo 𝓛 (suc O.lives) (parts O).signature.params (parts O).kept (parts_stay O)
  parts_go O = (Goes-gave_slice 𝓛 (suc O.lives) 0 tt (plain (λ _. u8)), (Goes-dropped 𝓛 (suc O.lives) (plain (λ _. u32)) yes (λ κs x f. refl), (Goes-dropped 𝓛 (suc O.lives) (plain (λ _. u32)) yes (λ κs x f. refl), dropped_go O.params)))

  pub surface_go : (O : Operation) → AllGo 𝓛 (suc O.lives) (surface O).signature.params (surface O).kept (surface_stay O)
  surface_go O = (surface_goes 𝓛 O.lives, dropped_go O.params)

-- the two contracts, as a caller uses them
module _ {M : Type 1} {𝓤 : Ura M} (𝓛 : Logic 𝓤) (O : Operation) where
  abbrev pub Parts : Contract 𝓤
  Parts = triple_of 𝓛 (parts O).signature (closing 𝓛 (parts O) (on_parts O 𝓤))

  abbrev pub OnSurface : Contract 𝓤
  OnSurface = triple_of 𝓛 (surface O).signature (closing 𝓛 (surface O) (on_surface O 𝓤))

module _ {M : Type 1} {𝓤 : Ura M} (𝓛 : Logic 𝓤) (O : Operation)
    (κs : Lfts (suc O.lives)) (qs : Shares (suc O.lives)) (b o : ℕ) (γ : GName) (ys : List ℕ) (n m : ℕ) (n-fits : n < 2 ^ 32) (m-fits : m < 2 ^ 32) (e : Denots (types_at (slots O.params) κs)) (vs : Valss (types_at (slots O.params) κs)) where
  abbrev κ : Lft
  κ = κs.0

  abbrev α : NamedLft
  α = record { mir = named 0; lft = κ }

  abbrev x : MutBor (List ℕ)
  x = record { ref_ptr = (b, o); ghost_name = γ; now = ys }

  abbrev h : Surface
  h = record { pixels = x; width = n; height = m }

  -- the machine values of the slice and of the struct
  abbrev s : Val
  s = slice_val (b, o) (length ys)

  abbrev mach : Val
  mach = vstruct (vcons s (vcons (vint w32 n) (vcons (vint w32 m) vnil)))

  abbrev pub to_parts : (Parts 𝓛 O).Ghost
  to_parts = ((κs, qs, tt, (x, (n, (m, e))), (s ∷ [], (vint w32 n ∷ [], (vint w32 m ∷ [], vs)))), tt)

  abbrev pub to_surface : (OnSurface 𝓛 O).Ghost
  to_surface = ((κs, qs, tt, (h, e), (mach ∷ [], vs)), tt)

  -- ---- the call: what is owned of a struct is what is owned of its parts
  pub apart : ent 𝓤 (on_entry 𝓛 (surface O).signature κs qs (h, e) (mach ∷ [], vs)) ((Parts 𝓛 O).pre to_parts)
  apart =
      qed 𝓛 (raw (toks 𝓛 (suc O.lives) κs qs) ∷ ‵ (owns (T.the_row α ∷ types_at (slots O.params) κs) (h, e) (mach ∷ [], vs)) ∷ []) ∵ move ! (1 ∷ []) $ fsplit ! $
      use1 𝓛 (given (mach ∷ [] ≡ mach ∷ []) (‵ (all_own (T.the_type α).parts (T'.the_laws α) (x, (n, (m, tt)))))) (own_open 𝓛 (T.the_type α) (T'.the_laws α) (x, (n, (m, tt))) mach) $ learn ! (λ _. fsplit ! $
      -- [the borrow; the sides; the further parameters; the token]
      move ! (1 ∷ []) $ drop ! $ move ! (1 ∷ []) $ owned ! u32 (Is u32) (uint_Makes 𝓛 w32) m (vint w32 m ∷ []) (refl, m-fits) $ fjoin ! $ owned ! u32 (Is u32) (uint_Makes 𝓛 w32) n (vint w32 n ∷ []) (refl, n-fits) $ fjoin ! $
      move ! (1 ∷ 0 ∷ []) $ fjoin ! $ move ! (1 ∷ 0 ∷ []) $ join ! $ nothing ! $ move ! (1 ∷ 0 ∷ []) $ done !)

  pub together : ent 𝓤 (on_entry 𝓛 (parts O).signature κs qs (x, (n, (m, e))) (s ∷ [], (vint w32 n ∷ [], (vint w32 m ∷ [], vs)))) ((OnSurface 𝓛 O).pre to_surface)
  together =
      qed 𝓛 (raw (toks 𝓛 (suc O.lives) κs qs) ∷ ‵ (owns (MutSlice (named 0) κ u8 ∷ u32 ∷ u32 ∷ types_at (slots O.params) κs) (x, (n, (m, e))) (s ∷ [], (vint w32 n ∷ [], (vint w32 m ∷ [], vs)))) ∷ []) ∵
      move ! (1 ∷ []) $ fsplit ! $ move ! (1 ∷ []) $ fsplit ! $ drop ! $ fsplit ! $ drop ! $
      -- [the further parameters; the borrow; the token]
      nothing ! $ owned ! u32 (Is u32) (uint_Makes 𝓛 w32) m (vint w32 m ∷ []) (refl, m-fits) $ fjoin ! $ owned ! u32 (Is u32) (uint_Makes 𝓛 w32) n (vint w32 n ∷ []) (refl, n-fits) $ fjoin ! $ move ! (2 ∷ 0 ∷ []) $ fjoin ! $
      use1 𝓛 (‵ ((T.the_row α).own_val h (mach ∷ []))) (own_shut 𝓛 (T.the_type α) (T'.the_laws α) (x, (n, (m, tt)))) $ fjoin ! $ move ! (1 ∷ 0 ∷ []) $ join ! $ nothing ! $ move ! (1 ∷ 0 ∷ []) $ done !

  -- ---- what is returned: an answer r and a last list zs, with the contract's promise
  pub record Said (r : O.kind.row.Denot) (zs : List ℕ) : Type 0 where
    pub done : O.does κs e n m ys r zs
    pub long : length zs ≡ length ys

  -- what is had of the bytes once they are given up: their last list, and the closed borrow
  abbrev gave : List ℕ → Fml
  gave zs = fsep (finally u8 γ zs) (fbor κ (Body (Arr (Holey (mem u8)) (length ys)) b o γ))

  -- the same, at the machine value w
  abbrev pub had : O.kind.row.Denot → List ℕ → Val → Item 𝓤
  had r zs w = raw (toks 𝓛 (suc O.lives) κs qs) ⊛ (‵ (gave zs) ⊛ ‵ (O.kind.row.own_val r (w ∷ [])))

  abbrev pub GivenBack : Val → Item 𝓤
  GivenBack w = later (some (λ (p : O.kind.row.Denot × List ℕ). given (Said p.0 p.1) (had p.0 p.1 w)))

  pub parts_give : (w : Val) → ent 𝓤 ((Parts 𝓛 O).post to_parts w) (mean 𝓛 (GivenBack w))
  parts_give w =
      qed 𝓛 (raw ((Parts 𝓛 O).post to_parts w) ∷ []) ∵ updating ! $
      use1 𝓛 (later (some (λ (r : O.kind.row.Denot). (raw (toks 𝓛 (suc O.lives) κs qs) ⊛ ‵ (O.kind.row.own_val r (w ∷ []))) ⊛ raw (ensured 𝓛 (parts O) (on_parts O 𝓤) κs (x, (n, (m, e))) tt r)))) (id⊢ 𝓤 _) $ await ! tt $ pick ! (λ r.
      split ! $ move ! (1 ∷ []) $ use1 𝓛 (some (λ (ws : Lasts (parts O) κs (x, (n, (m, e)))). ‵ (lasts (parts O) κs (x, (n, (m, e))) ws) ⊛ raw (fact 𝓤 (O.does κs e n m ys r ws.0)))) (id⊢ 𝓤 _) $ pick ! (λ ws.
      split ! $ move ! (1 ∷ []) $ heard ! (O.does κs e n m ys r ws.0) (λ d. fsplit ! $ fsplit ! $ fsplit ! $ move ! (1 ∷ []) $ feq_l ! (λ l. fjoin ! $
      -- [the bytes given up; …; the token and the result]
      at_once ! $ show ! (λ (p : O.kind.row.Denot × List ℕ). mean 𝓛 (given (Said p.0 p.1) (had p.0 p.1 w))) (r, ws.0) $ check ! (record { done = d; long = l }) $
      move ! (2 ∷ []) $ split ! $ keep ! (0 ∷ 2 ∷ 1 ∷ []) $ done !))))

  pub surface_give : (w : Val) → ent 𝓤 ((OnSurface 𝓛 O).post to_surface w) (mean 𝓛 (GivenBack w))
  surface_give w =
      qed 𝓛 (raw ((OnSurface 𝓛 O).post to_surface w) ∷ []) ∵ updating ! $
      use1 𝓛 (later (some (λ (r : O.kind.row.Denot). (raw (toks 𝓛 (suc O.lives) κs qs) ⊛ ‵ (O.kind.row.own_val r (w ∷ []))) ⊛ raw (ensured 𝓛 (surface O) (on_surface O 𝓤) κs (h, e) tt r)))) (id⊢ 𝓤 _) $ await ! tt $ pick ! (λ r.
      split ! $ move ! (1 ∷ []) $ use1 𝓛 (some (λ (ws : Lasts (surface O) κs (h, e)). ‵ (lasts (surface O) κs (h, e) ws) ⊛ raw (fact 𝓤 (O.does κs e n m ys r ws.0.0)))) (id⊢ 𝓤 _) $ pick ! (λ ws.
      split ! $ move ! (1 ∷ []) $ heard ! (O.does κs e n m ys r ws.0.0) (λ d. fsplit ! $ fsplit ! $ fsplit ! $ fsplit ! $ move ! (1 ∷ []) $ feq_l ! (λ l. fjoin ! $
      -- [the bytes given up; …; …; the token and the result]
      at_once ! $ show ! (λ (p : O.kind.row.Denot × List ℕ). mean 𝓛 (given (Said p.0 p.1) (had p.0 p.1 w))) (r, ws.0.0) $ check ! (record { done = d; long = l }) $
      move ! (3 ∷ []) $ split ! $ keep ! (0 ∷ 2 ∷ 1 ∷ []) $ done !))))

  -- ---- the end of a proof
  -- what holds in any case is joined to P
  and_so : (P : SProp 𝓤) {Q : SProp 𝓤} → ent 𝓤 (emp 𝓤) Q → ent 𝓤 P (sep 𝓤 P Q)
  and_so P {Q} k = qed 𝓛 (raw P ∷ []) ∵ use0 𝓛 (raw Q) k $ move ! (1 ∷ 0 ∷ []) $ done !

  module _ (c : Clauses 𝓤 (parts O)) (says : PartsSays O 𝓤 c) (g : (c κs (x, (n, (m, e)))).ghost) where
    abbrev pub PartsPost : Val → SProp 𝓤
    PartsPost = (walk_of 𝓛 (parts O) (parts_stay O) c).post (to_parts.0, g)

    pub parts_end : (r : O.kind.row.Denot) (zs : List ℕ) (w : Val) → Said r zs → ent 𝓤 (mean 𝓛 (had r zs w)) (PartsPost w)
    parts_end r zs w k =
        qed 𝓛 (had r zs w ∷ []) ∵ suffices ! _ (ends_at 𝓛 (parts O) (parts_stay O) c (to_parts.0, g) w r (zs, (tt, (tt, rests O.params κs e))) (k.long, (tt, (tt, dropped_fit κs (slots O.params) e (rests O.params κs e))))) $
        suffices ! _ (and_so _ (says κs (x, (n, (m, e))) g r zs k.done)) $ split ! $ frame ! $ split ! $
        use0 𝓛 (‵ (has_of κs (slots O.params) (all yes (slots O.params)) (dropped (slots O.params)) e (rests O.params κs e) vs)) (dropped_has 𝓛 κs (slots O.params) e (rests O.params κs e) vs) $
        nothing ! $ fjoin ! $ nothing ! $ fjoin ! $ move ! (1 ∷ 0 ∷ []) $ fjoin ! $ done !

  -- what is known of the struct's fields, at their machine values
  abbrev held : List ℕ → List Val × (List Val × (List Val × Unit {0})) → Fml
  held zs vss = fsep (gave zs) (fsep (u32.own_val n vss.1.0) (fsep (u32.own_val m vss.1.1.0) ftrue))

  module _ (c : Clauses 𝓤 (surface O)) (says : SurfaceSays O 𝓤 c) (g : (c κs (h, e)).ghost) where
    abbrev pub SurfacePost : Val → SProp 𝓤
    SurfacePost = (walk_of 𝓛 (surface O) (surface_stay O) c).post (to_surface.0, g)

    pub surface_end : (r : O.kind.row.Denot) (zs : List ℕ) (w : Val) → Said r zs → ent 𝓤 (mean 𝓛 (had r zs w)) (SurfacePost w)
    surface_end r zs w k =
        qed 𝓛 (had r zs w ∷ []) ∵ suffices ! _ (ends_at 𝓛 (surface O) (surface_stay O) c (to_surface.0, g) w r ((zs, tt), rests O.params κs e) ((k.long, (tt, (tt, tt))), dropped_fit κs (slots O.params) e (rests O.params κs e))) $
        suffices ! _ (and_so _ (says κs (h, e) g r zs k.done)) $ split ! $ frame ! $ split ! $
        nothing ! $ owned ! u32 (Is u32) (uint_Makes 𝓛 w32) m (vint w32 m ∷ []) (refl, m-fits) $ fjoin ! $ owned ! u32 (Is u32) (uint_Makes 𝓛 w32) n (vint w32 n ∷ []) (refl, n-fits) $ fjoin ! $ move ! (1 ∷ 0 ∷ []) $ fjoin ! $
        use1 𝓛 (‵ (in_struct (MutSlice (named 0) κ u8 ∷ u32 ∷ u32 ∷ []) (mach ∷ []) (held zs))) (makes 𝓛 (MutSlice (named 0) κ u8 ∷ u32 ∷ u32 ∷ []) (held zs) (s ∷ [], (vint w32 n ∷ [], (vint w32 m ∷ [], tt)))) $
        use0 𝓛 (‵ (has_of κs (slots O.params) (all yes (slots O.params)) (dropped (slots O.params)) e (rests O.params κs e) vs)) (dropped_has 𝓛 κs (slots O.params) e (rests O.params κs e) vs) $ move ! (1 ∷ 0 ∷ []) $ fjoin ! $ done !
