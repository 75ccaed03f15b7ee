-- A function's further parameters, as many as there are, as one entry of a walk's context: their locals are allocated, stored, read and freed together. `Types/Run.antt` has the rules for one local.
--     Blocks τs, env τs bs     a block for each type, and the locals there
--     roomy, held              room in each block, and a value in each
--     alloc_all, pass_all, forget_all, free_all     the locals' rules
--     copies i τs      the operands that copy them, from local i on.        At, reads_at     where they stand there, these give the values
--     past τs j        the number of the local j after them.        spot_past, at_spot     where that is
-- The rules take `Logic`. The rest assumes nothing.
use mathlib.Core.Path.{◌≡◌, refl, subst}
use Prim.Native.Nat.{ℕ, zero, suc}
use mathlib.Core.List.{List, [], ◌∷◌, ◌++◌}
use seplogic.Ra.Ura.{Ura}
use base.Fraction.{full_share}
use mir.Syntax.{Ty, Opd as Operand, copy, place, Local, local, value_local}
use mir.Val.{Val}
use base.Logic.{SProp, wand, all, all_e, apply∗}
use base.Fml.{Share, ftrue, fat, froom, fdies}
use prog.Wp.{Heap, Env, Spot, spot_of}
use types.Logic.{Logic}
use types.Kit.{Item, ‵, raw, ◌⊛◌, mean, Goal, allocs, passes, frees, Seq, Step, step, ◌$◌, ◌∵◌, !, qed, move, drop, use1, use2, split, join, assume, frame, each, done}
use types.Run.{Reads, Finds, Opds, init, forget, stop, from, load, and_then, no_more, alloc1, pass1, pass0, free1}
use types.Part.{Part, whole}
use denote.Laws.{Typed}
use denote.Steps.{nothing}

abbrev pub Blocks : List Ty → Type 0
Blocks [] = Unit {0}
Blocks (τ ∷ τs) = ℕ × Blocks τs

abbrev pub locals : List Ty → List Local
locals [] = []
locals (τ ∷ τs) = local τ value_local ∷ locals τs

abbrev pub copies : ℕ → List Ty → List Operand
copies i [] = []
copies i (τ ∷ τs) = copy (place i []) ∷ copies (suc i) τs

abbrev pub past : List Ty → ℕ → ℕ
past [] j = j
past (τ ∷ τs) j = suc (past τs j)

module _ {M : Type 1} (𝓤 : Ura M) (H : Heap 𝓤) where
  abbrev pub env : (τs : List Ty) → Blocks τs → Env 𝓤 H
  env [] bs = []
  env (τ ∷ τs) bs = (τ, bs.0) ∷ env τs bs.1

  abbrev pub roomy : (τs : List Ty) → Blocks τs → Item 𝓤
  roomy [] bs = ‵ ftrue
  roomy (τ ∷ τs) bs = (‵ (froom τ bs.0 zero) ⊛ ‵ (fdies τ bs.0)) ⊛ roomy τs bs.1

  abbrev pub held : (τs : List Ty) → Blocks τs → List Val → Item 𝓤
  held [] bs vs = ‵ ftrue
  held (τ ∷ τs) bs [] = ‵ ftrue
  held (τ ∷ τs) bs (v ∷ vs) = (‵ (fat full_share τ bs.0 zero v) ⊛ ‵ (fdies τ bs.0)) ⊛ held τs bs.1 vs

  -- the locals from i on are these
  abbrev pub At : Env 𝓤 H → ℕ → (τs : List Ty) → Blocks τs → Type 0
  At E i [] bs = Unit {0}
  At E i (τ ∷ τs) bs = (spot_of 𝓤 H E i ≡ (τ, bs.0, zero)) × At E (suc i) τs bs.1

  pub at_next : (E : Env 𝓤 H) (e : Ty × ℕ) (i : ℕ) (τs : List Ty) (bs : Blocks τs) → At E i τs bs → At (e ∷ E) (suc i) τs bs
  at_next E e i [] bs a = tt
  at_next E e i (τ ∷ τs) bs a = (a.0, at_next E e (suc i) τs bs.1 a.1)

  pub at_start : (τs : List Ty) (bs : Blocks τs) (E : Env 𝓤 H) → At (env τs bs ++ E) zero τs bs
  at_start [] bs E = tt
  at_start (τ ∷ τs) bs E = (refl, at_next (env τs bs.1 ++ E) (τ, bs.0) zero τs bs.1 (at_start τs bs.1 E))

  pub spot_past : (τs : List Ty) (bs : Blocks τs) (E : Env 𝓤 H) (j : ℕ) → spot_of 𝓤 H (env τs bs ++ E) (past τs j) ≡ spot_of 𝓤 H E j
  spot_past [] bs E j = refl
  spot_past (τ ∷ τs) bs E j = spot_past τs bs.1 E j

module _ {M : Type 1} {𝓤 : Ura M} {𝓛 : Logic 𝓤} {K : Type 0} where
  open 𝓛 use {H}

  pub alloc_all : K → (τs : List Ty) {Γ : List (Item 𝓤)} {ls : List Local} {Kt : Env 𝓤 H → Goal 𝓤 H}
      → ((bs : Blocks τs) → Seq K 𝓛 (roomy 𝓤 H τs bs ∷ Γ) (allocs ls (λ E. Kt (env 𝓤 H τs bs ++ E)))) → Seq K 𝓛 Γ (allocs (locals τs ++ ls) Kt)
  alloc_all t [] k = nothing t $ k tt
  alloc_all t (τ ∷ τs) {Γ} {ls} {Kt} k = alloc1 t (λ b. alloc_all t τs {ls = ls} {Kt = λ E. Kt ((τ, b) ∷ E)} (λ bs. move t (1 ∷ 2 ∷ 0 ∷ []) $ join t $ join t $ k (b, bs)))

  pub pass_all : K → (τs : List Ty) (bs : Blocks τs) (E : Env 𝓤 H) (vs : List Val) → Typed τs vs → {Γ : List (Item 𝓤)} {g : Goal 𝓤 H}
      → Step K 𝓛 (held 𝓤 H τs bs vs ∷ Γ) g (roomy 𝓤 H τs bs ∷ Γ) (passes (env 𝓤 H τs bs ++ E) vs g)
  pass_all t [] bs E [] z = step (λ s. pass0 t $ s)
  pass_all t [] bs E (v ∷ vs) z = absurd z
  pass_all t (τ ∷ τs) bs E [] z = absurd z
  pass_all t (τ ∷ τs) bs E (v ∷ vs) z = step (λ s. split t $ split t $ pass1 t (init t 0 refl z.0) $ move t (2 ∷ 0 ∷ 1 ∷ []) $ pass_all t τs bs.1 E vs z.1 $ move t (1 ∷ 2 ∷ 0 ∷ []) $ join t $ join t $ s)

  pub forget_all : K → (τs : List Ty) (bs : Blocks τs) (vs : List Val) → Typed τs vs → {Γ : List (Item 𝓤)} {G : Goal 𝓤 H} → Step K 𝓛 (roomy 𝓤 H τs bs ∷ Γ) G (held 𝓤 H τs bs vs ∷ Γ) G
  forget_all t [] bs vs z = step (λ s. s)
  forget_all t (τ ∷ τs) bs [] z = absurd z
  forget_all t (τ ∷ τs) bs (v ∷ vs) z = step (λ s. split t $ split t $ forget t 0 refl $ move t (2 ∷ 0 ∷ 1 ∷ []) $ forget_all t τs bs.1 vs z.1 $ move t (1 ∷ 2 ∷ 0 ∷ []) $ join t $ join t $ s)

  pub free_all : K → (τs : List Ty) (bs : Blocks τs) (E : Env 𝓤 H) {Γ : List (Item 𝓤)} {g : Goal 𝓤 H} → Step K 𝓛 Γ (frees E g) (roomy 𝓤 H τs bs ∷ Γ) (frees (env 𝓤 H τs bs ++ E) g)
  free_all t [] bs E = step (λ s. drop t $ s)
  free_all t (τ ∷ τs) bs E = step (λ s. split t $ split t $ free1 t $ free_all t τs bs.1 E $ s)

  -- a cell within the one or the other of two entries that are joined
  in_first : K → {i j : Item 𝓤} {q : Share} {τ : Ty} {b o : ℕ} {v : Val} {back : Val → Item 𝓤} → Part K 𝓛 i q τ b o v back → Part K 𝓛 (i ⊛ j) q τ b o v (λ u. back u ⊛ j)
  in_first t {i} {j} {q} {τ} {b} {o} {v} {back} p = record {
    out = qed 𝓛 ((i ⊛ j) ∷ []) ∵ split ! $ use1 𝓛 (‵ (fat q τ b o v) ⊛ raw (all 𝓤 Back)) p.out $ split ! $ frame ! $
        each ! (λ (u : Val). wand 𝓤 (H.at q τ b o u) (mean 𝓛 (back u ⊛ j))) (λ u. assume {P = mean 𝓛 (back u ⊛ j)} ! (‵ (fat q τ b o u)) $
        move ! (1 ∷ []) $ use1 𝓛 (raw (Back u)) (all_e 𝓤 Back u) $ move ! (1 ∷ 0 ∷ []) $ use2 𝓛 (back u) (apply∗ 𝓤 (H.at q τ b o u) (mean 𝓛 (back u))) $ done !);
    same = λ k. p.same k ⊛ j;
  }
    where
      Back : Val → SProp 𝓤
      Back u = wand 𝓤 (H.at q τ b o u) (mean 𝓛 (back u))

  in_second : K → {i j : Item 𝓤} {q : Share} {τ : Ty} {b o : ℕ} {v : Val} {back : Val → Item 𝓤} → Part K 𝓛 j q τ b o v back → Part K 𝓛 (i ⊛ j) q τ b o v (λ u. i ⊛ back u)
  in_second t {i} {j} {q} {τ} {b} {o} {v} {back} p = record {
    out = qed 𝓛 ((i ⊛ j) ∷ []) ∵ split ! $ move ! (1 ∷ []) $ use1 𝓛 (‵ (fat q τ b o v) ⊛ raw (all 𝓤 Back)) p.out $ split ! $ frame ! $
        each ! (λ (u : Val). wand 𝓤 (H.at q τ b o u) (mean 𝓛 (i ⊛ back u))) (λ u. assume {P = mean 𝓛 (i ⊛ back u)} ! (‵ (fat q τ b o u)) $
        move ! (1 ∷ []) $ use1 𝓛 (raw (Back u)) (all_e 𝓤 Back u) $ move ! (1 ∷ 0 ∷ []) $ use2 𝓛 (back u) (apply∗ 𝓤 (H.at q τ b o u) (mean 𝓛 (back u))) $ move ! (1 ∷ 0 ∷ []) $ done !);
    same = λ k. i ⊛ p.same k;
  }
    where
      Back : Val → SProp 𝓤
      Back u = wand 𝓤 (H.at q τ b o u) (mean 𝓛 (back u))

  module _ {Γ : List (Item 𝓤)} {E : Env 𝓤 H} where
    -- a local whose place is known
    pub at_spot : K → {i : ℕ} {sp : Spot 𝓤 H} → spot_of 𝓤 H E i ≡ sp → Finds K 𝓛 Γ E (place i []) sp
    at_spot t {i} {sp} e = subst (λ (z : Spot 𝓤 H). Finds K 𝓛 Γ E (place i []) z) e (from t (stop t))

    pub reads_at : K → (i : ℕ) (τs : List Ty) (bs : Blocks τs) (vs : List Val) → Typed τs vs → At 𝓤 H E i τs bs
        → ((τ : Ty) (b o : ℕ) (v : Val) (back : Val → Item 𝓤) → Part K 𝓛 (held 𝓤 H τs bs vs) full_share τ b o v back → Reads K 𝓛 Γ τ b o v) → Opds K 𝓛 Γ E (copies i τs) vs
    reads_at t i [] bs [] z a look_at = no_more t
    reads_at t i [] bs (v ∷ vs) z a look_at = absurd z
    reads_at t i (τ ∷ τs) bs [] z a look_at = absurd z
    reads_at t i (τ ∷ τs) bs (v ∷ vs) z a look_at =
        and_then t (load t (at_spot t a.0) (look_at τ bs.0 zero v _ (in_first t (in_first t (whole t))))) (reads_at t (suc i) τs bs.1 vs z.1 a.1 (λ σ b o u back p. look_at σ b o u _ (in_second t p)))
