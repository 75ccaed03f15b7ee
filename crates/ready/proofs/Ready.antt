-- Laws of the refusals that every call shares: when there is none, and its cases. Assumes nothing.
use mathlib.Core.Bool.{Bool, true, false, cond, ◌&&◌, true≢false}
use mathlib.Core.List.{List}
use mathlib.Core.Path.{◌≡◌, refl, sym, ◌∙◌}
use Prim.Native.Nat.{ℕ}
use native.Mathlib.Omega.{arith}
use lib.Dec.{eqb}
use borrow.Author.Tests.{eqb-true, eq-eqb, ne_eqb}
use Rattle.arithmetic.proofs.Test.{both}
use Rattle.gdi.specs.declared.GdiState.{GdiState}
use Rattle.sound.specs.Sound.{is_sound}
use Rattle.numbers.specs.View.{view, is_record}
use Rattle.ready.specs.Ready.{common_refusal, common_refusal_on, panel_refusal_on}

-- A ready record: it is sound, and the lent memories have its lengths.
pub record Ready (b : GdiState) (panel_len store_len : ℕ) : Type 0 where
  pub sound : is_sound b ≡ true
  pub panel : panel_len ≡ b.panel_len
  pub store : store_len ≡ b.store_len

-- What the function of every call requires: the numbers are a record, and it is ready.
pub record Lent (l : List ℕ) (panel_len store_len : ℕ) : Type 0 where
  pub is_record_lem : is_record l ≡ true
  pub ready : Ready (view l) panel_len store_len

-- the cases
module _ (b : GdiState) (n k : ℕ) where
  pub unsound : is_sound b ≡ false → 9 ≡ common_refusal b n k
  unfolding common_refusal
  unsound e = rw e

  module _ (e : is_sound b ≡ true) where
    pub other_panel : (n ≡ b.panel_len → ⊥) → 8 ≡ common_refusal b n k
    unfolding common_refusal
    other_panel ne = rw (e, ne_eqb _ _ ne)

    pub other_store : n ≡ b.panel_len → (k ≡ b.store_len → ⊥) → 8 ≡ common_refusal b n k
    unfolding common_refusal
    other_store f ne = rw (e, eq-eqb _ _ f, ne_eqb _ _ ne)

    pub none_other : n ≡ b.panel_len → k ≡ b.store_len → 0 ≡ common_refusal b n k
    unfolding common_refusal
    none_other f g = rw (e, eq-eqb _ _ f, eq-eqb _ _ g)

-- a record is ready exactly if no shared refusal applies
pub ready : (b : GdiState) (n k no₀ : ℕ) → no₀ ≡ common_refusal b n k → no₀ ≡ 0 → Ready b n k
unfolding common_refusal
ready b n k no₀ e z = by (is_sound b) refl (eqb n b.panel_len) refl (eqb k b.store_len) refl (sym z ∙ e)
  where
    by : (s : Bool) → is_sound b ≡ s → (p : Bool) → eqb n b.panel_len ≡ p → (q : Bool) → eqb k b.store_len ≡ q
        → ◌≡◌ {A = ℕ} 0 (cond s (cond (p && q) 0 8) 9) → Ready b n k
    by true es true ep true eq i = record { sound = es; panel = eqb-true _ _ ep; store = eqb-true _ _ eq }
    by true es true ep false eq i = absurd (omega arith)
    by true es false ep q eq i = absurd (omega arith)
    by false es p ep q eq i = absurd (omega arith)

pub ready_accepts : {b : GdiState} {n k : ℕ} → Ready b n k → common_refusal b n k ≡ 0
ready_accepts {b} {n} {k} r = sym (none_other b n k r.sound r.panel r.store)

-- the same of a flat record
module _ (l : List ℕ) (n k : ℕ) where
  pub no_sound_record : (is_record l && is_sound (view l)) ≡ false → 9 ≡ common_refusal_on l n k
  unfolding common_refusal
  no_sound_record e = by (is_record l) (is_sound (view l)) e
    where
      by : (r s : Bool) → (r && s) ≡ false → ◌≡◌ {A = ℕ} 9 (cond r (cond s (cond (eqb n (view l).panel_len && eqb k (view l).store_len) 0 8) 9) 9)
      by true true e = absurd (true≢false e)
      by true false e = refl
      by false s e = refl

  pub of_record : {no₀ : ℕ} → (is_record l && is_sound (view l)) ≡ true → (is_sound (view l) ≡ true → no₀ ≡ common_refusal (view l) n k) → no₀ ≡ common_refusal_on l n k
  of_record e f = let p = both (is_record l) (is_sound (view l)) e in rw p.0 (f p.1)

  pub lent : (no₀ : ℕ) → no₀ ≡ common_refusal_on l n k → no₀ ≡ 0 → Lent l n k
  lent no₀ e z = by (is_record l) refl e
    where
      by : (t : Bool) → is_record l ≡ t → no₀ ≡ cond t (common_refusal (view l) n k) 9 → Lent l n k
      by true r f = record { is_record_lem = r; ready = ready (view l) n k no₀ f z }
      by false r f = absurd (omega (arith, f, z))

-- the refusal with both memories lent: that with the panel memory alone, if there is one; else by the store's length
module _ (l : List ℕ) (n k : ℕ) {no₀ : ℕ} (e : no₀ ≡ panel_refusal_on l n) where
  pub panel_first : (no₀ ≡ 0 → ⊥) → no₀ ≡ common_refusal_on l n k
  unfolding common_refusal
  panel_first ne = by (is_record l) (is_sound (view l)) (eqb n (view l).panel_len) (eqb k (view l).store_len) (rw (eq-eqb (view l).store_len (view l).store_len refl) at e)
    where
      by : (r s p q : Bool) → no₀ ≡ cond r (cond s (cond (p && true) 0 8) 9) 9 → no₀ ≡ cond r (cond s (cond (p && q) 0 8) 9) 9
      by true true true q f = absurd (ne f)
      by true true false q f = f
      by true false p q f = f
      by false s p q f = f

  module _ (z : no₀ ≡ 0) where
    panel_ready : Lent l n (view l).store_len
    panel_ready = lent l n (view l).store_len no₀ e z

    pub then_record : is_record l ≡ true
    then_record = panel_ready.is_record_lem

    pub then_other_store : (k ≡ (view l).store_len → ⊥) → 8 ≡ common_refusal_on l n k
    then_other_store ne = rw then_record (other_store (view l) n k panel_ready.ready.sound panel_ready.ready.panel ne)

    pub then_none : k ≡ (view l).store_len → 0 ≡ common_refusal_on l n k
    then_none f = rw then_record (none_other (view l) n k panel_ready.ready.sound panel_ready.ready.panel f)

-- a call that is lent one memory, or none, may take the other's length for the record's own
module _ {l : List ℕ} {n k : ℕ} (i : Lent l n k) where
  pub store_lent : Lent l (view l).panel_len k
  store_lent = record { is_record_lem = i.is_record_lem; ready = record { sound = i.ready.sound; panel = refl; store = i.ready.store } }

  pub panel_lent : Lent l n (view l).store_len
  panel_lent = record { is_record_lem = i.is_record_lem; ready = record { sound = i.ready.sound; panel = i.ready.panel; store = refl } }

  pub record_lent : Lent l (view l).panel_len (view l).store_len
  record_lent = record { is_record_lem = i.is_record_lem; ready = record { sound = i.ready.sound; panel = refl; store = refl } }
