-- Laws of written memory, byte by byte. Assumes nothing.
use mathlib.Core.Bool.{Bool, true, false, ◌||◌, cond}
use mathlib.Core.List.{List}
use mathlib.Core.Logic.{◌≢◌}
use mathlib.Core.Path.{◌≡◌, refl, sym, ◌∙◌, ap}
use Prim.Native.Nat.{ℕ, zero, suc, ◌<◌}
use native.Mathlib.Decide.{ℕ_discrete}
use native.Mathlib.Nat.{le_of_suc-le-suc, not-suc-le-zero}
use native.Mathlib.Omega.{arith}
use lib.ListN.{get_or, length, set, length-set}
use lib.Seq.{ext_get_or, get_or-set_same, get_or-set_other}
use Rattle.words.specs.Words.{tabulate, written}

length_tabulate : (n : ℕ) (f : ℕ → ℕ) → length (tabulate n f) ≡ n
length_tabulate zero f = refl
length_tabulate (suc n) f = ap suc (length_tabulate n (λ k. f (suc k)))

get_d_tabulate : (n : ℕ) (f : ℕ → ℕ) (k : ℕ) → k < n → get_or (tabulate n f) k 0 ≡ f k
get_d_tabulate zero f k h = absurd (not-suc-le-zero h)
get_d_tabulate (suc n) f zero h = refl
get_d_tabulate (suc n) f (suc k) h = get_d_tabulate n (λ j. f (suc j)) k (le_of_suc-le-suc h)

module _ (p : ℕ → Bool) (f : ℕ → ℕ) (m : List ℕ) where
  pub length_written : length (written p f m) ≡ length m
  unfolding written
  length_written = length_tabulate (length m) (λ k. cond (p k) (f k) (get_or m k 0))

  pub written_at_lem : (k : ℕ) → k < length m → get_or (written p f m) k 0 ≡ cond (p k) (f k) (get_or m k 0)
  unfolding written
  written_at_lem k h = get_d_tabulate (length m) (λ j. cond (p j) (f j) (get_or m j 0)) k h

  -- a list equals the written memory if it has the same length and the same bytes
  pub is_written : (l : List ℕ) → length l ≡ length m → ((k : ℕ) → k < length m → get_or l k 0 ≡ cond (p k) (f k) (get_or m k 0)) → l ≡ written p f m
  is_written l e h =
      ext_get_or 0 l (written p f m) (e ∙ sym length_written)
      (λ k lt. let b : k < length m = omega (arith, e) in h k b ∙ sym (written_at_lem k b))

-- nothing is written
pub written_none : (p : ℕ → Bool) (f : ℕ → ℕ) (m : List ℕ) → ((k : ℕ) → k < length m → p k ≡ false) → m ≡ written p f m
written_none p f m h = is_written p f m m refl (λ k lt. sym (ap (λ (t : Bool). cond t (f k) (get_or m k 0)) (h k lt)))

-- two descriptions of the same bytes
pub written_same : (p q : ℕ → Bool) (f g : ℕ → ℕ) (m : List ℕ) → ((k : ℕ) → k < length m → p k ≡ q k) → ((k : ℕ) → k < length m → q k ≡ true → f k ≡ g k) → written p f m ≡ written q g m
written_same p q f g m e h = is_written q g m (written p f m) (length_written p f m) (λ k lt. written_at_lem p f m k lt ∙ ap (λ (t : Bool). cond t (f k) (get_or m k 0)) (e k lt) ∙ by k lt (q k) refl)
  where
    by : (k : ℕ) → k < length m → (t : Bool) → q k ≡ t → cond t (f k) (get_or m k 0) ≡ cond t (g k) (get_or m k 0)
    by k lt true u = h k lt u
    by k lt false u = refl

-- writing again at r, where the new bytes are those of f
pub written_again : (p r q : ℕ → Bool) (f g : ℕ → ℕ) (m : List ℕ) → ((k : ℕ) → k < length m → q k ≡ (r k || p k)) → ((k : ℕ) → k < length m → r k ≡ true → g k ≡ f k) → written r g (written p f m) ≡ written q f m
written_again p r q f g m e h = is_written q f m (written r g (written p f m)) (length_written r g (written p f m) ∙ length_written p f m) at
  where
    by : (k : ℕ) → k < length m → (t : Bool) → r k ≡ t → (o : Bool) → cond t (g k) (cond o (f k) (get_or m k 0)) ≡ cond (t || o) (f k) (get_or m k 0)
    by k lt true u o = h k lt u
    by k lt false u o = refl

    at : (k : ℕ) → k < length m → get_or (written r g (written p f m)) k 0 ≡ cond (q k) (f k) (get_or m k 0)
    at k lt =
        written_at_lem r g (written p f m) k (omega (arith, length_written p f m))
        ∙ ap (λ (x : ℕ). cond (r k) (g k) x) (written_at_lem p f m k lt)
        ∙ by k lt (r k) refl (p k)
        ∙ ap (λ (t : Bool). cond t (f k) (get_or m k 0)) (sym (e k lt))

-- one byte is stored
pub written_set : (p q : ℕ → Bool) (f : ℕ → ℕ) (m : List ℕ) (i : ℕ) → i < length m → q i ≡ true → ((j : ℕ) → j ≢ i → q j ≡ p j) → set (written p f m) i (f i) ≡ written q f m
written_set p q f m i room here other = is_written q f m (set (written p f m) i (f i)) (simp length-set (length_written p f m)) (λ k lt. by k lt (ℕ_discrete k i))
  where
    by : (k : ℕ) → k < length m → Dec (k ≡ i) → get_or (set (written p f m) i (f i)) k 0 ≡ cond (q k) (f k) (get_or m k 0)
    by k lt (yes e) = rw (e, here) (get_or-set_same (written p f m) i (f i) 0 (omega (arith, length_written p f m)))
    by k lt (no n) =
        get_or-set_other (written p f m) i k (f i) 0 n
        ∙ written_at_lem p f m k lt
        ∙ ap (λ (t : Bool). cond t (f k) (get_or m k 0)) (sym (other k n))
