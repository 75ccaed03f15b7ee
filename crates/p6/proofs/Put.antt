-- Laws of bytes that are written into a memory, piece after piece. Assumes nothing.
use mathlib.Core.List.{List, ◌++◌, append_assoc, append-nil}
use mathlib.Core.Path.{◌≡◌, sym, ◌∙◌, ap}
use Prim.Native.Nat.{ℕ, zero, suc, ◌+◌, ◌*◌, ◌≤◌}
use native.Mathlib.Nat.{add-zero, mul-zero, mul-suc}
use native.Mathlib.Numerals.{add-one}
use native.Mathlib.Omega.{arith}
use lib.ListN.{length, take, drop, take-append-drop, length-append, drop_of_length-le}
use lib.Seq.{take_at, drop_at, drop-drop, length-take-le}
use Rattle.p6.specs.Joined.{joined}
use Rattle.p6.specs.Inner.{put}

-- a piece as long as the memory
pub put_all : (m xs : List ℕ) → length m ≡ length xs → put m 0 xs ≡ xs
put_all m xs e = rw (drop_of_length-le m {i = 0 + length xs} (omega arith)) (append-nil xs)

-- a piece after another
pub put_put : (m : List ℕ) (p : ℕ) (xs ys : List ℕ) → p + length xs + length ys ≤ length m → put (put m p xs) (p + length xs) ys ≡ put m p (xs ++ ys)
put_put m p xs ys h =
    ap (λ (l : List ℕ). l ++ (ys ++ drop (p + length xs + length ys) (put m p xs))) (ap (take (p + length xs)) split ∙ take_at (take p m ++ xs) rest (p + length xs) front)
    ∙ ap (λ (l : List ℕ). (take p m ++ xs) ++ (ys ++ l)) behind
    ∙ append_assoc (take p m) xs (ys ++ drop (p + length (xs ++ ys)) m)
    ∙ ap (λ (l : List ℕ). take p m ++ l) (sym (append_assoc xs ys (drop (p + length (xs ++ ys)) m)))
  where
    rest : List ℕ
    rest = drop (p + length xs) m

    split : put m p xs ≡ (take p m ++ xs) ++ rest
    split = sym (append_assoc (take p m) xs rest)

    front : length (take p m ++ xs) ≡ p + length xs
    front = length-append (take p m) xs ∙ ap (λ (k : ℕ). k + length xs) (length-take-le p m (omega arith))

    behind : drop (p + length xs + length ys) (put m p xs) ≡ drop (p + length (xs ++ ys)) m
    behind =
        let same : p + length xs + length ys ≡ p + length (xs ++ ys) = omega (arith, length-append xs ys) in
        sym (drop-drop (length ys) (p + length xs) (put m p xs))
        ∙ ap (λ (l : List ℕ). drop (length ys) (drop (p + length xs) l)) split
        ∙ ap (drop (length ys)) (drop_at (take p m ++ xs) rest (p + length xs) front)
        ∙ drop-drop (length ys) (p + length xs) m
        ∙ ap (λ (k : ℕ). drop k m) same

-- the same at the front of a memory
pub put_behind : (m xs ys : List ℕ) {l r : List ℕ} (at : ℕ) → length xs + length ys ≤ length m → l ≡ put m 0 xs → r ≡ put l at ys → at ≡ length xs → r ≡ put m 0 (xs ++ ys)
put_behind m xs ys at h e f i =
    let j : at ≡ 0 + length xs = omega arith in
    f ∙ rw (e, j) (put_put m 0 xs ys (omega arith))

pub length_joined : (f : ℕ → List ℕ) (w : ℕ) → ((i : ℕ) → length (f i) ≡ w) → (k : ℕ) → length (joined f k) ≡ w * k
unfolding joined
length_joined f w each zero = sym (mul-zero w)
length_joined f w each (suc k) = length-append (joined f k) (f k) ∙ omega (arith, length_joined f w each k, each k, mul-suc w k)

-- pieces of w bytes each: none yet, and one more
pub put_first : (f : ℕ → List ℕ) (m : List ℕ) (p : ℕ) → m ≡ put m p (joined f 0)
unfolding joined
put_first f m p = sym (ap (λ (k : ℕ). take p m ++ drop k m) (add-zero p) ∙ take-append-drop p m)

pub put_next : (f : ℕ → List ℕ) (w : ℕ) → ((i : ℕ) → length (f i) ≡ w) → (m₀ : List ℕ) (at k : ℕ) {m xs : List ℕ} {q : ℕ} → at + (w * k + w) ≤ length m₀
    → m ≡ put m₀ at (joined f k) → q ≡ at + w * k → xs ≡ f k → put m q xs ≡ put m₀ at (joined f (k + 1))
unfolding joined
put_next f w each m₀ at k h e i g =
    let len = length_joined f w each k in
    rw (e, i, g, ← len, add-one) (put_put m₀ at (joined f k) (f k) (omega (arith, each k)))
