-- Memory as words: word i is bytes 2i and 2i + 1, the low one first.
use Rattle.std.specs.Prelude.{Bool, cond, List, [], ◌∷◌, ℕ, zero, suc, ◌+◌, ◌*◌, ◌/◌, ◌%◌, get_or, length}

-- f 0, f 1, .. , f (n - 1)
abbrev pub tabulate : ℕ → (ℕ → ℕ) → List ℕ
tabulate zero f = []
tabulate (suc n) f = f 0 ∷ tabulate n (λ k. f (suc k))

-- memory m with the byte f k at each byte k that p holds of, and every other byte kept
unfoldable pub written : (ℕ → Bool) → (ℕ → ℕ) → List ℕ → List ℕ
written p f m = tabulate (length m) (λ k. cond (p k) (f k) (get_or m k 0))

-- word i of a memory
unfoldable pub word : List ℕ → ℕ → ℕ
word m i = get_or m (2 * i) 0 + 256 * get_or m (2 * i + 1) 0

-- byte 0 of a word is its low one, byte 1 its high one
abbrev pub byte_of : ℕ → ℕ → ℕ
byte_of v zero = v % 256
byte_of v (suc b) = v / 256

-- memory m with the word v i at each word i that p holds of, and every other byte kept
unfoldable pub painted : (ℕ → Bool) → (ℕ → ℕ) → List ℕ → List ℕ
painted p v m = written (λ k. p (k / 2)) (λ k. byte_of (v (k / 2)) (k % 2)) m
