-- What the block moves make of a run of words. Assumes nothing.
use mathlib.Core.List.{List, append_assoc}
use mathlib.Core.Path.{◌≡◌, refl, ◌∙◌}
use Prim.Native.Nat.{ℕ, ◌+◌, ◌*◌, ◌-◌, ◌≤◌, ◌<◌}
use native.Mathlib.Omega.{arith}
use lib.ListN.{length, get_or, take, drop}
use lib.Seq.{drop-drop}
use borrow.Rule.Slice.PartMut.{put_mid}
use Rattle.std.specs.List.{copy_within}
use Rattle.arithmetic.specs.Interval.{between}
use Rattle.words.specs.Words.{painted, word}
use Rattle.words.specs.Parts.{part}
use Rattle.runs.proofs.Runs.{copy_painted}

-- a run that a part of another memory is copied over
pub copied : (d s n : ℕ) (src m : List ℕ) → 2 * (d + n) ≤ length m → 2 * (s + n) ≤ length src → ((k : ℕ) → get_or src k 0 < 256)
    → put_mid (2 * d) (2 * (d + n) - 2 * d) m (take (2 * (s + n) - 2 * s) (drop (2 * s) src)) ≡ painted (between d (d + n)) (λ i. word src (s + (i - d))) m
copied d s n src m fits room bytes =
    let to : 2 * (d + n) - 2 * d ≡ 2 * n = omega arith in
    let from : 2 * (s + n) - 2 * s ≡ 2 * n = omega arith in
    rw (to, from, drop-drop (2 * n) (2 * d) m) (copy_painted d s n src m (part src (2 * s) (2 * n)) refl fits room bytes)

-- a run that a part of the same memory is moved to
pub moved : (d s n : ℕ) (m : List ℕ) → 2 * (d + n) ≤ length m → 2 * (s + n) ≤ length m → ((k : ℕ) → get_or m k 0 < 256)
    → copy_within m (2 * s) (2 * (s + n)) (2 * d) ≡ painted (between d (d + n)) (λ i. word m (s + (i - d))) m
moved d s n m fits room bytes =
    let from : 2 * (s + n) - 2 * s ≡ 2 * n = omega arith in
    rw from
    (append_assoc (take (2 * d) m) (part m (2 * s) (2 * n)) (drop (2 * d + 2 * n) m)
    ∙ copy_painted d s n m m (part m (2 * s) (2 * n)) refl fits room bytes)
