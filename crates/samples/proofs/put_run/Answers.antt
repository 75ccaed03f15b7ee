-- `samples::put_run` meets its contract. Assumes nothing.
use mathlib.Core.List.{List}
use mathlib.Core.Path.{◌≡◌, refl, ap, ◌∙◌}
use Prim.Native.Nat.{ℕ, ◌+◌, ◌-◌, ◌*◌, ◌≤◌}
use native.Mathlib.Nat.{mul-le-mul_left}
use native.Mathlib.Omega.{arith}
use lib.ListN.{length}
use lib.Seq.{drop-drop}
use borrow.Rule.Slice.PartMut.{put_mid}
use Rattle.words.specs.Words.{word}
use Rattle.p6.specs.Inner.{put}
use Rattle.p6.proofs.Put.{put_first, put_next}
use Rattle.samples.proofs.put_run.Goals as goal

-- bytes that are stored in place of as many
put_part : (m xs : List ℕ) (p n : ℕ) → length xs ≡ n → put_mid p (p + n - p) m xs ≡ put m p xs
put_part m xs p n e = let same : p + n - p ≡ length xs = omega arith in rw (same, drop-drop (length xs) p m)

-- no bytes yet
pub loop-i-init : goal.loop-i-init
loop-i-init g c =
    let a = c.args in
    put_first (λ j. g.F.Format.bytes_of (word a.pixels.now j)) a.out.now a.at

-- the bytes of one word more
pub loop-i-preserved : goal.loop-i-preserved
loop-i-preserved g c =
    let a = c.args in
    let i = c.loop-i.i in
    let size = g.row.N in
    let f : ℕ → List ℕ = λ j. g.F.Format.bytes_of (word a.pixels.now j) in
    let new : List ℕ = c.copy_from_slice.new.self in
    let is : new ≡ f i = c.copy_from_slice.ensures.after ∙ c.bytes.ensures ∙ ap g.F.Format.bytes_of c.word_at.ensures in
    let long = ap length is ∙ g.met.F.Format.length_bytes (word a.pixels.now i) in
    let room : a.at + (size * i + size) ≤ length a.out.now = omega (arith, mul-le-mul_left size c.loop-i-test.true) in
    put_part c.loop-i.out new (a.at + size * i) size long
    ∙ put_next f size (λ j. g.met.F.Format.length_bytes (word a.pixels.now j)) a.out.now a.at i room c.loop-i.invariant refl is
