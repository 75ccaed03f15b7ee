-- `bits::read_fields` meets its contract. The invariant: the values read so far, then those left to read. Assumes nothing.
use mathlib.Core.List.{List, [], ◌∷◌, ◌++◌, append_assoc}
use mathlib.Core.Path.{◌≡◌, refl, sym, ◌∙◌}
use Prim.Native.Nat.{ℕ, suc, ◌+◌, ◌≤◌, ◌<◌}
use native.Mathlib.Numerals.{add-one}
use native.Mathlib.Omega.{arith}
use lib.ListN.{length, get_or, set, take, drop, length-set, take-append-drop, drop_of_length-le}
use lib.Seq.{take-suc-set, drop-set-lt}
use borrow.Author.Rules.{rules}
use Rattle.bits.specs.Bits.{field_at, numbers_in, total}
use Rattle.bits.proofs.Lists.{total_next, numbers_next}
use Rattle.bits.proofs.read_fields.Invariants.{Left}
use Rattle.bits.proofs.read_fields.Goals as goal

-- field i is read
module _ {bs : List ℕ} {at : ℕ} {ws values₀ values : List ℕ} {p i : ℕ} (l : Left bs at ws values₀ values p i) (lt : i < length ws) where
  inside : p + get_or ws i 0 + total (drop (suc i) ws) ≡ at + total ws
  inside = omega (arith, total_next ws i lt, l.place)

  next : {v : ℕ} → length ws ≤ length values₀ → v ≡ field_at bs p (get_or ws i 0) → Left bs at ws values₀ (set values i v) (p + get_or ws i 0) (i + 1)
  next {v} enough e =
      let room : i < length values = omega (arith, l.long) in
      let rest = numbers_in (drop (suc i) ws) bs (p + get_or ws i 0) ++ drop (length ws) values in
      record {
        within = omega arith;
        place = rw (add-one i) inside;
        long = length-set values i v ∙ l.long;
        left = rw (add-one i, take-suc-set values i v room, drop-set-lt (length ws) values i v lt, append_assoc (take i values) (v ∷ []) rest, e) (rw (numbers_next ws i lt bs p) at l.left);
      }

-- none is left
done : {bs : List ℕ} {at : ℕ} {ws values₀ values : List ℕ} {p i : ℕ} → Left bs at ws values₀ values p i → length ws ≤ i → values ≡ numbers_in ws bs at ++ drop (length ws) values₀
unfolding numbers_in
done {ws = ws} {values = values} {i = i} l h =
    let e : i ≡ length ws = omega (arith, l.within) in
    sym (take-append-drop (length ws) values) ∙ (rw (drop_of_length-le ws h, e) at l.left)

pub loop-i-init : goal.loop-i-init
loop-i-init c =
    record { within = omega arith; place = refl; long = refl; left = refl }

pub field_at-requires : goal.field_at-requires
field_at-requires c =
    let l = c.loop-i in
    let i = inside l.invariant (omega arith) in
    record { inside = omega arith; counted = omega arith; short = c.requires.fields_fit.short l.i }

pub overflow_cast-p : goal.overflow_cast-p
overflow_cast-p c =
    omega (arith, c.requires.fields_fit.short c.loop-i.i)

pub overflow_add-p : goal.overflow_add-p
overflow_add-p c =
    omega (arith, inside c.loop-i.invariant (omega arith))

pub loop-i-preserved : goal.loop-i-preserved
loop-i-preserved c =
    next c.loop-i.invariant (omega arith) (search rules) c.field_at.ensures

pub returns : goal.returns
returns c =
    done c.loop-i.invariant (omega arith)
