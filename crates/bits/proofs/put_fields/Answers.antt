-- `bits::put_fields` meets its contract. The invariant: the fields left to put, from p on, lead to the result. Assumes nothing.
use mathlib.Core.List.{List, [], ◌∷◌}
use mathlib.Core.Path.{◌≡◌, refl, sym, ◌∙◌}
use Prim.Native.Nat.{ℕ, suc, ◌+◌}
use native.Mathlib.Nat.{add-zero}
use native.Mathlib.Omega.{arith}
use lib.ListN.{length, take-append-drop}
use borrow.Author.Rules.{rules}
use Rattle.words.specs.Parts.{with_part}
use Rattle.bits.specs.Bits.{bits_of, field, fields, total}
use Rattle.bits.specs.Inner.{FieldsFit}
use Rattle.bits.proofs.Fields.{length_field}
use Rattle.bits.proofs.Bytes.{length_bits}
use Rattle.bits.proofs.Runs.{put_then}
use Rattle.bits.proofs.put_fields.Invariants.{Left}
use Rattle.bits.proofs.put_fields.Goals as goal

-- the field of width n and value v is put
module _ {out₀ : List ℕ} {at : ℕ} {ws vs out : List ℕ} {p n v : ℕ} {ns us : List ℕ} (all : FieldsFit out₀ at ws) (l : Left out₀ at ws vs out p (n ∷ ns) (v ∷ us)) where
  inside : p + n + total ns ≡ at + total ws
  unfolding total
  inside = omega (arith, l.place)

  next : {out' : List ℕ} → length out' ≡ length out → bits_of out' ≡ with_part (bits_of out) p n (field n v) → Left out₀ at ws vs out' (p + n) ns us
  unfolding fields total
  next {out'} same put = record {
    place = inside;
    long = same ∙ l.long;
    enough = omega (arith, l.enough);
    short = λ k. l.short (suc k);
    left = rw put
        (put_then (bits_of out) (field n v) (fields ns us) p n (total ns) (omega (arith, inside, all.inside, l.long, length_bits out)) (length_field n v)
        ∙ l.left);
  }

-- none is left
done : {out₀ : List ℕ} {at : ℕ} {ws vs out : List ℕ} {p : ℕ} (ns us : List ℕ) → Left out₀ at ws vs out p ns us → length ns ≡ 0 → bits_of out ≡ with_part (bits_of out₀) at (total ws) (fields ws vs)
unfolding fields total
done {out = out} {p = p} [] us l e = sym (rw (add-zero p) (take-append-drop p (bits_of out))) ∙ l.left
done (n ∷ ns) us l e = absurd (omega arith)

pub loop-n-init : goal.loop-n-init
loop-n-init c =
    let ns : c.into_iter-n-iterator.result.a.rest.now ≡ c.args.widths.now = search rules in
    let us : c.into_iter-n-iterator.result.b.rest.now ≡ c.args.values.now = search rules in
    rw (ns, us) (record { place = refl; long = refl; enough = c.requires.widths_in_bounds; short = c.requires.fields_fit.short; left = refl })

pub put_field-requires : goal.put_field-requires
put_field-requires c =
    let s = c.in-Some.ensures.steps in
    let l = rw (s.0, s.1) at c.loop-n.invariant in
    let i = inside c.requires.fields_fit l in
    record { inside = omega arith; counted = omega arith; short = l.short 0 }

pub overflow_add-p : goal.overflow_add-p
overflow_add-p c =
    let s = c.in-Some.ensures.steps in
    omega (arith, inside c.requires.fields_fit (rw (s.0, s.1) at c.loop-n.invariant))

pub loop-n-preserved : goal.loop-n-preserved
loop-n-preserved c =
    let s = c.in-Some.ensures.steps in
    next c.requires.fields_fit (rw (s.0, s.1) at c.loop-n.invariant) (search rules) c.put_field.ensures

pub returns : goal.returns
returns c =
    let l = c.loop-n in
    done l.n-iterator.a.rest.now l.n-iterator.b.rest.now l.invariant (grind (arith, l.invariant.enough, c.in-None.ensures.steps))
