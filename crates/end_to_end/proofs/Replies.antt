-- Two replies that hold the same answer are equal. Assumes nothing.
use mathlib.Core.List.{List}
use mathlib.Core.Path.{◌≡◌, sym, ◌∙◌}
use Prim.Native.Nat.{ℕ}
use lib.ListN.{length}
use Rattle.numbers.specs.Layout.{object_size}
use Rattle.canonical.proofs.Pinned.{same_object}
use Rattle.plan.specs.Answer.{Object, none, some, Parts}
use Rattle.host_reply.specs.declared.Reply.{Reply}
use Rattle.host_reply.specs.Reply.{ObjectReplied, Replied}
use Rattle.end_to_end.specs.Lists.{Words32}

-- the object's kind and numbers
object_same : (o : Object) {i j : ℕ} {l m : List ℕ} → length l ≡ object_size → length m ≡ object_size → Words32 l → Words32 m
    → ObjectReplied o i l → ObjectReplied o j m → (i ≡ j) × (l ≡ m)
object_same none long long' small small' x y = (x.0 ∙ sym y.0, x.1 ∙ sym y.1)
object_same (some o) long long' small small' x y = same_object long long' (λ k h. small.below k) (λ k h. small'.below k) x y

pub reply_same : (a : Parts) (r q : Reply) → length r.fields ≡ object_size → length q.fields ≡ object_size → Words32 r.fields → Words32 q.fields
    → Replied a r → Replied a q → r ≡ q
reply_same a r q long long' small small' x y =
    let (kinds, fields) = object_same a.object long long' small small' x.object y.object in
    let refusals : r.refusal ≡ q.refusal = x.refusal ∙ sym y.refusal in
    let values : r.value ≡ q.value = x.value ∙ sym y.value in
    let flags : r.flag ≡ q.flag = x.flag ∙ sym y.flag in
    let xs : r.x ≡ q.x = x.position.0 ∙ sym y.position.0 in
    let ys : r.y ≡ q.y = x.position.1 ∙ sym y.position.1 in
    λ i. record { refusal = refusals i; value = values i; flag = flags i; x = xs i; y = ys i; kind = kinds i; fields = fields i }
