-- An answer as numbers.
use Rattle.std.specs.Prelude.{List, ◌≡◌, ℕ, replicate}
use Rattle.numbers.specs.Layout.{object_size}
use Rattle.numbers.specs.Block.{flag_number, ObjectCoded}
use Rattle.plan.specs.Answer.{Object, none, some, Parts}
use Rattle.host_reply.specs.declared.Reply.{Reply}

-- an object's kind and its numbers; 5 and zeros if there is none
abbrev pub ObjectReplied : Object → (kind : ℕ) → List ℕ → Type 0
ObjectReplied none kind l = (kind ≡ 5) × (l ≡ replicate object_size 0)
ObjectReplied (some o) kind l = ObjectCoded o kind l

-- A reply holds an answer's parts.
pub record Replied (a : Parts) (r : Reply) : Type 0 where
  pub refusal : r.refusal ≡ a.number
  pub value : r.value ≡ a.value
  pub flag : r.flag ≡ flag_number a.flag
  pub position : (r.x ≡ a.position.x) × (r.y ≡ a.position.y)
  pub object : ObjectReplied a.object r.kind r.fields
