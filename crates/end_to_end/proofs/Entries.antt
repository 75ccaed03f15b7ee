-- What the functions do with what is asked: they do it on the encoded device, or refuse it and change nothing. Assumes nothing.
use Rattle.std.specs.Prelude.{Option, Some, None}
use mathlib.Core.Bool.{Bool, true, false, cond}
use mathlib.Core.List.{List, [], ◌∷◌}
use mathlib.Core.Path.{◌≡◌, refl, sym, ◌∙◌, ap, ap₂, subst}
use Prim.Native.Nat.{ℕ}
use native.Mathlib.Decide.{ℕ_discrete}
use native.Mathlib.Omega.{arith}
use lib.Dec.{eqb}
use lib.ListN.{length, take, drop}
use lib.Seq.{take_at}
use borrow.Author.Tests.{ne_eqb}
use Rattle.gdi.specs.declared.GdiState.{GdiState}
use Rattle.numbers.specs.View.{view, is_record}
use Rattle.canonical.proofs.Unique.{updated_unique}
use Rattle.ready.specs.Ready.{common_refusal, common_refusal_on}
use Rattle.paint.specs.Memories.{Memories}
use Rattle.paint.specs.Paint.{Paint, after}
use Rattle.plan.specs.declared.Call.{Call}
use Rattle.plan.specs.Answer.{Parts, refused, none as no-object, origin}
use Rattle.plan.specs.Plan.{Plan, refuse}
use Rattle.plan.specs.Load.{load_table}
use Rattle.plan.specs.Calls.{act, Invocation, call, load, save, when_ready, plan, plan_on}
use Rattle.plan.specs.Followed.{Followed, Performed}
use Rattle.plan.proofs.Cases.{save_by}
use Rattle.execution.specs.Execution.{plan_for, answer, run}
use Rattle.execution.proofs.Performed.{performed_step}
use Rattle.save.specs.declared.Saving.{Saving}
use Rattle.save.specs.Save.{save_answer, Saved}
use Rattle.host_call.specs.Call.{call_of}
use Rattle.host_reply.specs.declared.Reply.{Reply}
use Rattle.host.specs.Host.{plan_read}
use Rattle.end_to_end.specs.Lists.{FlatDevice, device_of, refuses_all_on, Entry, Words32, PerformPromises, SavePromises, saving_parts, Promised, through_perform, HostInvocation, host_call, host_load, host_save, HostAnswer, reply, saving, ReplyPromises, HostPromises, calls_read, host_calls, through_host}
use Rattle.end_to_end.proofs.Replies.{reply_same}

abbrev flat : List ℕ → Memories → FlatDevice
flat l ms = record { numbers = l; memories = ms }

-- Neither list of numbers is a record, or both encode the same record; the memories have equal lengths.
pub data SameRecord (s t : FlatDevice) : Type 0 where
  no_record : is_record s.numbers ≡ false → is_record t.numbers ≡ false → SameRecord s t
  record_of : is_record s.numbers ≡ true → is_record t.numbers ≡ true → view s.numbers ≡ view t.numbers
      → length s.memories.panel ≡ length t.memories.panel → length s.memories.store ≡ length t.memories.store → SameRecord s t

-- What must hold of such a function: where every call is refused, it changes nothing; calls on a record are made on the device that
-- it encodes; the answer follows from the record and the lengths; and so do the numbers afterwards from those before.
pub record Lawful (e : Entry) : Type 0 where
  pub refuses : (c : e.Argument) (s t : FlatDevice) (a : e.Answer) → (refuses_all_on s ≡ 0 → ⊥) → e.Promises c s a t → t ≡ s
  pub stays_record : (c : e.Argument) (s t : FlatDevice) (a : e.Answer) → is_record s.numbers ≡ true → e.Promises c s a t → is_record t.numbers ≡ true
  pub makes : (c : e.Argument) (s t : FlatDevice) (a : e.Answer) → is_record s.numbers ≡ true → e.Promises c s a t → device_of t ≡ (run (e.calls c) (device_of s)).1
  pub answers : (c : e.Argument) (s t s' t' : FlatDevice) (a b : e.Answer) → SameRecord s t → e.Promises c s a s' → e.Promises c t b t' → a ≡ b
  pub numbers : (c : e.Argument) (s t s' t' : FlatDevice) (a b : e.Answer) → SameRecord s t → s.numbers ≡ t.numbers → e.Promises c s a s' → e.Promises c t b t'
      → s'.numbers ≡ t'.numbers

-- ---- a plan that was followed

-- a refused plan changes nothing
followed_refused : {p : Plan} {s t : FlatDevice} {a : Parts} → (a.number ≡ 0 → ⊥) → Followed p s.numbers s.memories a t.numbers t.memories → t ≡ s
followed_refused ne f = ap₂ flat (f.kept ne).0 (f.kept ne).1

-- numbers that encode a record do so afterwards
followed_record : {p : Plan} {l l' : List ℕ} {ms ms' : Memories} {a : Parts} → is_record l ≡ true → Followed p l ms a l' ms' → is_record l' ≡ true
followed_record {p} {l} {l'} {ms} {ms'} {a} good f = by (ℕ_discrete a.number 0)
  where
    by : Dec (a.number ≡ 0) → is_record l' ≡ true
    by (yes z) = (f.numbers z).is_record_lem
    by (no ne) = ap is_record (f.kept ne).0 ∙ good

-- the numbers follow from the plan and the numbers before
followed_numbers : {p : Plan} {l k l' k' : List ℕ} {ms ns ms' ns' : Memories} {a b : Parts} → l ≡ k → Words32 l' → Words32 k'
    → Followed p l ms a l' ms' → Followed p k ns b k' ns' → l' ≡ k'
followed_numbers {p} {l} {k} {l'} {k'} {a = a} {b = b} e sl sk f g = by (ℕ_discrete a.number 0)
  where
    same : b.number ≡ a.number
    same = ap (λ (x : Parts). x.number) (g.answer ∙ sym f.answer)

    by : Dec (a.number ≡ 0) → l' ≡ k'
    by (yes z) = updated_unique k l' k' p.outcome.state sl.below sk.below (rw e at (f.numbers z)) (g.numbers (same ∙ z))
    by (no ne) = (f.kept ne).0 ∙ e ∙ sym (g.kept (λ z. ne (sym same ∙ z))).0

-- ---- the functions `perform`, `load` and `save`

pub no_record_refuses : (s : FlatDevice) → is_record s.numbers ≡ false → refuses_all_on s ≡ 0 → ⊥
no_record_refuses s e z = omega (arith, rw e at z)

pub served_record : (s : FlatDevice) → refuses_all_on s ≡ 0 → is_record s.numbers ≡ true
served_record s z = by (is_record s.numbers) refl
  where
    by : (b : Bool) → is_record s.numbers ≡ b → b ≡ true
    by true e = refl
    by false e = absurd (no_record_refuses s e z)

-- a save answers by its plan, and its plan leaves everything as it is
record Asks (b : GdiState) (p : Plan) : Type 0 where
  plain : saving_parts (record { refusal = p.outcome.answer.number; length = p.outcome.answer.value }) p.outcome.answer.bytes ≡ p.outcome.answer
  long : p.outcome.answer.value ≡ length p.outcome.answer.bytes
  same : p.outcome.state ≡ b
  none_painted : p.paint ≡ []

save_asks : (b : GdiState) (room n k : ℕ) → Asks b (plan (save room) b n k)
unfolding plan
save_asks b room n k =
    save_by (Asks b) b (λ i. record { plain = refl; long = refl; same = refl; none_painted = refl }) room (record { plain = refl; long = refl; same = refl; none_painted = refl })

-- an accepted save has a record
accepted_record : (l : List ℕ) (room n k : ℕ) → (plan_on (save room) l n k).outcome.answer.number ≡ 0 → is_record l ≡ true
unfolding plan_on
accepted_record l room n k = by (is_record l)
  where
    by : (t : Bool) → (cond t (plan (save room) (view l) n k) (refuse 9 (view l))).outcome.answer.number ≡ 0 → t ≡ true
    by true z = refl
    by false z = absurd (omega (arith, z))

save_asks_on : (l : List ℕ) (room n k : ℕ) → Asks (view l) (plan_on (save room) l n k)
unfolding plan_on
save_asks_on l room n k = by (is_record l)
  where
    by : (t : Bool) → Asks (view l) (cond t (plan (save room) (view l) n k) (refuse 9 (view l)))
    by true = save_asks (view l) room n k
    by false = record { plain = refl; long = refl; same = refl; none_painted = refl }

-- the lengths of the memories have no effect on it
save_any : (l : List ℕ) (room n k : ℕ) → plan_on (save room) l n k ≡ plan_on (save room) l 0 0
unfolding plan_on plan
save_any l room n k = refl

-- what the function `save` returns and writes is the plan's answer
saving_is : (l out : List ℕ) (r : Saving) (out' : List ℕ) (n k : ℕ) → Saved l out r out' → saving_parts r (take r.length out') ≡ (plan_on (save (length out)) l n k).outcome.answer
saving_is l out r out' n k x =
    let p = save_asks_on l (length out) 0 0 in
    let bs : List ℕ = (save_answer l (length out)).bytes in
    let written : take r.length out' ≡ bs =
    ap (λ (m : List ℕ). take r.length m) x.bytes ∙ take_at bs (drop (length bs) out) r.length (sym p.long ∙ sym x.length) in
    let parts : saving_parts r (take r.length out') ≡ save_answer l (length out) =
    (λ i. record { number = x.refusal i; value = x.length i; flag = false; position = origin; object = no-object; bytes = written i }) ∙ p.plain in
    parts ∙ ap (λ (q : Plan). q.outcome.answer) (sym (save_any l (length out) n k))

nothing_painted : (b : GdiState) (ms : Memories) → ms ≡ after b [] ms
unfolding after
nothing_painted b ms = refl

-- so what was asked was performed, whichever function it was asked of
save_performed : (room : ℕ) {s t : FlatDevice} {a : Parts} → SavePromises saving_parts room s a t → Performed (save room) s.numbers s.memories a t.numbers t.memories
save_performed room {s} {t} {a} x =
    let n : ℕ = length s.memories.panel in
    let k : ℕ = length s.memories.store in
    let p = save_asks_on s.numbers room n k in
    let answer : a ≡ (plan_on (save room) s.numbers n k).outcome.answer =
    x.answered ∙ saving_is s.numbers x.out x.saving x.out' n k x.saved ∙ ap (λ (m : ℕ). (plan_on (save m) s.numbers n k).outcome.answer) x.room_is in
    subst (λ (z : FlatDevice). Performed (save room) s.numbers s.memories a z.numbers z.memories) (sym x.kept)
    (record {
      answer = answer;
      numbers = λ z. record { is_record_lem = accepted_record s.numbers room n k (sym (ap (λ (y : Parts). y.number) answer) ∙ z); same = sym p.same; rest = refl };
      memories = nothing_painted (view s.numbers) s.memories ∙ ap (λ (ps : List Paint). after (view s.numbers) ps s.memories) (sym p.none_painted);
      kept = λ ne. (refl, refl);
    })

promised_performed : (c : Invocation) {s t : FlatDevice} {a : Parts} → Promised c s a t → Performed c s.numbers s.memories a t.numbers t.memories
promised_performed (call c us) x = x.performed
promised_performed (load bytes) x = x.performed
promised_performed (save room) x = save_performed room x

-- a plan on numbers that are no record
no_record_plan : (c : Invocation) (l : List ℕ) (n k : ℕ) → is_record l ≡ false → plan_on c l n k ≡ refuse 9 (view l)
unfolding plan_on
no_record_plan c l n k e = rw e

no_record_answer : (c : Invocation) (s t : FlatDevice) (a : Parts) → is_record s.numbers ≡ false → Promised c s a t → a ≡ refused 9
no_record_answer c s t a e x = (promised_performed c x).answer ∙ ap (λ (p : Plan). p.outcome.answer) (no_record_plan c s.numbers _ _ e)

-- where every call is refused, so are calls and loads; a save changes nothing anyway
refused_plan : (p : Plan) (l : List ℕ) (n k : ℕ) → (common_refusal_on l n k ≡ 0 → ⊥) → cond (is_record l) (when_ready (view l) n k p) (refuse 9 (view l)) ≡ refuse (common_refusal_on l n k) (view l)
refused_plan p l n k ne = by (is_record l) ne
  where
    by : (t : Bool) → (cond t (common_refusal (view l) n k) 9 ≡ 0 → ⊥)
        → cond t (cond (eqb (common_refusal (view l) n k) 0) p (refuse (common_refusal (view l) n k) (view l))) (refuse 9 (view l)) ≡ refuse (cond t (common_refusal (view l) n k) 9) (view l)
    by true ne = rw (ne_eqb (common_refusal (view l) n k) 0 ne)
    by false ne = refl

followed_refused_plan : {p : Plan} {s t : FlatDevice} {a : Parts} → (refuses_all_on s ≡ 0 → ⊥) → p ≡ refuse (refuses_all_on s) (view s.numbers)
    → Followed p s.numbers s.memories a t.numbers t.memories → t ≡ s
followed_refused_plan ne e f = followed_refused (λ z. ne (sym (ap (λ (q : Plan). q.outcome.answer.number) e) ∙ sym (ap (λ (y : Parts). y.number) f.answer) ∙ z)) f

performed_refuses : (c : Invocation) (s t : FlatDevice) (a : Parts) → (refuses_all_on s ≡ 0 → ⊥) → Promised c s a t → t ≡ s
unfolding plan_on plan
performed_refuses (call c us) s t a ne x = followed_refused_plan ne (refused_plan (act c us (view s.numbers)) s.numbers _ _ ne) x.performed
performed_refuses (load bytes) s t a ne x = followed_refused_plan ne (refused_plan (load_table (view s.numbers) bytes) s.numbers _ _ ne) x.performed
performed_refuses (save room) s t a ne x = x.kept

performed_makes : (c : Invocation) (s t : FlatDevice) (a : Parts) → is_record s.numbers ≡ true → Performed c s.numbers s.memories a t.numbers t.memories → device_of t ≡ (run (c ∷ []) (device_of s)).1
unfolding run
performed_makes c s t a e x = (performed_step c s.numbers s.memories e x).1

performed_answers : (c : Invocation) (s t s' t' : FlatDevice) (a b : Parts) → SameRecord s t → Promised c s a s' → Promised c t b t' → a ≡ b
performed_answers c s t s' t' a b (no_record e f) x y = no_record_answer c s s' a e x ∙ sym (no_record_answer c t t' b f y)
performed_answers c s t s' t' a b (record_of e f v p q) x y =
    let plans : plan_for c (device_of s) ≡ plan_for c (device_of t) = λ i. plan c (v i) (p i) (q i) in
    (performed_step c s.numbers s.memories e (promised_performed c x)).0
    ∙ ap (λ (z : Plan). z.outcome.answer) plans
    ∙ sym (performed_step c t.numbers t.memories f (promised_performed c y)).0

followed_same : (c : Invocation) (s t s' t' : FlatDevice) (a b : Parts) → SameRecord s t → s.numbers ≡ t.numbers → PerformPromises c s a s' → PerformPromises c t b t'
    → Promised c s a s' → Promised c t b t' → s'.numbers ≡ t'.numbers
followed_same c s t s' t' a b (no_record e f) n x y x' y' =
    ap (λ (z : FlatDevice). z.numbers) (performed_refuses c s s' a (no_record_refuses s e) x') ∙ n ∙ sym (ap (λ (z : FlatDevice). z.numbers) (performed_refuses c t t' b (no_record_refuses t f) y'))
followed_same c s t s' t' a b (record_of e f v p q) n x y x' y' =
    let plans : plan_on c s.numbers (length s.memories.panel) (length s.memories.store) ≡ plan_on c t.numbers (length t.memories.panel) (length t.memories.store) =
    λ i. plan_on c (n i) (p i) (q i)
    in
    followed_numbers n x.words y.words
    (subst (λ (z : Plan). Followed z s.numbers s.memories a s'.numbers s'.memories) plans x.performed) y.performed

performed_numbers : (c : Invocation) (s t s' t' : FlatDevice) (a b : Parts) → SameRecord s t → s.numbers ≡ t.numbers → Promised c s a s' → Promised c t b t'
    → s'.numbers ≡ t'.numbers
performed_numbers (call c us) s t s' t' a b same n x y = followed_same (call c us) s t s' t' a b same n x y x y
performed_numbers (load bytes) s t s' t' a b same n x y = followed_same (load bytes) s t s' t' a b same n x y x y
performed_numbers (save room) s t s' t' a b same n x y = ap (λ (z : FlatDevice). z.numbers) x.kept ∙ n ∙ sym (ap (λ (z : FlatDevice). z.numbers) y.kept)

pub perform_lawful : Lawful through_perform
perform_lawful =
    record {
      refuses = performed_refuses;
      stays_record = λ c s t a e x. followed_record e (promised_performed c x);
      makes = λ c s t a e x. performed_makes c s t a e (promised_performed c x);
      answers = performed_answers;
      numbers = performed_numbers;
    }

-- ---- the C functions: numbers that are no call are refused, others are performed

-- what a reply promises of a call or load that was asked is what the function promises
replied : (c : Invocation) {s t : FlatDevice} {r : Reply} {p : Plan} → plan_on c s.numbers (length s.memories.panel) (length s.memories.store) ≡ p
    → ReplyPromises p s r t → PerformPromises c s p.outcome.answer t
replied c {s} {t} {r} {p} e x =
    record { performed = subst (λ (q : Plan). Followed q s.numbers s.memories p.outcome.answer t.numbers t.memories) (sym e) x.performed.followed; words = x.words }

-- the promise for numbers that were parsed as q
abbrev HostedAs : Option Call → (us : List ℕ) → FlatDevice → Reply → FlatDevice → Type 0
HostedAs q us s r t = ReplyPromises (plan_read q us s.numbers s.memories) s r t

no_call_stays : (us : List ℕ) {s t : FlatDevice} {r : Reply} → HostedAs None us s r t → t ≡ s
no_call_stays us x = followed_refused (λ z. omega (arith, z)) x.performed.followed

read_refuses : (q : Option Call) (us : List ℕ) (s t : FlatDevice) (r : Reply) → (refuses_all_on s ≡ 0 → ⊥) → HostedAs q us s r t → t ≡ s
read_refuses None us s t r ne x = no_call_stays us x
read_refuses (Some c) us s t r ne x = performed_refuses (call c us) s t _ ne (replied (call c us) refl x)

read_makes : (q : Option Call) (us : List ℕ) (s t : FlatDevice) (r : Reply) → is_record s.numbers ≡ true → HostedAs q us s r t → device_of t ≡ (run (calls_read q us) (device_of s)).1
unfolding run
read_makes None us s t r e x = ap device_of (no_call_stays us x)
read_makes (Some c) us s t r e x = performed_makes (call c us) s t _ e (replied (call c us) refl x).performed

-- the answer in a reply
read_parts : (q : Option Call) (us : List ℕ) (s t s' t' : FlatDevice) (r r' : Reply) → SameRecord s t → HostedAs q us s r s' → HostedAs q us t r' t'
    → (plan_read q us s.numbers s.memories).outcome.answer ≡ (plan_read q us t.numbers t.memories).outcome.answer
read_parts None us s t s' t' r r' same x y = refl
read_parts (Some c) us s t s' t' r r' same x y = performed_answers (call c us) s t s' t' _ _ same (replied (call c us) refl x) (replied (call c us) refl y)

read_numbers : (q : Option Call) (us : List ℕ) (s t s' t' : FlatDevice) (r r' : Reply) → SameRecord s t → s.numbers ≡ t.numbers → HostedAs q us s r s' → HostedAs q us t r' t'
    → s'.numbers ≡ t'.numbers
read_numbers None us s t s' t' r r' same n x y = ap (λ (z : FlatDevice). z.numbers) (no_call_stays us x) ∙ n ∙ sym (ap (λ (z : FlatDevice). z.numbers) (no_call_stays us y))
read_numbers (Some c) us s t s' t' r r' same n x y = performed_numbers (call c us) s t s' t' _ _ same n (replied (call c us) refl x) (replied (call c us) refl y)

-- replies that hold the same answer are equal
replies_same : {p q : Plan} {s t s' t' : FlatDevice} {r r' : Reply} → p.outcome.answer ≡ q.outcome.answer → ReplyPromises p s r s' → ReplyPromises q t r' t' → r ≡ r'
replies_same {r = r} {r' = r'} e x y = reply_same _ r r' x.fields_length y.fields_length x.fields y.fields x.performed.replied (rw (← e) at y.performed.replied)

-- a save through the C function, by number and values
module _ (room : ℕ) {s t : FlatDevice} {a : HostAnswer} (x : SavePromises saving room s a t) where
  abbrev values : Parts
  values = saving_parts x.saving (take x.saving.length x.out')

  valued : SavePromises saving_parts room s values t
  valued = record { out = x.out; out' = x.out'; saving = x.saving; room_is = x.room_is; saved = x.saved; answered = refl; kept = x.kept }

savings_same : (room : ℕ) {s t s' t' : FlatDevice} {a b : HostAnswer} → SameRecord s t → SavePromises saving room s a s' → SavePromises saving room t b t' → a ≡ b
savings_same room {s} {t} {s'} {t'} same x y =
    let e = performed_answers (save room) s t s' t' (values room x) (values room y) same (valued room x) (valued room y) in
    x.answered ∙ ap (λ (p : Parts). saving (record { refusal = p.number; length = p.value }) p.bytes) e ∙ sym y.answered

host_refuses : (c : HostInvocation) (s t : FlatDevice) (a : HostAnswer) → (refuses_all_on s ≡ 0 → ⊥) → HostPromises c s a t → t ≡ s
host_refuses (host_call c us) s t (reply r) ne x = read_refuses (call_of c) us s t r ne x
host_refuses (host_call c us) s t (saving r bs) ne x = absurd x
host_refuses (host_load bytes) s t (reply r) ne x = performed_refuses (load bytes) s t _ ne (replied (load bytes) refl x)
host_refuses (host_load bytes) s t (saving r bs) ne x = absurd x
host_refuses (host_save room) s t a ne x = x.kept

host_record : (c : HostInvocation) (s t : FlatDevice) (a : HostAnswer) → is_record s.numbers ≡ true → HostPromises c s a t → is_record t.numbers ≡ true
host_record (host_call c us) s t (reply r) e x = followed_record e x.performed.followed
host_record (host_call c us) s t (saving r bs) e x = absurd x
host_record (host_load bytes) s t (reply r) e x = followed_record e x.performed.followed
host_record (host_load bytes) s t (saving r bs) e x = absurd x
host_record (host_save room) s t a e x = ap (λ (z : FlatDevice). is_record z.numbers) x.kept ∙ e

host_makes : (c : HostInvocation) (s t : FlatDevice) (a : HostAnswer) → is_record s.numbers ≡ true → HostPromises c s a t → device_of t ≡ (run (host_calls c) (device_of s)).1
host_makes (host_call c us) s t (reply r) e x = read_makes (call_of c) us s t r e x
host_makes (host_call c us) s t (saving r bs) e x = absurd x
host_makes (host_load bytes) s t (reply r) e x = performed_makes (load bytes) s t _ e (replied (load bytes) refl x).performed
host_makes (host_load bytes) s t (saving r bs) e x = absurd x
host_makes (host_save room) s t a e x = performed_makes (save room) s t _ e (save_performed room (valued room x))

host_answers : (c : HostInvocation) (s t s' t' : FlatDevice) (a b : HostAnswer) → SameRecord s t → HostPromises c s a s' → HostPromises c t b t' → a ≡ b
host_answers (host_call c us) s t s' t' (reply r) (reply q) same x y = ap reply (replies_same (read_parts (call_of c) us s t s' t' r q same x y) x y)
host_answers (host_call c us) s t s' t' (reply r) (saving q bs) same x y = absurd y
host_answers (host_call c us) s t s' t' (saving r bs) b same x y = absurd x
host_answers (host_load bytes) s t s' t' (reply r) (reply q) same x y =
    ap reply (replies_same (performed_answers (load bytes) s t s' t' _ _ same (replied (load bytes) refl x) (replied (load bytes) refl y)) x y)
host_answers (host_load bytes) s t s' t' (reply r) (saving q bs) same x y = absurd y
host_answers (host_load bytes) s t s' t' (saving r bs) b same x y = absurd x
host_answers (host_save room) s t s' t' a b same x y = savings_same room same x y

host_numbers : (c : HostInvocation) (s t s' t' : FlatDevice) (a b : HostAnswer) → SameRecord s t → s.numbers ≡ t.numbers → HostPromises c s a s' → HostPromises c t b t'
    → s'.numbers ≡ t'.numbers
host_numbers (host_call c us) s t s' t' (reply r) (reply q) same n x y = read_numbers (call_of c) us s t s' t' r q same n x y
host_numbers (host_call c us) s t s' t' (reply r) (saving q bs) same n x y = absurd y
host_numbers (host_call c us) s t s' t' (saving r bs) b same n x y = absurd x
host_numbers (host_load bytes) s t s' t' (reply r) (reply q) same n x y =
    performed_numbers (load bytes) s t s' t' _ _ same n (replied (load bytes) refl x) (replied (load bytes) refl y)
host_numbers (host_load bytes) s t s' t' (reply r) (saving q bs) same n x y = absurd y
host_numbers (host_load bytes) s t s' t' (saving r bs) b same n x y = absurd x
host_numbers (host_save room) s t s' t' a b same n x y = ap (λ (z : FlatDevice). z.numbers) x.kept ∙ n ∙ sym (ap (λ (z : FlatDevice). z.numbers) y.kept)

pub host_lawful : Lawful through_host
host_lawful = record { refuses = host_refuses; stays_record = host_record; makes = host_makes; answers = host_answers; numbers = host_numbers }
