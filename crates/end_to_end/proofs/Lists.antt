-- A list of calls through either function is a list of calls on the encoded device, so that the claim holds of what callers lend.
-- Assumes nothing.
use mathlib.Core.Bool.{Bool, true, false, true≢false}
use mathlib.Core.List.{List, ◌∷◌, ◌++◌}
use mathlib.Core.Path.{◌≡◌, refl, sym, ◌∙◌, ap, ap₂, subst, subst₂}
use Prim.Native.Nat.{ℕ}
use lib.Dec.{eqb}
use lib.ListN.{length}
use borrow.Author.Tests.{eqb-true}
use Rattle.arithmetic.proofs.Test.{both}
use Rattle.gdi.specs.declared.GdiState.{GdiState}
use Rattle.numbers.specs.View.{view, is_record}
use Rattle.place.specs.declared.SurfaceId.{SurfaceId}
use Rattle.paint.specs.Taint.{Taint}
use Rattle.execution.specs.Execution.{Device, refuses_all, run}
use Rattle.execution.proofs.Steps.{run_append, run_kept}
use Rattle.noninterference.specs.Claim.{Agree, taint_after, taint_on}
use Rattle.noninterference.proofs.Noninterference.{noninterference}
use Rattle.noninterference.proofs.After.{taint_append}
use Rattle.end_to_end.specs.Lists.{FlatDevice, device_of, refuses_all_on, is_pixel_on, colour_on, EqualBut, Entry, through_perform, through_host, Made, none, then, calls_of, ListsAgree}
use Rattle.end_to_end.proofs.Entries.{SameRecord, no_record, record_of, no_record_refuses, served_record, Lawful, perform_lawful, host_lawful}

-- Memories of equal lengths; neither list of numbers is a record, or both are and the devices agree except at tainted pixels.
pub record Linked (m : Taint) (s t : FlatDevice) : Type 0 where
  pub panels : length s.memories.panel ≡ length t.memories.panel
  pub stores : length s.memories.store ≡ length t.memories.store
  pub records : is_record s.numbers ≡ is_record t.numbers
  pub agree : is_record s.numbers ≡ true → Agree m (device_of s) (device_of t)

-- where there is no record, taint has no effect
lost : {m k : Taint} {s t : FlatDevice} → is_record s.numbers ≡ false → Linked m s t → Linked k s t
lost e l = record { panels = l.panels; stores = l.stores; records = l.records; agree = λ z. absurd (true≢false (sym z ∙ e)) }

same_record : {m : Taint} {s t : FlatDevice} → Linked m s t → SameRecord s t
same_record {m} {s} {t} l = by (is_record s.numbers) refl
  where
    by : (b : Bool) → is_record s.numbers ≡ b → SameRecord s t
    by true e = record_of e (sym l.records ∙ e) (l.agree e).states l.panels l.stores
    by false e = no_record e (sym l.records ∙ e)

-- what follows from the record and the lengths, or from neither where there is no record, is the same on both
pub linked_same : {A : Type 0} {m : Taint} {s t : FlatDevice} → Linked m s t → (f : Bool → GdiState → (panel_len store_len : ℕ) → A)
    → ((b b' : GdiState) (n k n' k' : ℕ) → f false b n k ≡ f false b' n' k')
    → f (is_record s.numbers) (view s.numbers) (length s.memories.panel) (length s.memories.store)
    ≡ f (is_record t.numbers) (view t.numbers) (length t.memories.panel) (length t.memories.store)
linked_same {A} {m} {s} {t} l f no-record-same = by (is_record s.numbers) (is_record t.numbers) l.records (λ e. (l.agree e).states)
  where
    by : (r q : Bool) → r ≡ q → (r ≡ true → view s.numbers ≡ view t.numbers)
        → f r (view s.numbers) (length s.memories.panel) (length s.memories.store) ≡ f q (view t.numbers) (length t.memories.panel) (length t.memories.store)
    by true true e same = λ i. f true (same refl i) (l.panels i) (l.stores i)
    by true false e same = absurd (true≢false e)
    by false true e same = absurd (true≢false (sym e))
    by false false e same = no-record-same _ _ _ _ _ _

-- pixels left untainted have equal colours
pub linked_pixels : {m : Taint} {s t : FlatDevice} → Linked m s t → (u : SurfaceId) (x y : ℕ) → is_pixel_on s u x y ≡ true → (m u x y → ⊥) → colour_on s u x y ≡ colour_on t u x y
linked_pixels {s = s} l u x y i n =
    let e = served_record s (eqb-true (refuses_all_on s) 0 (both (eqb (refuses_all_on s) 0) _ i).0) in
    (l.agree e).pixels u x y (rw e at i) n

-- flat devices that are equal except at tainted pixels are linked, and have equal numbers
pub linked_of : {m : Taint} {s t : FlatDevice} → EqualBut m s t → Linked m s t
linked_of {s = s} q =
    record {
      panels = q.panels;
      stores = q.stores;
      records = ap is_record q.numbers;
      agree = λ e. record { states = ap view q.numbers; panels = q.panels; stores = q.stores; pixels = λ u x y i n. q.pixels u x y (rw e i) n };
    }

equal_of : {m : Taint} {s t : FlatDevice} → s.numbers ≡ t.numbers → Linked m s t → EqualBut m s t
equal_of n l = record { numbers = n; panels = l.panels; stores = l.stores; pixels = linked_pixels l }

module _ (e : Entry) (law : Lawful e) where
  -- where every call is refused, nothing changes
  pub made_refused : {cs : List e.Argument} {s t : FlatDevice} {rs : List e.Answer} → (refuses_all_on s ≡ 0 → ⊥) → Made e cs s rs t → t ≡ s
  made_refused ne none = refl
  made_refused ne (then {c = c} {s = s} {t = t} {a = a} x xs) =
      let q = law.refuses c s t a ne x in
      made_refused (λ z. ne (ap refuses_all_on (sym q) ∙ z)) xs ∙ q

  -- numbers that are no record are kept, with the memories
  stays : {c : e.Argument} {s t : FlatDevice} {a : e.Answer} → is_record s.numbers ≡ false → e.Promises c s a t → t ≡ s
  stays {c} {s} {t} {a} f x = law.refuses c s t a (no_record_refuses s f) x

  -- numbers that are a record stay one, and the calls are made on the device
  pub made_makes : {cs : List e.Argument} {s t : FlatDevice} {rs : List e.Answer} → is_record s.numbers ≡ true → Made e cs s rs t
      → (is_record t.numbers ≡ true) × (device_of t ≡ (run (calls_of e cs) (device_of s)).1)
  unfolding run calls_of
  made_makes f none = (f, refl)
  made_makes f (then {c = c} {cs = cs} {s = s} {t = t} {a = a} x xs) =
      let (g, q) = made_makes (law.stays_record c s t a f x) xs in
      (g, q ∙ ap (λ (d : Device). (run (calls_of e cs) d).1) (law.makes c s t a f x) ∙ sym (run_append (e.calls c) (calls_of e cs) (device_of s)))

  -- one call on two linked flat devices
  step_linked : {m : Taint} {c : e.Argument} {s t s' t' : FlatDevice} {a b : e.Answer} → Linked m s t → e.Promises c s a s' → e.Promises c t b t'
      → Linked (taint_on (e.calls c) (device_of s) m) s' t'
  step_linked {m} {c} {s} {t} {s'} {t'} {a} {b} l x y = by (is_record s.numbers) refl
    where
      by : (z : Bool) → is_record s.numbers ≡ z → Linked (taint_on (e.calls c) (device_of s) m) s' t'
      by true f =
          let g : is_record t.numbers ≡ true = sym l.records ∙ f in
          let after : Agree (taint_on (e.calls c) (device_of s) m) (device_of s') (device_of t') =
          subst₂ (λ (p q : Device). Agree (taint_on (e.calls c) (device_of s) m) p q) (sym (law.makes c s s' a f x)) (sym (law.makes c t t' b g y))
          (noninterference.pixels (e.calls c) m (device_of s) (device_of t) (l.agree f))
          in
          record { panels = after.panels; stores = after.stores; records = law.stays_record c s s' a f x ∙ sym (law.stays_record c t t' b g y); agree = λ z. after }
      by false f =
          let g : is_record t.numbers ≡ false = sym l.records ∙ f in
          subst₂ (λ (p q : FlatDevice). Linked (taint_on (e.calls c) (device_of s) m) p q) (sym (stays f x)) (sym (stays g y)) (lost f l)

  -- the taint after a call and then a list is that after the longer list, where it has an effect
  taint_then : (m : Taint) {c : e.Argument} {cs : List e.Argument} {s s' t t' : FlatDevice} {a : e.Answer} {rs : List e.Answer} → e.Promises c s a s' → Made e cs s' rs t
      → Linked (taint_on (calls_of e cs) (device_of s') (taint_on (e.calls c) (device_of s) m)) t t' → Linked (taint_on (calls_of e (c ∷ cs)) (device_of s) m) t t'
  unfolding calls_of
  taint_then m {c} {cs} {s} {s'} {t} {t'} {a} x xs l = by (is_record s.numbers) refl
    where
      by : (z : Bool) → is_record s.numbers ≡ z → Linked (taint_on (e.calls c ++ calls_of e cs) (device_of s) m) t t'
      by true f =
          subst (λ (k : Taint). Linked k t t')
          (ap (λ (d : Device). taint_on (calls_of e cs) d (taint_on (e.calls c) (device_of s) m)) (law.makes c s s' a f x) ∙ sym (taint_append (e.calls c) (calls_of e cs) (device_of s) m)) l
      by false f =
          let q = stays f x in
          let g : is_record s'.numbers ≡ false = ap (λ (z : FlatDevice). is_record z.numbers) q ∙ f in
          lost (ap (λ (z : FlatDevice). is_record z.numbers) (made_refused (no_record_refuses s' g) xs) ∙ g) l

  -- a list on two linked flat devices
  pub made_linked : {m : Taint} {cs : List e.Argument} {s t s' t' : FlatDevice} {rs qs : List e.Answer} → Linked m s t → Made e cs s rs s' → Made e cs t qs t'
      → (rs ≡ qs) × Linked (taint_on (calls_of e cs) (device_of s) m) s' t'
  unfolding calls_of taint_after
  made_linked l none none = (refl, l)
  made_linked {m = m} l (then {c = c} {s = s} {t = s'} {a = a} x xs) (then {s = t} {t = t'} {a = b} y ys) =
      let (q, k) = made_linked {m = taint_on (e.calls c) (device_of s) m} (step_linked l x y) xs ys in
      (ap₂ ◌∷◌ (law.answers c s t s' t' a b (same_record l) x y) q, taint_then m x xs k)

  -- equal numbers stay equal
  made_numbers : {m : Taint} {cs : List e.Argument} {s t s' t' : FlatDevice} {rs qs : List e.Answer} → Linked m s t → s.numbers ≡ t.numbers
      → Made e cs s rs s' → Made e cs t qs t' → s'.numbers ≡ t'.numbers
  made_numbers l n none none = n
  made_numbers {m = m} l n (then {c = c} {s = s} {t = s'} {a = a} x xs) (then {s = t} {t = t'} {a = b} y ys) =
      made_numbers {m = taint_on (e.calls c) (device_of s) m} (step_linked l x y) (law.numbers c s t s' t' a b (same_record l) n x y) xs ys

  -- a ready device is ready after every list
  pub made_ready : {cs : List e.Argument} {s t : FlatDevice} {rs : List e.Answer} → refuses_all_on s ≡ 0 → Made e cs s rs t → refuses_all_on t ≡ 0
  made_ready {cs} {s} z xs =
      let f = served_record s z in
      let (g, q) = made_makes f xs in
      rw g (ap refuses_all q ∙ (run_kept (calls_of e cs) (device_of s)).looked (rw f at z))

  pub lists_agree : ListsAgree e
  lists_agree =
      record {
        lists = λ cs m s t s' t' rs qs q xs ys.
            let l = linked_of q in
            let (answers, k) = made_linked l xs ys in
            (answers, equal_of (made_numbers l q.numbers xs ys) k);
        stays_ready = λ cs s s' rs z xs. made_ready z xs;
        refuses = λ cs s s' rs ne xs. made_refused ne xs;
      }

-- lists of calls through `perform`, and through the C function
pub perform_lists : ListsAgree through_perform
perform_lists = lists_agree through_perform perform_lawful

pub host_lists : ListsAgree through_host
host_lists = lists_agree through_host host_lawful
