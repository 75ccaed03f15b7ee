-- Saving and loading over a restart. Assumes nothing.
use mathlib.Core.Bool.{Bool, true, false, cond, ◌&&◌}
use mathlib.Core.List.{List, [], ◌∷◌, ◌++◌}
use mathlib.Core.Path.{◌≡◌, refl, sym, ◌∙◌, ap, subst}
use Prim.Native.Nat.{ℕ, ◌≤◌, ◌<◌}
use native.Mathlib.Decide.{ℕ_discrete}
use native.Mathlib.Omega.{arith}
use lib.Dec.{eqb}
use lib.ListN.{length, take, drop}
use lib.Seq.{take_at}
use borrow.Author.Tests.{eqb-true, eqb-false, ne_eqb}
use Rattle.arithmetic.proofs.Test.{both}
use Rattle.gdi.specs.declared.DcSurface.TheVariants.{Screen}
use Rattle.gdi.specs.declared.GdiState.{GdiState}
use Rattle.gdi.specs.Record.{vacant_slot, fresh}
use Rattle.gdi.specs.Lookup.{slot_at}
use Rattle.numbers.specs.Layout.{record_size}
use Rattle.numbers.specs.View.{view, is_record}
use Rattle.numbers.proofs.View.{length_table, slot_vacant}
use Rattle.sound.specs.Sound.{sizes_fit, is_sound}
use Rattle.sound.proofs.Sound.{parts, except_of, whole_except}
use Rattle.saved_table.specs.Table.{saved_table}
use Rattle.saved_table.specs.Held.{held_by, is_table, restored}
use Rattle.saved_table.proofs.Tables.{table_parts}
use Rattle.saved_table.proofs.Restored.{Fits, restored_table, restored_is, is_table_lem}
use Rattle.saved_table.proofs.Flat.{flat_fits}
use Rattle.ready.specs.Ready.{common_refusal}
use Rattle.ready.proofs.Ready.{ready}
use Rattle.place.specs.declared.SurfaceId.TheVariants.{Panel}
use Rattle.dirty.specs.Dirty.{next_frame, dirtied}
use Rattle.plan.specs.Answer.{Parts, saved as saved_parts}
use Rattle.plan.specs.Plan.{Plan, refuse}
use Rattle.plan.specs.Load.{loaded, load_table}
use Rattle.plan.specs.Calls.{Invocation, load, plan, plan_on}
use Rattle.plan.specs.Followed.{Performed}
use Rattle.plan.specs.Open.{Opened}
use Rattle.plan.specs.Restorable.{Restorable}
use Rattle.plan.proofs.Restorable.{stays_restorable}
use Rattle.execution.specs.Execution.{Device, device, refuses_all, step, run}
use Rattle.execution.proofs.Steps.{step_kept}
use Rattle.execution.proofs.Performed.{performed_step}
use Rattle.save.specs.declared.Saving.{Saving}
use Rattle.save.specs.Save.{save_answer, Saved}
use Rattle.save.proofs.Answers.{accepted, if_accepted}
use Rattle.end_to_end.specs.Lists.{FlatDevice, device_of, refuses_all_on, Words32, Entry, through_perform, through_host, calls_of}
use Rattle.end_to_end.specs.Restart.{Restarts, SessionsRestorable}
use Rattle.end_to_end.proofs.Entries.{Lawful, served_record, perform_lawful, host_lawful}
use Rattle.end_to_end.proofs.Lists.{made_makes}

-- the written bytes are the table, if a save is accepted
written : (l out : List ℕ) (r : Saving) (out' : List ℕ) → Saved l out r out' → save_answer l (length out) ≡ saved_parts (saved_table (view l)) → take r.length out' ≡ saved_table (view l)
written l out r out' x e =
    ap (take r.length) x.bytes
    ∙ ap (λ (a : Parts). take r.length (a.bytes ++ drop (length a.bytes) out)) e
    ∙ take_at (saved_table (view l)) (drop (length (saved_table (view l))) out) r.length (sym (x.length ∙ ap (λ (a : Parts). a.value) e))

-- what an accepted load needs and does; a refusal has another number
record Accepted (bytes : List ℕ) (b : GdiState) (n k : ℕ) (p : Plan) : Type 0 where
  common : common_refusal b n k ≡ 0
  table : is_table b bytes ≡ true
  state : p.outcome.state ≡ dirtied (held_by b bytes) Panel

if_loaded : (bytes : List ℕ) (b : GdiState) (n k : ℕ) → (plan (load bytes) b n k).outcome.answer.number ≡ 0 → Accepted bytes b n k (plan (load bytes) b n k)
unfolding plan load_table
if_loaded bytes b n k = by (eqb (common_refusal b n k) 0) refl (is_table b bytes) refl (sizes_fit (held_by b bytes))
  where
    by : (s : Bool) → eqb (common_refusal b n k) 0 ≡ s → (t : Bool) → is_table b bytes ≡ t → (u : Bool)
        → (cond s (cond t (cond u (loaded (held_by b bytes)) (refuse 7 b)) (refuse 12 b)) (refuse (common_refusal b n k) b)).outcome.answer.number ≡ 0
        → Accepted bytes b n k (cond s (cond t (cond u (loaded (held_by b bytes)) (refuse 7 b)) (refuse 12 b)) (refuse (common_refusal b n k) b))
    by true f true e true z = record { common = eqb-true _ _ f; table = e; state = refl }
    by true f true e false z = absurd (omega (arith, z))
    by true f false e u z = absurd (omega (arith, z))
    by false f t e u z = absurd (eqb-false _ _ f z)

load_record : (bytes l : List ℕ) (n k : ℕ) → (plan_on (load bytes) l n k).outcome.answer.number ≡ 0 → (is_record l ≡ true) × (plan_on (load bytes) l n k ≡ plan (load bytes) (view l) n k)
unfolding plan_on
load_record bytes l n k = by (is_record l)
  where
    by : (t : Bool) → (cond t (plan (load bytes) (view l) n k) (refuse 9 (view l))).outcome.answer.number ≡ 0
        → (t ≡ true) × (cond t (plan (load bytes) (view l) n k) (refuse 9 (view l)) ≡ plan (load bytes) (view l) n k)
    by true z = (refl, refl)
    by false z = absurd (omega (arith, z))

-- the table does not depend on the frame counter
marked_table : (b : GdiState) → saved_table (dirtied b Panel) ≡ saved_table b
unfolding dirtied
marked_table b = restored_table (next_frame b) b

-- saving what was loaded
module _ (bytes : List ℕ) (s t : FlatDevice) (a : Parts) (x : Performed (load bytes) s.numbers s.memories a t.numbers t.memories) (z : a.number ≡ 0) where
  abbrev n : ℕ
  n = length s.memories.panel

  abbrev k : ℕ
  k = length s.memories.store

  number : (plan_on (load bytes) s.numbers n k).outcome.answer.number ≡ 0
  number = sym (ap (λ (p : Parts). p.number) x.answer) ∙ z

  good : is_record s.numbers ≡ true
  good = (load_record bytes s.numbers n k number).0

  planned : plan_on (load bytes) s.numbers n k ≡ plan (load bytes) (view s.numbers) n k
  planned = (load_record bytes s.numbers n k number).1

  taken : Accepted bytes (view s.numbers) n k (plan (load bytes) (view s.numbers) n k)
  taken = if_loaded bytes (view s.numbers) n k (sym (ap (λ (p : Plan). p.outcome.answer.number) planned) ∙ number)

  now : view t.numbers ≡ dirtied (held_by (view s.numbers) bytes) Panel
  now = (x.numbers z).same ∙ ap (λ (p : Plan). p.outcome.state) planned ∙ taken.state

  table_now : saved_table (view t.numbers) ≡ bytes
  table_now = ap saved_table now ∙ marked_table (held_by (view s.numbers) bytes) ∙ (table_parts (view s.numbers) bytes taken.table).same

  sound_now : (is_record t.numbers && is_sound (view t.numbers)) ≡ true
  sound_now =
      let stepped : device_of t ≡ step (load bytes) (device_of s) = (performed_step (load bytes) s.numbers s.memories good x).1 in
      let kept : refuses_all (device_of t) ≡ 0 = ap refuses_all stepped ∙ (step_kept (load bytes) (device_of s)).looked taken.common in
      rw (x.numbers z).is_record_lem (ready (view t.numbers) _ _ _ refl kept).sound

  saved_again : (out out' : List ℕ) (r : Saving) → Saved t.numbers out r out' → length bytes ≤ length out → (r.refusal ≡ 0) × (take r.length out' ≡ bytes)
  saved_again out out' r y room =
      let e = accepted t.numbers (length out) sound_now (rw table_now room) in
      (y.refusal ∙ ap (λ (p : Parts). p.number) e, written t.numbers out r out' y e ∙ table_now)

-- loading what was saved
module _ (s : FlatDevice) (small : Words32 s.numbers) (screens : (view s.numbers).screen.surface ≡ Screen)
    (good : is_record s.numbers ≡ true) (sound : is_sound (view s.numbers) ≡ true) where
  abbrev b : GdiState
  b = view s.numbers

  long : length b.objects ≡ 256
  unfolding view
  long = length_table _ 0 256

  vacant : (i : ℕ) → b.count ≤ i → i < 256 → slot_at b i ≡ vacant_slot
  unfolding view
  vacant i le lt = slot_vacant s.numbers i le lt

  fits : Fits b
  fits = flat_fits s.numbers small.below good (except_of (parts b sound)) screens

  -- the plan of loading its table into a ready device
  again_plan : (c : GdiState) (n k : ℕ) → common_refusal c n k ≡ 0
      → plan (load (saved_table b)) c n k ≡ cond (sizes_fit (restored c b)) (loaded (restored c b)) (refuse 7 c)
  unfolding plan load_table
  again_plan c n k z = rw (z, is_table_lem b fits long vacant c (whole_except b (except_of (parts b sound))), restored_is b fits long vacant c)

  -- its number, and the record after it
  abbrev chosen : (c : GdiState) → (t : Bool) → Plan
  chosen c t = cond t (loaded (restored c b)) (refuse 7 c)

  chosen_number : (c : GdiState) (t : Bool) → (chosen c t).outcome.answer.number ≡ cond t 0 7
  chosen_number c true = refl
  chosen_number c false = refl

  chosen_state : (c : GdiState) (t : Bool) → (chosen c t).outcome.answer.number ≡ 0 → (chosen c t).outcome.state ≡ dirtied (restored c b) Panel
  chosen_state c true z = refl
  chosen_state c false z = absurd (omega (arith, z))

  on_record : (d : FlatDevice) {p : Plan} → is_record d.numbers ≡ true → plan (load (saved_table b)) (view d.numbers) (length d.memories.panel) (length d.memories.store) ≡ p
      → plan_on (load (saved_table b)) d.numbers (length d.memories.panel) (length d.memories.store) ≡ p
  unfolding plan_on
  on_record d g e = rw g e

  loaded_again : (d t : FlatDevice) (a : Parts) → refuses_all_on d ≡ 0 → Performed (load (saved_table b)) d.numbers d.memories a t.numbers t.memories
      → (a.number ≡ cond (sizes_fit (restored (view d.numbers) b)) 0 7) × (a.number ≡ 0 → view t.numbers ≡ dirtied (restored (view d.numbers) b) Panel)
  loaded_again d t a z x =
      let c : GdiState = view d.numbers in
      let g : is_record d.numbers ≡ true = served_record d z in
      let planned = on_record d g (again_plan c _ _ (rw g at z)) in
      let answered : a.number ≡ (chosen c (sizes_fit (restored c b))).outcome.answer.number = ap (λ (p : Parts). p.number) x.answer ∙ ap (λ (p : Plan). p.outcome.answer.number) planned in (
        answered ∙ chosen_number c (sizes_fit (restored c b)),
        λ e. (x.numbers e).same ∙ ap (λ (p : Plan). p.outcome.state) planned ∙ chosen_state c (sizes_fit (restored c b)) (sym answered ∙ e),
      )

pub restarts : Restarts
restarts =
    record {
      saved = λ bytes s t a x z out out' r y room. saved_again bytes s t a x z out out' r y room;
      loaded = λ s out out' r small screens y z d t a ready x.
          let (q, e) = if_accepted s.numbers (length out) (sym y.refusal ∙ z) in
          let (good, sound) = both (is_record s.numbers) (is_sound (view s.numbers)) q in
          loaded_again s small screens good sound d t a ready
          (rw (written s.numbers out r out' y e) at x);
    }

-- from open on
run_restorable : (cs : List Invocation) (s : Device) → Restorable s.state → Restorable (run cs s).1.state
unfolding run
run_restorable [] s v = v
run_restorable (c ∷ cs) s v = run_restorable cs (step c s) (stays_restorable.stays c s.state _ _ v)

misfit_number : {w h : ℕ} {s t : FlatDevice} → Opened w h s.numbers s.memories 0 t.numbers t.memories → (length s.numbers ≡ record_size → ⊥) → ◌≡◌ {A = ℕ} 0 9
misfit_number {s = s} o ne = o.answer ∙ rw (ne_eqb (length s.numbers) record_size ne)

module _ (e : Entry) (law : Lawful e) where
  session_restorable : SessionsRestorable e
  session_restorable w h cs s t rs x = by (ℕ_discrete (length s.numbers) record_size)
    where
      after_open : length s.numbers ≡ record_size → Restorable (view t.numbers)
      after_open long =
          let o = x.opened.numbers long in
          let (g, q) = made_makes e law o.is_record_lem x.made in
          subst (λ (d : Device). Restorable d.state) (sym q)
          (run_restorable (calls_of e cs) (device_of x.fresh) (subst Restorable (sym o.same) (stays_restorable.first _ _ w h)))

      by : Dec (length s.numbers ≡ record_size) → Restorable (view t.numbers)
      by (yes long) = after_open long
      by (no ne) = absurd (omega (arith, misfit_number x.opened ne))

pub perform_restorable : SessionsRestorable through_perform
perform_restorable = session_restorable through_perform perform_lawful

pub host_restorable : SessionsRestorable through_host
host_restorable = session_restorable through_host host_lawful
