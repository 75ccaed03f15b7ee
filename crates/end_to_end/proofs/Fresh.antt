-- Two devices opened with the same sides, on numbers and memories of equal lengths, agree at every pixel, whatever was there before.
-- Assumes nothing.
use mathlib.Core.Bool.{Bool, true, false, cond, true≢false}
use mathlib.Core.List.{List}
use mathlib.Core.Logic.{◌⊎◌, inl, inr}
use mathlib.Core.Path.{◌≡◌, refl, sym, ◌∙◌, ap, subst, subst₂}
use Prim.Native.Nat.{ℕ, ◌+◌, ◌*◌, ◌≤◌}
use native.Mathlib.Decide.{ℕ_discrete}
use native.Mathlib.Omega.{arith}
use lib.Dec.{eqb}
use lib.ListN.{length, replicate, length-replicate}
use borrow.Author.Tests.{eqb-true, ne_eqb}
use Rattle.arithmetic.proofs.Test.{both}
use Rattle.words.specs.Words.{word}
use Rattle.words.specs.Parts.{part}
use Rattle.words.proofs.Parts.{length_with, part_same}
use Rattle.gdi.specs.Record.{size, fresh}
use Rattle.gdi.specs.Stock.{stock_bitmap}
use Rattle.numbers.specs.Layout.{record_size}
use Rattle.numbers.specs.View.{is_record}
use Rattle.numbers.proofs.Seen.{record_length}
use Rattle.sound.specs.Sound.{is_sound}
use Rattle.memory.specs.Gap.{blanked}
use Rattle.ready.specs.Ready.{common_refusal}
use Rattle.ready.proofs.Ready.{ready_accepts}
use Rattle.place.specs.declared.Place.TheVariants.{Nowhere, At}
use Rattle.place.specs.declared.Memory.TheVariants.{Store}
use Rattle.place.specs.declared.SurfaceId.{SurfaceId}
use Rattle.place.specs.declared.SurfaceId.TheVariants.{Panel, Bitmap}
use Rattle.place.specs.Place.{locate, slots_from, where_is}
use Rattle.place.proofs.Apart.{clash}
use Rattle.paint.specs.Memories.{Memories, memories, has_pixel, colour_at}
use Rattle.paint.specs.Taint.{Taint}
use Rattle.plan.specs.Open.{open_refusal, open_number, Opened}
use Rattle.open.proofs.Opened.{Accepted, accepted, opened_sound}
use Rattle.execution.specs.Execution.{Device, device, refuses_all}
use Rattle.noninterference.specs.Claim.{Agree}
use Rattle.end_to_end.specs.Lists.{FlatDevice, device_of}
use Rattle.end_to_end.specs.Screens.{EqualLengths}
use Rattle.end_to_end.proofs.Lists.{Linked}
use Rattle.end_to_end.proofs.Snapshots.{Settled}

-- no pixel is tainted
abbrev pub nothing : Taint
nothing u x y = ⊥

-- a blanked range inside a memory keeps the length, and is equal to any other blanked range
blanked_length : (l : List ℕ) (n : ℕ) → n ≤ length l → length (blanked l 0 n) ≡ length l
blanked_length l n f = length_with l (replicate n 0) 0 n (length-replicate n 0) (omega (arith, f))

blanked_same : (l k : List ℕ) (n : ℕ) → n ≤ length l → n ≤ length k → part (blanked l 0 n) 0 n ≡ part (blanked k 0 n) 0 n
blanked_same l k n f g =
    part_same l (replicate n 0) 0 n (length-replicate n 0) (omega (arith, f)) ∙ sym (part_same k (replicate n 0) 0 n (length-replicate n 0) (omega (arith, g)))

-- the device that an open leaves, accepted or refused
abbrev left : Bool → (w h : ℕ) → Memories → Device
left t w h ms =
    device (cond t (fresh (length ms.panel) (length ms.store) w h) (fresh 0 0 0 0))
    (memories (cond t (blanked ms.panel 0 (size w h)) ms.panel) (cond t (blanked ms.store 0 2) ms.store))

module _ (w h : ℕ) (ms ns : Memories) (pl : length ms.panel ≡ length ns.panel) (sl : length ms.store ≡ length ns.store) where
  -- every surface of a fresh record: the panel, and the stock bitmap's pixel
  fresh_same : Accepted w h (length ms.panel) (length ms.store) → (n k : ℕ) (u : SurfaceId) (x y : ℕ) → has_pixel (where_is (fresh n k w h) u) x y ≡ true
      → colour_at (left true w h ms).memories (where_is (fresh n k w h) u) x y ≡ colour_at (left true w h ns).memories (where_is (fresh n k w h) u) x y
  unfolding locate slots_from
  fresh_same a n k Panel x y i =
      ap (λ (l : List ℕ). word l (x + y * w)) (blanked_same ms.panel ns.panel (size w h) a.panel (omega (arith, a.panel, pl)))
  fresh_same a n k (Bitmap g) x y i = by (eqb g stock_bitmap) i
    where
      by : (t : Bool) → has_pixel (cond t (At Store 0 1 1) Nowhere) x y ≡ true
          → colour_at (left true w h ms).memories (cond t (At Store 0 1 1) Nowhere) x y ≡ colour_at (left true w h ns).memories (cond t (At Store 0 1 1) Nowhere) x y
      by true i = ap (λ (l : List ℕ). word l (x + y * 1)) (blanked_same ms.store ns.store 2 a.store (omega (arith, a.store, sl)))
      by false i = clash i

  -- a refused open leaves a device without pixels, an accepted one equal pixels
  left_agree : (t : Bool) → (t ≡ true → Accepted w h (length ms.panel) (length ms.store)) → Agree nothing (left t w h ms) (left t w h ns)
  left_agree false a = record { states = refl; panels = pl; stores = sl; pixels = λ u x y i n. clash (unfold common_refusal is_sound in i) }
  left_agree true a =
      record {
        states = λ i. fresh (pl i) (sl i) w h;
        panels = blanked_length ms.panel (size w h) (a refl).panel ∙ pl ∙ sym (blanked_length ns.panel (size w h) (omega (arith, (a refl).panel, pl)));
        stores = blanked_length ms.store 2 (a refl).store ∙ sl ∙ sym (blanked_length ns.store 2 (omega (arith, (a refl).store, sl)));
        pixels = λ u x y i n.
            rw (← pl, ← sl) (fresh_same (a refl) (length ms.panel) (length ms.store) u x y (both (eqb (refuses_all (left true w h ms)) 0) _ i).1);
      }

-- what follows from the contract of one open
module _ {w h : ℕ} {s t : FlatDevice} {n : ℕ} (o : Opened w h s.numbers s.memories n t.numbers t.memories) where
  open_accepted : eqb n 0 ≡ true → Accepted w h (length s.memories.panel) (length s.memories.store)
  open_accepted z = by (eqb (length s.numbers) record_size) (sym (eqb-true n 0 z) ∙ o.answer)
    where
      by : (b : Bool) → 0 ≡ cond b (open_refusal w h (length s.memories.panel) (length s.memories.store)) 9 → Accepted w h (length s.memories.panel) (length s.memories.store)
      by true e = accepted w h _ _ _ refl (sym e)
      by false e = absurd (omega (arith, e))

  opened_device : length s.numbers ≡ record_size → device_of t ≡ left (eqb n 0) w h s.memories
  opened_device long = λ i. device ((o.numbers long).same i) (memories (o.panel i) (o.store i))

  -- too few or too many numbers: nothing changes
  misfit_panel : (length s.numbers ≡ record_size → ⊥) → t.memories.panel ≡ s.memories.panel
  misfit_panel ne = o.panel ∙ rw (o.answer, ne_eqb (length s.numbers) record_size ne)

  misfit_store : (length s.numbers ≡ record_size → ⊥) → t.memories.store ≡ s.memories.store
  misfit_store ne = o.store ∙ rw (o.answer, ne_eqb (length s.numbers) record_size ne)

  misfit_record : (length s.numbers ≡ record_size → ⊥) → is_record t.numbers ≡ false
  misfit_record ne = by (is_record t.numbers) refl
    where
      by : (b : Bool) → is_record t.numbers ≡ b → b ≡ false
      by true e = absurd (ne (ap length (sym (o.kept ne)) ∙ record_length t.numbers e))
      by false e = refl

  -- an open leaves a ready device, or one that refuses every call with 9
  pub opened_settled : Settled t
  opened_settled = by (ℕ_discrete (length s.numbers) record_size)
    where
      left_settled : (b : Bool) → (b ≡ true → Accepted w h (length s.memories.panel) (length s.memories.store)) → (refuses_all (left b w h s.memories) ≡ 0) ⊎ (refuses_all (left b w h s.memories) ≡ 9)
      left_settled true a =
          inl (rw (blanked_length s.memories.panel (size w h) (a refl).panel, blanked_length s.memories.store 2 (a refl).store) (ready_accepts (record { sound = opened_sound (a refl); panel = refl; store = refl })))
      left_settled false a = inr (unfold common_refusal is_sound in refl)

      by : Dec (length s.numbers ≡ record_size) → Settled t
      by (yes long) =
          rw (o.numbers long).is_record_lem
          (subst (λ (d : Device). (refuses_all d ≡ 0) ⊎ (refuses_all d ≡ 9)) (sym (opened_device long)) (left_settled (eqb n 0) open_accepted))
      by (no ne) = inr (rw (misfit_record ne))

pub opened_linked : {w h : ℕ} {s t s' t' : FlatDevice} {n k : ℕ} → EqualLengths s t → Opened w h s.numbers s.memories n s'.numbers s'.memories
    → Opened w h t.numbers t.memories k t'.numbers t'.memories → (n ≡ k) × Linked nothing s' t'
opened_linked {w} {h} {s} {t} {s'} {t'} {n} {k} q x y = (same, by (ℕ_discrete (length s.numbers) record_size))
  where
    same : n ≡ k
    same = x.answer ∙ (λ i. open_number (q.numbers i) w h (q.panels i) (q.stores i)) ∙ sym y.answer

    by : Dec (length s.numbers ≡ record_size) → Linked nothing s' t'
    by (yes long) =
        let long' : length t.numbers ≡ record_size = sym q.numbers ∙ long in
        let left' : left (eqb k 0) w h t.memories ≡ left (eqb n 0) w h t.memories = ap (λ (m : ℕ). left (eqb m 0) w h t.memories) (sym same) in
        let a : Agree nothing (device_of s') (device_of t') =
        subst₂ (λ (d e : Device). Agree nothing d e) (sym (opened_device x long)) (sym (opened_device y long' ∙ left'))
        (left_agree w h s.memories t.memories q.panels q.stores (eqb n 0) (open_accepted x))
        in
        record { panels = a.panels; stores = a.stores; records = (x.numbers long).is_record_lem ∙ sym (y.numbers long').is_record_lem; agree = λ z. a }
    by (no ne) =
        let ne' : length t.numbers ≡ record_size → ⊥ = λ e. ne (q.numbers ∙ e) in
        record {
          panels = ap length (misfit_panel x ne) ∙ q.panels ∙ sym (ap length (misfit_panel y ne'));
          stores = ap length (misfit_store x ne) ∙ q.stores ∙ sym (ap length (misfit_store y ne'));
          records = misfit_record x ne ∙ sym (misfit_record y ne');
          agree = λ z. absurd (true≢false (sym z ∙ misfit_record x ne));
        }
