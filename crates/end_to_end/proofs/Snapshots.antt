-- Snapshots depend on the record and on the panel's pixels alone. Assumes nothing.
use mathlib.Core.Bool.{Bool, true, false, cond, ◌&&◌}
use mathlib.Core.List.{List, ◌++◌}
use mathlib.Core.Logic.{◌⊎◌, inl, inr}
use mathlib.Core.Path.{◌≡◌, refl, sym, ◌∙◌, ap, ap₂, subst}
use Prim.Native.Nat.{ℕ, zero, suc, ◌+◌, ◌*◌, ◌/◌, ◌%◌, ◌<◌}
use native.Mathlib.Nat.{div-add-mod', mod-lt, div-lt_iff_lt-mul, mul_comm}
use native.Mathlib.Omega.{arith}
use lib.Dec.{eqb}
use lib.ListN.{length}
use borrow.Author.Tests.{eq-eqb, lt-ltb}
use Rattle.arithmetic.proofs.Test.{together}
use Rattle.words.specs.Words.{word}
use Rattle.words.specs.Parts.{part}
use Rattle.words.proofs.Parts.{word_part}
use Rattle.surface.proofs.Accepted.{side_range}
use Rattle.gdi.specs.declared.GdiState.{GdiState}
use Rattle.numbers.specs.View.{view, is_record}
use Rattle.sound.specs.Sound.{is_sound}
use Rattle.sound.proofs.Sound.{parts}
use Rattle.ready.specs.Ready.{common_refusal}
use Rattle.ready.proofs.Ready.{ready}
use Rattle.place.specs.declared.SurfaceId.TheVariants.{Panel}
use Rattle.place.specs.Place.{where_is}
use Rattle.paint.specs.Memories.{colour_at}
use Rattle.paint.specs.Taint.{Taint}
use Rattle.execution.specs.Execution.{refuses_all}
use Rattle.p6.specs.P6.{p6}
use Rattle.p6.specs.Joined.{joined}
use Rattle.samples.specs.Samples.{rgb, rgba}
use Rattle.snapshot.specs.Snapshot.{snapshot_refusal, Format, Snapped}
use Rattle.end_to_end.specs.Lists.{FlatDevice, device_of, refuses_all_on, is_pixel_on}
use Rattle.end_to_end.specs.Screens.{Saves, as_rgba, as_ppm, SameSnapshots}
use Rattle.end_to_end.proofs.Entries.{served_record}
use Rattle.end_to_end.proofs.Lists.{Linked, linked_same}

-- ---- a picture depends on the panel's words

joined_same : (f g : ℕ → List ℕ) (n : ℕ) → ((i : ℕ) → i < n → f i ≡ g i) → joined f n ≡ joined g n
unfolding joined
joined_same f g zero e = refl
joined_same f g (suc n) e = ap₂ ◌++◌ (joined_same f g n (λ i lt. e i (omega arith))) (e n (omega arith))

picture_same : {f : Format} → Saves f → (w h : ℕ) (m k : List ℕ) → ((i : ℕ) → i < w * h → word m i ≡ word k i) → f.picture w h m ≡ f.picture w h k
picture_same as_rgba w h m k e = joined_same _ _ (w * h) (λ i lt. ap rgba (e i lt))
picture_same as_ppm w h m k e = ap (p6 w h) (joined_same _ _ (w * h) (λ i lt. ap rgb (e i lt)))

-- ---- the panel's words are its pixels

-- the pixel of word i
module _ (w h i : ℕ) (some : 0 < w) (lt : i < w * h) where
  column_lt : i % w < w
  column_lt = mod-lt i some

  row_lt : i / w < h
  row_lt = (div-lt_iff_lt-mul some).1 (omega (arith, lt, mul_comm w h))

  pixel_word : (m : List ℕ) → word (part m 0 (2 * (w * h))) (i % w + i / w * w) ≡ word m i
  pixel_word m =
      let e : i % w + i / w * w ≡ i = omega (arith, div-add-mod' i w) in
      rw e (word_part m 0 (w * h) i lt ∙ ap (word m) (omega arith))

module _ {m : Taint} {s t : FlatDevice} (l : Linked m s t) where
  -- the records are the same
  views : is_record s.numbers ≡ true → view s.numbers ≡ view t.numbers
  views e = (l.agree e).states

  -- the device is ready, and no pixel of the panel is tainted
  module _ (served : refuses_all_on s ≡ 0) (clear : (x y : ℕ) → is_pixel_on s Panel x y ≡ true → m Panel x y → ⊥) where
    is_record_lem : is_record s.numbers ≡ true
    is_record_lem = served_record s served

    panel_words : (i : ℕ) → i < (view s.numbers).width * (view s.numbers).height → word s.memories.panel i ≡ word t.memories.panel i
    panel_words i lt =
        let w = (view s.numbers).width in
        let h = (view s.numbers).height in
        let looked : refuses_all (device_of s) ≡ 0 = rw is_record_lem at served in
        let r = ready (view s.numbers) _ _ _ refl looked in
        let some : 0 < w = omega (arith, (side_range w (parts (view s.numbers) r.sound).width).0) in
        let x = i % w in
        let y = i / w in
        let within = together (lt-ltb x w (column_lt w h i some lt)) (lt-ltb y h (row_lt w h i some lt)) in
        let pixel = together (eq-eqb (refuses_all_on s) 0 served) within in
        let same : colour_at s.memories (where_is (view s.numbers) Panel) x y ≡ colour_at t.memories (where_is (view s.numbers) Panel) x y =
        subst (λ (b : GdiState). colour_at s.memories (where_is (view s.numbers) Panel) x y ≡ colour_at t.memories (where_is b Panel) x y) (sym (views is_record_lem))
        ((l.agree is_record_lem).pixels Panel x y (together (eq-eqb (refuses_all (device_of s)) 0 looked) within) (clear x y pixel))
        in
        sym (pixel_word w h i some lt s.memories.panel) ∙ same ∙ pixel_word w h i some lt t.memories.panel

-- ---- a snapshot's number follows from the record and the lengths

abbrev number_by : Bool → GdiState → (panel_len out-len : ℕ) → (wanted : (width height : ℕ) → ℕ) → ℕ
number_by r b n got wanted =
    cond (eqb (cond r (common_refusal b n b.store_len) 9) 0) (cond (eqb got (wanted b.width b.height)) 0 8) (cond r (common_refusal b n b.store_len) 9)

number_same : {m : Taint} {s t : FlatDevice} → Linked m s t → (out out' : List ℕ) → length out ≡ length out' → (wanted : (width height : ℕ) → ℕ)
    → snapshot_refusal s.numbers (length s.memories.panel) (length out) wanted ≡ snapshot_refusal t.numbers (length t.memories.panel) (length out') wanted
unfolding snapshot_refusal
number_same {t = t} l out out' long wanted =
    linked_same l (λ r b n k. number_by r b n (length out) wanted) (λ b b' n k n' k'. refl)
    ∙ ap (λ (got : ℕ). number_by (is_record t.numbers) (view t.numbers) (length t.memories.panel) got wanted) long

-- an unsound record is refused, and so are numbers that are no record
nine_refused : (s : FlatDevice) (got : ℕ) (wanted : (width height : ℕ) → ℕ) → refuses_all_on s ≡ 9 → snapshot_refusal s.numbers (length s.memories.panel) got wanted ≡ 0 → ⊥
unfolding snapshot_refusal common_refusal
nine_refused s got wanted = by (is_record s.numbers) (is_sound (view s.numbers)) (eqb n b.panel_len) (eqb (length s.memories.store) b.store_len)
  where
    b : GdiState
    b = view s.numbers

    n : ℕ
    n = length s.memories.panel

    common : (r t p q : Bool) → ℕ
    common r t p q = cond r (cond t (cond (p && q) 0 8) 9) 9

    by : (r t p q : Bool) → common r t p q ≡ 9
        → cond (eqb (common r t p (eqb b.store_len b.store_len)) 0) (cond (eqb got (wanted b.width b.height)) 0 8) (common r t p (eqb b.store_len b.store_len)) ≡ 0 → ⊥
    by true true true true e z = omega (arith, e)
    by true true true false e z = omega (arith, e)
    by true true false q e z = omega (arith, e)
    by true false p q e z = omega (arith, z)
    by false t p q e z = omega (arith, z)

-- The device is ready, or refuses every call with 9. A device that refuses with 8 for the length of its store can still be saved.
abbrev pub Settled : FlatDevice → Type 0
Settled s = (refuses_all_on s ≡ 0) ⊎ (refuses_all_on s ≡ 9)

module _ {m : Taint} {s t : FlatDevice} (l : Linked m s t) (settled : Settled s) (clear : (x y : ℕ) → is_pixel_on s Panel x y ≡ true → m Panel x y → ⊥) {f : Format} (saves : Saves f) where
  pub same_snapshots : SameSnapshots f s t
  same_snapshots =
      record {
        same = λ out₁ out₂ out₁' out₂' n k long x y.
            let numbers : n ≡ k = x.answer ∙ number_same l out₁ out₂ long f.wanted ∙ sym y.answer in
            (numbers, λ z. by settled x y z (sym numbers ∙ z));
      }
    where
      by : Settled s → {out₁ out₂ out₁' out₂' : List ℕ} {n k : ℕ} → Snapped f s.numbers s.memories.panel out₁ n out₁'
          → Snapped f t.numbers t.memories.panel out₂ k out₂' → n ≡ 0 → k ≡ 0 → out₁' ≡ out₂'
      by (inl served) {n = n} {k = k} x y z z' =
          let b = view s.numbers in
          let same : f.picture b.width b.height s.memories.panel ≡ f.picture (view t.numbers).width (view t.numbers).height t.memories.panel =
          picture_same saves b.width b.height s.memories.panel t.memories.panel (panel_words l served clear)
          ∙ ap (λ (c : GdiState). f.picture c.width c.height t.memories.panel) (views l (served_record s served))
          in
          rw (x.bytes, y.bytes, eq-eqb n 0 z, eq-eqb k 0 z') same
      by (inr nine) {out₁ = out₁} x y z z' = absurd (nine_refused s (length out₁) f.wanted nine (sym x.answer ∙ z))
