-- The numbers in use are determined by the record that they encode: each is a function of it. Assumes nothing.
use mathlib.Core.Bool.{true}
use mathlib.Core.List.{List, [], ◌∷◌}
use mathlib.Core.Path.{◌≡◌, refl, sym, ◌∙◌, ap}
use Prim.Native.Nat.{ℕ, zero, suc, ◌+◌, ◌-◌, ◌*◌, ◌/◌, ◌%◌, ◌<◌, ◌^◌}
use native.Mathlib.Decide.{dec_lt}
use native.Mathlib.Omega.{arith}
use lib.ListN.{length, drop}
use lib.Seq.{ext_get_or, get_or-drop}
use Rattle.words.specs.Parts.{part}
use Rattle.gdi.specs.declared.GdiObject.{GdiObject}
use Rattle.gdi.specs.declared.GdiState.{GdiState}
use Rattle.gdi.specs.declared.Slot.{Slot}
use Rattle.gdi.specs.Lookup.{slot_at}
use Rattle.numbers.specs.Layout.{dc_size, object_size, slot_size, head_size, panel_len_place, store_len_place, width_place, height_place, frames_low_place, frames_high_place, next_handle_place, stock_dirty_place, count_place, screen_place, slots_place, slot_place, kind_place, object_place}
use Rattle.numbers.specs.Block.{kind_number, at, ObjectCoded, slot_of, is_slot}
use Rattle.numbers.specs.View.{view, is_record}
use Rattle.numbers.proofs.Record.{parts}
use Rattle.numbers.proofs.Seen.{part_at, count_seen}
use Rattle.numbers.proofs.View.{device_numbers, slot_seen}
use Rattle.canonical.proofs.Objects.{flag_number_lem, listed, listed_within, Small, numbers_of, dc_back, object_numbers, kind_back, object_back}

-- a slot's numbers, from the slot
abbrev slot_numbers : Slot → List ℕ
slot_numbers s = s.handle ∷ kind_number s.object ∷ object_numbers s.object

slot_back_lem : (l : List ℕ) → ((k : ℕ) → k < slot_size → at l k < 2 ^ 32) → is_slot l ≡ true → (i : ℕ) → i < slot_size → at l i ≡ at (slot_numbers (slot_of l)) i
slot_back_lem l b t zero lt = refl
slot_back_lem l b t (suc zero) lt = kind_back (at l kind_place) (part l object_place object_size) t
slot_back_lem l b t (suc (suc i)) lt =
    ap (at l) (omega arith) ∙ sym (part_at l object_place object_size i (omega arith))
    ∙ object_back (at l kind_place) (part l object_place object_size) (λ k h. rw (part_at l object_place object_size k h) (b (object_place + k) (omega arith))) t i (omega arith)

-- the numbers of a record, from the record
module _ (l : List ℕ) (small : (k : ℕ) → at l k < 2 ^ 32) (r : is_record l ≡ true) where
  device_listed : listed l 0 head_size ≡ device_numbers (view l)
  unfolding view
  device_listed =
      let low : at l frames_low_place ≡ (at l frames_low_place + 4294967296 * at l frames_high_place) % 4294967296 = omega (arith, small frames_low_place) in
      let high : at l frames_high_place ≡ (at l frames_low_place + 4294967296 * at l frames_high_place) / 4294967296 = omega (arith, small frames_low_place) in
      let flag = flag_number_lem (at l stock_dirty_place) (parts l r).flag in
      λ i. at l panel_len_place ∷ at l store_len_place ∷ at l width_place ∷ at l height_place ∷ low i ∷ high i ∷ at l next_handle_place ∷ flag i ∷ at l count_place ∷ []

  device_back : (k : ℕ) → k < head_size → at l k ≡ at (device_numbers (view l)) k
  device_back k lt = ap (at l) (omega arith) ∙ listed_within l 0 head_size k lt ∙ ap (λ (d : List ℕ). at d k) device_listed

  screen_back : (k : ℕ) → k < dc_size → at l (screen_place + k) ≡ at (numbers_of (view l).screen) k
  unfolding view
  screen_back k lt = sym (part_at l screen_place dc_size k lt) ∙ dc_back (part l screen_place dc_size) (λ j h. rw (part_at l screen_place dc_size j h) (small (screen_place + j))) (parts l r).screen k lt

  table_back : (i k : ℕ) → i < at l count_place → k < slot_size → at l (slot_place i + k) ≡ at (slot_numbers (slot_at (view l) i)) k
  table_back i k lt h =
      sym (part_at l (slot_place i) slot_size k h)
      ∙ slot_back_lem (part l (slot_place i) slot_size) (λ j b. rw (part_at l (slot_place i) slot_size j b) (small (slot_place i + j))) ((parts l r).slots i lt) k h
      ∙ sym (ap (λ s. at (slot_numbers s) k) (slot_seen l i lt (omega (arith, (parts l r).few))))

-- two lists of numbers that encode the same record and agree past its last object are equal
pub same_numbers : (l m : List ℕ) → ((k : ℕ) → at l k < 2 ^ 32) → ((k : ℕ) → at m k < 2 ^ 32) → is_record l ≡ true → is_record m ≡ true → view l ≡ view m → drop (slot_place (at l count_place)) l ≡ drop (slot_place (at m count_place)) m → l ≡ m
same_numbers l m sl sm rl rm e rest =
    ext_get_or 0 l m ((parts l rl).long ∙ sym (parts m rm).long) (λ k lt. by k (dec_lt k head_size) (dec_lt k slots_place) (dec_lt k (slot_place (at l count_place))))
  where
    counts : at l count_place ≡ at m count_place
    counts = sym (count_seen l) ∙ ap (λ (b : GdiState). b.count) e ∙ count_seen m

    by : (k : ℕ) → Dec (k < head_size) → Dec (k < slots_place) → Dec (k < slot_place (at l count_place)) → at l k ≡ at m k
    by k (yes a) b c = device_back l sl rl k a ∙ ap (λ (b : GdiState). at (device_numbers b) k) e ∙ sym (device_back m sm rm k a)
    by k (no a) (yes b) c =
        let i : screen_place + (k - screen_place) ≡ k = omega arith in
        rw i at (screen_back l sl rl (k - screen_place) (omega arith) ∙ ap (λ (b : GdiState). at (numbers_of b.screen) (k - screen_place)) e ∙ sym (screen_back m sm rm (k - screen_place) (omega arith)))
    by k (no a) (no b) (yes c) =
        let i : ℕ = (k - slots_place) / slot_size in
        let j : ℕ = (k - slots_place) % slot_size in
        let p : slot_place i + j ≡ k = omega arith in
        let below : i < at l count_place = omega arith in
        rw p at (table_back l sl rl i j below (omega arith) ∙ ap (λ (b : GdiState). at (slot_numbers (slot_at b i)) j) e ∙ sym (table_back m sm rm i j (omega (arith, counts)) (omega arith)))
    by k (no a) (no b) (no c) =
        let i : slot_place (at l count_place) + (k - slot_place (at l count_place)) ≡ k = omega arith in
        let j : slot_place (at m count_place) + (k - slot_place (at l count_place)) ≡ k = omega (arith, counts) in
        ap (at l) (sym i) ∙ sym (get_or-drop (slot_place (at l count_place)) l (k - slot_place (at l count_place)) 0)
        ∙ ap (λ (d : List ℕ). at d (k - slot_place (at l count_place))) rest
        ∙ get_or-drop (slot_place (at m count_place)) m (k - slot_place (at l count_place)) 0 ∙ ap (at m) j

-- an object's kind and numbers are determined by the object
pub same_object : {o : GdiObject} {i j : ℕ} {l m : List ℕ} → length l ≡ object_size → length m ≡ object_size → Small l → Small m
    → ObjectCoded o i l → ObjectCoded o j m → (i ≡ j) × (l ≡ m)
same_object {i = i} {j = j} {l = l} {m = m} long long' small small' x y =
    let e = x.same ∙ sym y.same in (
      kind_back i l x.is_object_lem ∙ ap kind_number e ∙ sym (kind_back j m y.is_object_lem),
      ext_get_or 0 l m (long ∙ sym long') (λ k lt.
          let lt' : k < object_size = omega (arith, lt, long) in
          object_back i l small x.is_object_lem k lt' ∙ ap (λ (o : GdiObject). at (object_numbers o) k) e ∙ sym (object_back j m small' y.is_object_lem k lt')),
    )
