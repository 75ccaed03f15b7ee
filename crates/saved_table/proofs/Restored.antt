-- The record that a saved table holds is the record that was saved. Assumes nothing.
use mathlib.Core.Bool.{true, cond}
use mathlib.Core.List.{List, [], ◌∷◌, ◌++◌, append_assoc, append-nil}
use mathlib.Core.Path.{◌≡◌, refl, sym, ◌∙◌, ap}
use Prim.Native.Nat.{ℕ, zero, suc, ◌+◌, ◌≤◌, ◌<◌, ◌^◌}
use native.Mathlib.Decide.{dec_lt}
use native.Mathlib.Omega.{arith}
use lib.Dec.{eqb, ltb}
use lib.ListN.{length, get_or, replicate, length-append}
use lib.Seq.{ext_get_or}
use borrow.Author.Tests.{lt-ltb, le-ltb}
use Rattle.bits.specs.Bits.{bits_of, filling, fields, field_at, numbers_in, total}
use Rattle.bits.proofs.Fields.{Bits, bits_append}
use Rattle.bits.proofs.Lists.{length_fields, fields_back, bits_fields, bits_as_bytes, same_equal}
use Rattle.gdi.specs.declared.Dc.{Dc}
use Rattle.gdi.specs.declared.GdiObject.{GdiObject}
use Rattle.gdi.specs.declared.GdiObject.TheVariants.{Dc as DcOf, Bitmap, Brush, Pen, Font}
use Rattle.gdi.specs.declared.Slot.{Slot}
use Rattle.gdi.specs.declared.GdiState.{GdiState}
use Rattle.gdi.specs.Record.{state_with, no_slot, vacant_slot}
use Rattle.gdi.specs.Lookup.{slot_at}
use Rattle.numbers.specs.Block.{kind_number, dc_fields, object_of}
use Rattle.numbers.proofs.View.{length_table, table_slot}
use Rattle.sound.specs.Sound.{sound_except_sizes}
use Rattle.saved_table.specs.Table.{dc_widths, dc_values, widths_of, values_of, slot_bits, slots_bits, head_widths, head_values, table_bits, saved_table}
use Rattle.saved_table.specs.Held.{object_held, slot_held, start_held, slots_held, record_held, is_table, restored}
use Rattle.saved_table.proofs.Lengths.{dc_total, head_total, length_slots}

-- values that fit fields of these widths
abbrev pub Fit : (widths values : List ℕ) → Type 0
Fit [] [] = Unit
Fit [] (v ∷ vs) = ⊥
Fit (n ∷ ns) [] = ⊥
Fit (n ∷ ns) (v ∷ vs) = (v < 2 ^ n) × Fit ns vs

fit_length : (ws vs : List ℕ) → Fit ws vs → length ws ≡ length vs
fit_length [] [] f = refl
fit_length [] (v ∷ vs) f = absurd f
fit_length (n ∷ ns) [] f = absurd f
fit_length (n ∷ ns) (v ∷ vs) f = ap suc (fit_length ns vs f.1)

fit_at : (ws vs : List ℕ) → Fit ws vs → (k : ℕ) → k < length ws → get_or vs k 0 < 2 ^ get_or ws k 0
fit_at [] vs f k lt = absurd (omega arith)
fit_at (n ∷ ns) [] f k lt = absurd f
fit_at (n ∷ ns) (v ∷ vs) f zero lt = f.0
fit_at (n ∷ ns) (v ∷ vs) f (suc k) lt = fit_at ns vs f.1 k (omega arith)

-- such values are read back
fitting_back : (ws vs pre post : List ℕ) → Fit ws vs → numbers_in ws (pre ++ (fields ws vs ++ post)) (length pre) ≡ vs
fitting_back ws vs pre post f = fields_back ws vs pre post (fit_length ws vs f) (fit_at ws vs f)

-- a DC, whose surface has this number, that fits its fields and is read back from them
pub record DcFits (surface : ℕ) (d : Dc) : Type 0 where
  pub values : Fit dc_widths (dc_values d)
  pub again : dc_fields (surface ∷ dc_values d) ≡ d

-- an object, likewise; created DCs are memory DCs
pub record ObjectFits (o : GdiObject) : Type 0 where
  pub values : Fit (widths_of (kind_number o)) (values_of o)
  pub again : object_of (kind_number o) (cond (eqb (kind_number o) 0) (1 ∷ values_of o) (values_of o)) ≡ o

-- A record whose table has every field whole.
pub record Fits (b : GdiState) : Type 0 where
  pub head : Fit head_widths (head_values b)
  pub screen : DcFits 0 b.screen
  pub handles : (i : ℕ) → i < b.count → (slot_at b i).handle < 2 ^ 32
  pub objects : (i : ℕ) → i < b.count → ObjectFits (slot_at b i).object

kind_small : (o : GdiObject) → kind_number o < 2 ^ 3
kind_small (DcOf d) = omega arith
kind_small (Bitmap m) = omega arith
kind_small (Brush x) = omega arith
kind_small (Pen x) = omega arith
kind_small (Font x) = omega arith

bits_slots : (b : GdiState) (n : ℕ) → Bits (slots_bits b n)
unfolding slots_bits
bits_slots b zero k = omega arith
bits_slots b (suc n) k =
    bits_append (slots_bits b n) (slot_bits (slot_at b n)) (bits_slots b n)
    (bits_append (fields _ _) (fields _ _) (bits_fields _ _) (bits_fields _ _)) k

pub bits_table : (b : GdiState) → Bits (table_bits b)
unfolding table_bits
bits_table b =
    bits_append (fields head_widths (head_values b) ++ fields dc_widths (dc_values b.screen)) (slots_bits b b.count)
    (bits_append (fields head_widths (head_values b)) (fields dc_widths (dc_values b.screen)) (bits_fields _ _) (bits_fields _ _)) (bits_slots b b.count)

lay : (a b c d e f : List ℕ) → (a ++ (b ++ ((c ++ d) ++ e))) ++ f ≡ (a ++ b) ++ (c ++ (d ++ (e ++ f)))
lay a b c d e f = simp append_assoc

regroup : (a b c d : List ℕ) → (a ++ (b ++ c)) ++ d ≡ a ++ (b ++ (c ++ d))
regroup a b c d = simp append_assoc

-- the bits of the first n objects, with those of object i singled out
record Split (b : GdiState) (i n : ℕ) : Type 0 where
  rest : List ℕ
  same : slots_bits b n ≡ slots_bits b i ++ (slot_bits (slot_at b i) ++ rest)

slots_next : (b : GdiState) (n : ℕ) → slots_bits b (suc n) ≡ slots_bits b n ++ slot_bits (slot_at b n)
unfolding slots_bits
slots_next b n = refl

split_slots : (b : GdiState) (i n : ℕ) → i < n → Split b i n
split_slots b i zero lt = absurd (omega arith)
split_slots b i (suc n) lt = by (dec_lt i n) (split_slots b i n)
  where
    by : Dec (i < n) → (i < n → Split b i n) → Split b i (suc n)
    by (yes l) h =
        let q = h l in
        record { rest = q.rest ++ slot_bits (slot_at b n); same = slots_next b n ∙ ap (λ (xs : List ℕ). xs ++ slot_bits (slot_at b n)) q.same ∙ regroup (slots_bits b i) (slot_bits (slot_at b i)) q.rest (slot_bits (slot_at b n)) }
    by (no l) h =
        let e : n ≡ i = omega arith in
        record { rest = []; same = slots_next b n ∙ rw (e, append-nil) }

-- a table does not depend on memory lengths, the frame counter and the stock bitmap's mark, nor does soundness except for the sizes
restored_slots : (c b : GdiState) (n : ℕ) → slots_bits (restored c b) n ≡ slots_bits b n
unfolding slots_bits
restored_slots c b zero = refl
restored_slots c b (suc n) = ap (λ (xs : List ℕ). xs ++ slot_bits (slot_at b n)) (restored_slots c b n)

pub restored_table : (c b : GdiState) → saved_table (restored c b) ≡ saved_table b
unfolding table_bits
restored_table c b = rw (restored_slots c b b.count)

pub restored_sound : (c b : GdiState) → sound_except_sizes (restored c b) ≡ sound_except_sizes b
restored_sound c b = refl

module _ (b : GdiState) (fits : Fits b) where
  abbrev head : List ℕ
  head = fields head_widths (head_values b)

  abbrev screen : List ℕ
  screen = fields dc_widths (dc_values b.screen)

  abbrev zeros : List ℕ
  zeros = replicate (filling (length (table_bits b))) 0

  -- the bits of the table's bytes
  abbrev pub bits : List ℕ
  bits = bits_of (saved_table b)

  bits_are : bits ≡ ((head ++ screen) ++ slots_bits b b.count) ++ zeros
  unfolding table_bits
  bits_are = bits_as_bytes (table_bits b) (bits_table b)

  length_head : length head ≡ 71
  length_head = length_fields head_widths (head_values b) ∙ head_total

  length_front : length (head ++ screen) ≡ 425
  length_front = length-append head screen ∙ rw (length_head, length_fields dc_widths (dc_values b.screen), dc_total)

  -- the head is read back
  head_back : numbers_in head_widths bits 0 ≡ head_values b
  head_back =
      let e : bits ≡ [] ++ (head ++ (screen ++ (slots_bits b b.count ++ zeros))) = bits_are ∙ simp append_assoc in
      rw e (fitting_back head_widths (head_values b) [] (screen ++ (slots_bits b b.count ++ zeros)) fits.head)

  screen_back : numbers_in dc_widths bits 71 ≡ dc_values b.screen
  screen_back =
      let e : bits ≡ head ++ (screen ++ (slots_bits b b.count ++ zeros)) = bits_are ∙ simp append_assoc in
      rw (← length_head, e) (fitting_back dc_widths (dc_values b.screen) head (slots_bits b b.count ++ zeros) fits.screen.values)

  -- created object i is read back
  module _ (i : ℕ) (lt : i < b.count) where
    abbrev s : Slot
    s = slot_at b i

    abbrev before : List ℕ
    before = (head ++ screen) ++ slots_bits b i

    after : List ℕ
    after = (split_slots b i b.count lt).rest ++ zeros

    abbrev named : List ℕ
    named = fields (3 ∷ 32 ∷ []) (kind_number s.object ∷ s.handle ∷ [])

    abbrev valued : List ℕ
    valued = fields (widths_of (kind_number s.object)) (values_of s.object)

    around : bits ≡ before ++ (named ++ (valued ++ after))
    unfolding after
    around = bits_are ∙ rw (split_slots b i b.count lt).same (lay (head ++ screen) (slots_bits b i) named valued (split_slots b i b.count lt).rest zeros)

    length_before : length before ≡ 425 + length (slots_bits b i)
    length_before = length-append (head ++ screen) (slots_bits b i) ∙ rw length_front

    named_back : numbers_in (3 ∷ 32 ∷ []) bits (425 + length (slots_bits b i)) ≡ kind_number s.object ∷ s.handle ∷ []
    named_back = rw (← length_before, around) (fitting_back (3 ∷ 32 ∷ []) (kind_number s.object ∷ s.handle ∷ []) before (valued ++ after) (kind_small s.object, (fits.handles i lt, tt)))

    valued_back : numbers_in (widths_of (kind_number s.object)) bits ((425 + length (slots_bits b i)) + 35) ≡ values_of s.object
    valued_back =
        let e : bits ≡ (before ++ named) ++ (valued ++ after) = around ∙ simp append_assoc in
        let l : (425 + length (slots_bits b i)) + 35 ≡ length (before ++ named) = unfold total in omega (arith, length-append before named, length_before, length_fields (3 ∷ 32 ∷ []) (kind_number s.object ∷ s.handle ∷ [])) in
        rw (l, e) (fitting_back (widths_of (kind_number s.object)) (values_of s.object) (before ++ named) after (fits.objects i lt).values)

    kind_back : field_at bits (425 + length (slots_bits b i)) 3 ≡ kind_number s.object
    kind_back = unfold numbers_in in ap (λ (l : List ℕ). get_or l 0 0) named_back

    handle_back : field_at bits ((425 + length (slots_bits b i)) + 3) 32 ≡ s.handle
    handle_back = unfold numbers_in in ap (λ (l : List ℕ). get_or l 1 0) named_back

    object_back : object_held (kind_number s.object) bits ((425 + length (slots_bits b i)) + 35) ≡ s.object
    object_back = by s.object (fits.objects i lt).again valued_back
      where
        by : (o : GdiObject) → object_of (kind_number o) (cond (eqb (kind_number o) 0) (1 ∷ values_of o) (values_of o)) ≡ o
            → numbers_in (widths_of (kind_number o)) bits ((425 + length (slots_bits b i)) + 35) ≡ values_of o → object_held (kind_number o) bits ((425 + length (slots_bits b i)) + 35) ≡ o
        by (DcOf d) e f = rw f e
        by (Bitmap m) e f = rw f e
        by (Brush x) e f = rw f e
        by (Pen x) e f = rw f e
        by (Font x) e f = rw f e

    slot_back_lem : slot_held bits (425 + length (slots_bits b i)) ≡ s
    slot_back_lem =
        let o : object_held (field_at bits (425 + length (slots_bits b i)) 3) bits ((425 + length (slots_bits b i)) + 35) ≡ s.object =
        ap (λ (k : ℕ). object_held k bits ((425 + length (slots_bits b i)) + 35)) kind_back ∙ object_back in
        λ j. record { handle = handle_back j; object = o j }

  -- object i begins behind those before it
  start_back : (i : ℕ) → i ≤ b.count → start_held bits i ≡ 425 + length (slots_bits b i)
  unfolding start_held
  start_back zero le = unfold slots_bits in refl
  start_back (suc i) le =
      let e = start_back i (omega arith) in
      let k : total (widths_of (field_at bits (start_held bits i) 3)) ≡ total (widths_of (kind_number (slot_at b i).object)) =
      ap (λ (p : ℕ). total (widths_of (field_at bits p 3))) e ∙ ap (λ (n : ℕ). total (widths_of n)) (kind_back i (omega arith)) in
      omega (arith, e, k, length_slots b i)

  -- the slots of a record whose slots past the count are vacant
  module _ (long : length b.objects ≡ 256) (vacant : (i : ℕ) → b.count ≤ i → i < 256 → slot_at b i ≡ vacant_slot) where
    slot_of_lem : (i : ℕ) → i < 256 → cond (ltb i b.count) (slot_held bits (start_held bits i)) vacant_slot ≡ slot_at b i
    slot_of_lem i few = by (dec_lt i b.count)
      where
        by : Dec (i < b.count) → cond (ltb i b.count) (slot_held bits (start_held bits i)) vacant_slot ≡ slot_at b i
        by (yes lt) = rw (lt-ltb i b.count lt) (ap (slot_held bits) (start_back i (omega arith)) ∙ slot_back_lem i lt)
        by (no ge) = rw (le-ltb i b.count (omega arith)) (sym (vacant i (omega arith) few))

    slots_back : slots_held bits b.count ≡ b.objects
    slots_back =
        let f : ℕ → Slot = λ i. cond (ltb i b.count) (slot_held bits (start_held bits i)) vacant_slot in
        ext_get_or no_slot (slots_held bits b.count) b.objects (length_table f 0 256 ∙ sym long)
        (λ i lt. let few : i < 256 = omega (arith, length_table f 0 256) in table_slot f i few ∙ slot_of_lem i few)

    -- the record that the table of b holds, loaded into the device c
    pub restored_is : (c : GdiState) → record_held c bits ≡ restored c b
    unfolding record_held numbers_in
    restored_is c =
        let h = head_back in
        let width : field_at bits 4 13 ≡ b.width = ap (λ (l : List ℕ). get_or l 1 0) h in
        let height : field_at bits 17 13 ≡ b.height = ap (λ (l : List ℕ). get_or l 2 0) h in
        let next : field_at bits 30 32 ≡ b.next_handle = ap (λ (l : List ℕ). get_or l 3 0) h in
        let count : field_at bits 62 9 ≡ b.count = ap (λ (l : List ℕ). get_or l 4 0) h in
        let dc : dc_fields (0 ∷ numbers_in dc_widths bits 71) ≡ b.screen = ap (λ (l : List ℕ). dc_fields (0 ∷ l)) screen_back ∙ fits.screen.again in
        let slots : slots_held bits (field_at bits 62 9) ≡ b.objects = ap (slots_held bits) count ∙ slots_back in
        λ i. state_with c.panel_len c.store_len (width i) (height i) c.frame_counter (next i) (dc i) c.stock_dirty (count i) (slots i)

    -- and it is a table
    pub is_table_lem : (c : GdiState) → sound_except_sizes b ≡ true → is_table c (saved_table b) ≡ true
    unfolding is_table
    is_table_lem c sound = rw (restored_is c, restored_sound c b ∙ sound, restored_table c b) (same_equal (saved_table b))
