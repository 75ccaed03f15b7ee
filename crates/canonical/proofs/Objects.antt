-- The numbers of an object are a function of it. Assumes nothing.
use mathlib.Core.Bool.{Bool, true, ◌&&◌, ◌||◌, true≢false}
use mathlib.Core.List.{List, [], ◌∷◌}
use mathlib.Core.Path.{◌≡◌, refl, sym, ◌∙◌, ap}
use Prim.Native.Nat.{ℕ, zero, suc, ◌+◌, ◌-◌, ◌*◌, ◌≤◌, ◌<◌, ◌^◌}
use native.Mathlib.Decide.{dec_lt}
use native.Mathlib.Omega.{arith}
use lib.Dec.{eqb}
use lib.IntN.{pos, negsuc, ◌-ℤ◌}
use borrow.Author.Tests.{eqb-true, leb-true, ne_eqb}
use Rattle.arithmetic.proofs.Integer.{difference, eq_parts}
use Rattle.arithmetic.proofs.Test.{both, each}
use Rattle.bigendian.specs.BigEndian.{signed32}
use Rattle.bigendian.proofs.Signed.{below_half, from_half}
use Rattle.gdi.specs.declared.Dc.{Dc}
use Rattle.gdi.specs.declared.GdiObject.{GdiObject}
use Rattle.gdi.specs.declared.GdiObject.TheVariants.{Dc as DcOf, Bitmap, Brush, Pen, Font}
use Rattle.numbers.specs.Layout.{dc_size, object_size, surface_in, present_in, bitmap_in, bk_transparent_in, pos_x_in, pos_y_in, bitmap_width_in, bitmap_height_in, bitmap_dirty_in, font_height_in, bitmap_size, brush_size, pen_size, font_size}
use Rattle.numbers.specs.Block.{present_number, bitmap_number, complement32, kind_number, at, flag_of, is_flag, flag_number, surface_of, bitmap_of, dc_fields, is_dc, object_of, zeros_from, is_object}
use Rattle.numbers.proofs.Block.{surface_number, no_kind, dc_numbers}

-- flags, surfaces and selected bitmaps, written back, are their numbers
pub flag_number_lem : (n : ℕ) → n ≤ 1 → n ≡ flag_number (flag_of n)
flag_number_lem zero h = refl
flag_number_lem (suc zero) h = refl
flag_number_lem (suc (suc n)) h = absurd (omega arith)

surface_number_lem : (n : ℕ) → n ≤ 1 → n ≡ surface_number (surface_of n)
surface_number_lem zero h = refl
surface_number_lem (suc zero) h = refl
surface_number_lem (suc (suc n)) h = absurd (omega arith)

no_presence : (n h : ℕ) → (flag_of (suc (suc n)) || (eqb (suc (suc n)) 0 && eqb h 0)) ≡ true → ⊥
no_presence n h t = true≢false (sym (rw (ne_eqb (suc (suc n)) 1 (λ e. omega arith), ne_eqb (suc (suc n)) 0 (λ e. omega arith)) at t))

present_number_lem : (n h : ℕ) → (flag_of n || (eqb n 0 && eqb h 0)) ≡ true → n ≡ present_number (bitmap_of n h)
present_number_lem zero h t = refl
present_number_lem (suc zero) h t = refl
present_number_lem (suc (suc n)) h t = absurd (no_presence n h t)

bitmap_number_lem : (n h : ℕ) → (flag_of n || (eqb n 0 && eqb h 0)) ≡ true → h ≡ bitmap_number (bitmap_of n h)
bitmap_number_lem zero h t = eqb-true h 0 t
bitmap_number_lem (suc zero) h t = refl
bitmap_number_lem (suc (suc n)) h t = absurd (no_presence n h t)

-- so is a two's complement
pub complement_back : (n : ℕ) → n < 2 ^ 32 → n ≡ complement32 (signed32 n)
complement_back n h = by (dec_lt n (2 ^ 31))
  where
    by : Dec (n < 2 ^ 31) → n ≡ complement32 (signed32 n)
    by (yes k) = rw (below_half (2 ^ 31) k) refl
    by (no k) =
        let e = from_half (2 ^ 31) {n = n} (omega arith) ∙ eq_parts (pos n -ℤ pos (2 * 2 ^ 31)) (negsuc (2 * 2 ^ 31 - suc n)) (omega (arith, difference (pos n) (pos (2 * 2 ^ 31)))) in
        rw e (omega arith)

-- the k numbers from p on
abbrev pub listed : List ℕ → (p k : ℕ) → List ℕ
listed l p zero = []
listed l p (suc k) = at l p ∷ listed l (suc p) k

pub listed_within : (l : List ℕ) (p k i : ℕ) → i < k → at l (p + i) ≡ at (listed l p k) i
listed_within l p zero i h = absurd (omega arith)
listed_within l p (suc k) zero h = ap (at l) (omega arith)
listed_within l p (suc k) (suc i) h = ap (at l) (omega arith) ∙ listed_within l (suc p) k i (omega arith)

listed_behind : (l : List ℕ) (p k i : ℕ) → k ≤ i → at (listed l p k) i ≡ 0
listed_behind l p zero i h = refl
listed_behind l p (suc k) zero h = absurd (omega arith)
listed_behind l p (suc k) (suc i) h = listed_behind l (suc p) k i (omega arith)

-- an object's numbers that are 0 from k on are the first k followed by zeros
zeros_behind : (l : List ℕ) (k : ℕ) → zeros_from l k ≡ true → (i : ℕ) → i < object_size → at l i ≡ at (listed l 0 k) i
zeros_behind l k t i lt = by (dec_lt i k)
  where
    by : Dec (i < k) → at l i ≡ at (listed l 0 k) i
    by (yes a) = ap (at l) (omega arith) ∙ listed_within l 0 k i a
    by (no a) =
        let e : i ≡ k + (i - k) = omega arith in
        ap (at l) e ∙ eqb-true (at l (k + (i - k))) 0 (each (object_size - k) (λ j. eqb (at l (k + j)) 0) t (i - k) (omega arith)) ∙ sym (listed_behind l 0 k i (omega arith))

-- an object's numbers are of 32 bits
abbrev pub Small : List ℕ → Type 0
Small l = (k : ℕ) → k < object_size → at l k < 2 ^ 32

-- a DC's numbers, from the DC
abbrev pub numbers_of : Dc → List ℕ
numbers_of d = dc_numbers d (complement32 d.pos_x) (complement32 d.pos_y)

dc_listed : (l : List ℕ) → Small l → is_dc l ≡ true → listed l 0 dc_size ≡ numbers_of (dc_fields l)
unfolding is_dc dc_fields
dc_listed l small t =
    let chosen : Bool = flag_of (at l present_in) || (eqb (at l present_in) 0 && eqb (at l bitmap_in) 0) in
    let a = both (is_flag (at l surface_in)) (is_flag (at l bk_transparent_in) && chosen) t in
    let b = both (is_flag (at l bk_transparent_in)) chosen a.1 in
    rw (
      ← surface_number_lem (at l surface_in) (leb-true (at l surface_in) 1 a.0),
      ← present_number_lem (at l present_in) (at l bitmap_in) b.1,
      ← bitmap_number_lem (at l present_in) (at l bitmap_in) b.1,
      ← flag_number_lem (at l bk_transparent_in) (leb-true (at l bk_transparent_in) 1 b.0),
      ← complement_back (at l pos_x_in) (small pos_x_in (omega arith)),
      ← complement_back (at l pos_y_in) (small pos_y_in (omega arith)),
    )

pub dc_back : (l : List ℕ) → Small l → is_dc l ≡ true → (i : ℕ) → i < dc_size → at l i ≡ at (numbers_of (dc_fields l)) i
dc_back l small t i lt = zeros_behind l dc_size refl i lt ∙ ap (λ (d : List ℕ). at d i) (dc_listed l small t)

-- an object's numbers, from the object; the numbers past these are 0
abbrev pub object_numbers : GdiObject → List ℕ
object_numbers (DcOf d) = numbers_of d
object_numbers (Bitmap x) = x.width ∷ x.height ∷ flag_number x.host_dirty ∷ []
object_numbers (Brush x) = x.color.0 ∷ []
object_numbers (Pen x) = x.color.0 ∷ x.width ∷ []
object_numbers (Font x) = complement32 x.height ∷ []

pub unknown_kind : (k : ℕ) (l : List ℕ) → is_object (suc (suc (suc (suc (suc k))))) l ≡ true → ⊥
unknown_kind k l t = true≢false (sym t ∙ sym (no_kind (suc (suc (suc (suc (suc k))))) l (λ e. omega arith) (λ e. omega arith) (λ e. omega arith) (λ e. omega arith) (λ e. omega arith)))

pub kind_back : (k : ℕ) (l : List ℕ) → is_object k l ≡ true → k ≡ kind_number (object_of k l)
unfolding is_object object_of
kind_back zero l t = refl
kind_back (suc zero) l t = refl
kind_back (suc (suc zero)) l t = refl
kind_back (suc (suc (suc zero))) l t = refl
kind_back (suc (suc (suc (suc zero)))) l t = refl
kind_back (suc (suc (suc (suc (suc k))))) l t = absurd (unknown_kind k l t)

pub object_back : (k : ℕ) (l : List ℕ) → Small l → is_object k l ≡ true → (i : ℕ) → i < object_size → at l i ≡ at (object_numbers (object_of k l)) i
unfolding is_object object_of
object_back zero l b t i lt = dc_back l b t i lt
object_back (suc zero) l b t i lt =
    let a = both (is_flag (at l bitmap_dirty_in)) (zeros_from l bitmap_size) t in
    zeros_behind l bitmap_size a.1 i lt ∙ ap (λ (n : ℕ). at (at l bitmap_width_in ∷ at l bitmap_height_in ∷ n ∷ []) i) (flag_number_lem (at l bitmap_dirty_in) (leb-true (at l bitmap_dirty_in) 1 a.0))
object_back (suc (suc zero)) l b t i lt = zeros_behind l brush_size t i lt
object_back (suc (suc (suc zero))) l b t i lt = zeros_behind l pen_size t i lt
object_back (suc (suc (suc (suc zero)))) l b t i lt = zeros_behind l font_size t i lt ∙ ap (λ (n : ℕ). at (n ∷ []) i) (complement_back (at l font_height_in) (b font_height_in (omega arith)))
object_back (suc (suc (suc (suc (suc k))))) l b t i lt = absurd (unknown_kind k l t)
