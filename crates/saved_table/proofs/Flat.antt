-- A sound flat record fits the fields of its table. Assumes nothing.
use Rattle.std.specs.Prelude.{Option, None, Some}
use mathlib.Core.Bool.{Bool, true, false, cond, true≢false}
use mathlib.Core.List.{List}
use mathlib.Core.Path.{◌≡◌, refl, sym, ◌∙◌, ap}
use Prim.Native.Nat.{ℕ, zero, suc, ◌+◌, ◌<◌, ◌^◌}
use native.Mathlib.Decide.{dec_lt}
use native.Mathlib.Omega.{arith}
use lib.Dec.{leb}
use lib.ListN.{drop, length-take, get_or-eq_default}
use borrow.Author.Tests.{leb-true}
use Rattle.arithmetic.proofs.Test.{both}
use Rattle.words.specs.Parts.{part}
use Rattle.bigendian.specs.BigEndian.{signed32}
use Rattle.surface.specs.Refusal.{side}
use Rattle.gdi.specs.declared.DcSurface.{DcSurface}
use Rattle.gdi.specs.declared.DcSurface.TheVariants.{Screen, Memory}
use Rattle.gdi.specs.declared.GdiObject.TheVariants.{Dc as DcOf}
use Rattle.gdi.specs.declared.Slot.{Slot}
use Rattle.gdi.specs.Lookup.{slot_at}
use Rattle.numbers.specs.Layout.{dc_size, object_size, slot_size, kind_place, object_place, screen_place, slot_place, next_handle_place}
use Rattle.numbers.specs.Block.{at, flag_of, flag_number, surface_of, bitmap_of, present_number, bitmap_number, complement32, dc_fields, object_of, is_object, slot_of, is_slot}
use Rattle.numbers.specs.View.{view, is_record}
use Rattle.numbers.proofs.Block.{flag_back}
use Rattle.numbers.proofs.Record.{parts}
use Rattle.numbers.proofs.Seen.{part_at}
use Rattle.numbers.proofs.View.{slot_seen}
use Rattle.canonical.proofs.Objects.{complement_back, unknown_kind}
use Rattle.sound.specs.Sound.{is_memory, object_fits}
use Rattle.sound.proofs.Sound.{ExceptSizes}
use Rattle.sound.proofs.Bytes.{fits_below}
use Rattle.saved_table.specs.Table.{head_widths, head_values}
use Rattle.saved_table.proofs.Restored.{Fit, DcFits, ObjectFits, Fits}

-- numbers of 32 bits
abbrev Small : List ℕ → Type 0
Small q = (k : ℕ) → at q k < 2 ^ 32

flag_small : (f : Bool) → flag_number f < 2
flag_small true = omega arith
flag_small false = omega arith

present_small : (b : Option ℕ) → present_number b < 2
present_small None = omega arith
present_small (Some h) = omega arith

bitmap_small : (n h : ℕ) → h < 2 ^ 32 → bitmap_number (bitmap_of n h) < 2 ^ 32
bitmap_small n h lt = by (flag_of n)
  where
    by : (t : Bool) → bitmap_number (cond t (Some h) None) < 2 ^ 32
    by true = lt
    by false = omega arith

bitmap_again : (b : Option ℕ) → bitmap_of (present_number b) (bitmap_number b) ≡ b
bitmap_again None = refl
bitmap_again (Some h) = refl

signed_again : (n : ℕ) → n < 2 ^ 32 → signed32 (complement32 (signed32 n)) ≡ signed32 n
signed_again n lt = ap signed32 (sym (complement_back n lt))

signed_small : (n : ℕ) → n < 2 ^ 32 → complement32 (signed32 n) < 2 ^ 32
signed_small n lt = omega (arith, complement_back n lt, lt)

side_small : (n : ℕ) → side n ≡ true → n < 2 ^ 13
side_small n e = omega (arith, leb-true n 4096 (both (leb 1 n) (leb n 4096) e).1)

-- a DC whose surface has this number
dc_fits : (surface : ℕ) (q : List ℕ) → Small q → surface_of surface ≡ (dc_fields q).surface → DcFits surface (dc_fields q)
unfolding dc_fields
dc_fits surface q small e =
    record {
      values = (
        present_small (bitmap_of (at q 1) (at q 2)),
        (
          bitmap_small (at q 1) (at q 2) (small 2),
          (
            small 3,
            (
              small 4,
              (
                small 5,
                (
                  small 6,
                  (
                    small 7,
                    (
                      small 8,
                      (
                        small 9,
                        (
                          small 10,
                          (flag_small (flag_of (at q 11)), (signed_small (at q 12) (small 12), (signed_small (at q 13) (small 13), tt))),
                        ),
                      ),
                    ),
                  ),
                ),
              ),
            ),
          ),
        ),
      );
      again = rw (e, bitmap_again (bitmap_of (at q 1) (at q 2)), flag_back (flag_of (at q 11)), signed_again (at q 12) (small 12), signed_again (at q 13) (small 13));
    }

is_memory_lem : (s : DcSurface) → is_memory s ≡ true → Memory ≡ s
is_memory_lem Screen e = absurd (true≢false (sym e))
is_memory_lem Memory e = refl

-- an object of a known kind that may be a created object
object_fits_lem : (kind : ℕ) (q : List ℕ) → Small q → is_object kind q ≡ true → object_fits (object_of kind q) ≡ true → ObjectFits (object_of kind q)
unfolding is_object object_of
object_fits_lem zero q small t f =
    let memory : Memory ≡ (dc_fields q).surface = is_memory_lem (dc_fields q).surface (both (is_memory (dc_fields q).surface) _ f).0 in
    let d = dc_fits 1 q small memory in
    record { values = d.values; again = ap DcOf d.again }
object_fits_lem (suc zero) q small t f =
    let (w, h) = both (side (at q 0)) (side (at q 1)) f in
    record { values = (side_small (at q 0) w, (side_small (at q 1) h, (flag_small (flag_of (at q 2)), tt))); again = rw (flag_back (flag_of (at q 2))) }
object_fits_lem (suc (suc zero)) q small t f = record { values = (small 0, tt); again = refl }
object_fits_lem (suc (suc (suc zero))) q small t f = record { values = (small 0, (small 1, tt)); again = refl }
object_fits_lem (suc (suc (suc (suc zero)))) q small t f = record { values = (signed_small (at q 0) (small 0), tt); again = rw (signed_again (at q 0) (small 0)) }
object_fits_lem (suc (suc (suc (suc (suc k))))) q small t f = absurd (unknown_kind k q t)

-- a part of numbers of 32 bits
part_small : (l : List ℕ) (p n : ℕ) → Small l → Small (part l p n)
part_small l p n small k = by (dec_lt k n)
  where
    by : Dec (k < n) → at (part l p n) k < 2 ^ 32
    by (yes lt) = rw (part_at l p n k lt) (small (p + k))
    by (no ge) = rw (get_or-eq_default (part l p n) 0 {n = k} (omega (arith, length-take n (drop p l)))) (omega arith)

module _ (l : List ℕ) (small : Small l) (good : is_record l ≡ true) (sound : ExceptSizes (view l)) (screens : (view l).screen.surface ≡ Screen) where
  slot_is : (i : ℕ) → i < (view l).count → slot_at (view l) i ≡ slot_of (part l (slot_place i) slot_size)
  unfolding view
  slot_is i lt = slot_seen l i lt (omega (arith, lt, (parts l good).few))

  head_fits : Fit head_widths (head_values (view l))
  head_fits =
      let next : (view l).next_handle < 2 ^ 32 = unfold view in small next_handle_place in
      (omega arith, (side_small (view l).width sound.width, (side_small (view l).height sound.height, (next, (omega (arith, sound.count), tt)))))

  screen_fits : DcFits 0 (view l).screen
  unfolding view
  screen_fits = dc_fits 0 (part l screen_place dc_size) (part_small l screen_place dc_size small) (sym screens)

  slot_fits_lem : (i : ℕ) → i < (view l).count → ObjectFits (slot_at (view l) i).object
  slot_fits_lem i lt =
      let q : List ℕ = part l (slot_place i) slot_size in
      let o : List ℕ = part q object_place object_size in
      let is_slot_lem : is_slot q ≡ true = unfold view in (parts l good).slots i lt in
      let fits : object_fits (slot_of q).object ≡ true = ap (λ (s : Slot). object_fits s.object) (sym (slot_is i lt)) ∙ fits_below (view l) sound.slots i lt in
      rw (slot_is i lt) (object_fits_lem (at q kind_place) o (part_small q object_place object_size (part_small l (slot_place i) slot_size small)) is_slot_lem fits)

  handle_small : (i : ℕ) → i < (view l).count → (slot_at (view l) i).handle < 2 ^ 32
  handle_small i lt = rw (slot_is i lt) (part_small l (slot_place i) slot_size small 0)

  pub flat_fits : Fits (view l)
  flat_fits = record { head = head_fits; screen = screen_fits; handles = handle_small; objects = slot_fits_lem }
