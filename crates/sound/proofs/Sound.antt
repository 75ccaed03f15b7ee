-- What a sound record has, part by part. Assumes nothing.
use mathlib.Core.Bool.{Bool, true, false, not, ◌&&◌, false≢true}
use mathlib.Core.List.{List}
use mathlib.Core.Path.{◌≡◌, refl, sym, ◌∙◌}
use Prim.Native.Nat.{ℕ, ◌+◌, ◌<◌, ◌≤◌}
use native.Mathlib.Decide.{dec_lt}
use native.Mathlib.Omega.{arith}
use lib.Dec.{eqb, leb}
use lib.ListN.{length, get_or-eq_default}
use borrow.Author.Tests.{le-leb, leb-true, eqb-false, not-true}
use Rattle.arithmetic.proofs.Test.{both, each}
use Rattle.arithmetic.proofs.Sum.{sum_le}
use Rattle.surface.specs.Refusal.{side}
use Rattle.gdi.specs.declared.Slot.{Slot}
use Rattle.gdi.specs.declared.GdiState.{GdiState}
use Rattle.gdi.specs.Record.{no_slot, size, bytes_of}
use Rattle.gdi.specs.Lookup.{slot_at, handle_at, object_at}
use Rattle.sound.specs.Sound.{limit, positioned, object_fits, slot_fits, slots_fit, absent, distinct, start_of, used, sound_except_sizes, is_sound}
use Rattle.sound.proofs.Bytes.{fits_below}

-- the parts of soundness
pub record Sound (b : GdiState) : Type 0 where
  pub panel_len : b.panel_len ≤ limit
  pub store_len : b.store_len ≤ limit
  pub count : b.count ≤ 256
  pub width : side b.width ≡ true
  pub height : side b.height ≡ true
  pub panel : size b.width b.height ≤ b.panel_len
  pub screen : positioned b.screen ≡ true
  pub slots : slots_fit b ≡ true
  pub apart : distinct b.objects b.count ≡ true
  pub store : used b ≤ b.store_len

and_l : (a b : Bool) → (a && b) ≡ true → a ≡ true
and_l a b e = (both a b e).0

and_r : (a b : Bool) → (a && b) ≡ true → b ≡ true
and_r a b e = (both a b e).1

pub parts : (b : GdiState) → is_sound b ≡ true → Sound b
unfolding is_sound
parts b e =
    record {
      panel_len = leb-true _ _ (and_l _ _ e);
      store_len = leb-true _ _ (search (and_l, and_r) depth 12);
      count = leb-true _ _ (search (and_l, and_r) depth 12);
      width = search (and_l, and_r) depth 12;
      height = search (and_l, and_r) depth 12;
      panel = leb-true _ _ (search (and_l, and_r) depth 12);
      screen = search (and_l, and_r) depth 12;
      slots = search (and_l, and_r) depth 12;
      apart = search (and_l, and_r) depth 12;
      store = leb-true _ _ (search (and_l, and_r) depth 12);
    }

-- the parts of soundness except for the memory sizes
pub record ExceptSizes (b : GdiState) : Type 0 where
  pub count : b.count ≤ 256
  pub width : side b.width ≡ true
  pub height : side b.height ≡ true
  pub screen : positioned b.screen ≡ true
  pub slots : slots_fit b ≡ true
  pub apart : distinct b.objects b.count ≡ true

pub parts_except : (b : GdiState) → sound_except_sizes b ≡ true → ExceptSizes b
parts_except b e =
    record {
      count = leb-true _ _ (and_l _ _ e);
      width = search (and_l, and_r) depth 12;
      height = search (and_l, and_r) depth 12;
      screen = search (and_l, and_r) depth 12;
      slots = search (and_l, and_r) depth 12;
      apart = search (and_l, and_r) depth 12;
    }

pub whole_except : (b : GdiState) → ExceptSizes b → sound_except_sizes b ≡ true
whole_except b s = rw (le-leb _ _ s.count, s.width, s.height, s.screen, s.slots, s.apart)

pub except_of : {b : GdiState} → Sound b → ExceptSizes b
except_of s = record { count = s.count; width = s.width; height = s.height; screen = s.screen; slots = s.slots; apart = s.apart }

-- the last test, where the other parts hold
pub sound_if_room : (b : GdiState) {at : ℕ} → b.panel_len ≤ limit → b.store_len ≤ limit → b.count ≤ 256
    → side b.width ≡ true → side b.height ≡ true → size b.width b.height ≤ b.panel_len
    → positioned b.screen ≡ true → slots_fit b ≡ true → distinct b.objects b.count ≡ true → at ≡ used b → leb at b.store_len ≡ is_sound b
unfolding is_sound
sound_if_room b p s c w h m o f d e = rw (le-leb _ _ p, le-leb _ _ s, le-leb _ _ c, w, h, le-leb _ _ m, o, f, d, e)

pub whole : (b : GdiState) → Sound b → is_sound b ≡ true
whole b s = sym (sound_if_room b s.panel_len s.store_len s.count s.width s.height s.panel s.screen s.slots s.apart refl) ∙ le-leb _ _ s.store

-- a record that lacks a part
pub unsound : (b : GdiState) → (Sound b → ⊥) → false ≡ is_sound b
unsound b f = by (is_sound b) refl
  where
    by : (t : Bool) → is_sound b ≡ t → false ≡ t
    by true e = absurd (f (parts b e))
    by false e = refl

-- the objects
pub fits_at : {b : GdiState} → Sound b → (i : ℕ) → i < b.count → object_fits (object_at b i) ≡ true
fits_at {b} s i lt = fits_below b s.slots i lt

pub room : {b : GdiState} → Sound b → (i : ℕ) → i < b.count → start_of b i + bytes_of (object_at b i) ≤ used b
room {b} s i lt = omega (arith, sum_le (λ k. bytes_of (object_at b k)) i b.count lt)

-- different objects have different handles
pub handles_apart : (l : List Slot) (j k n : ℕ) → distinct l n ≡ true → j < k → k < n → handle_at l j ≡ handle_at l k → ⊥
handles_apart l j k n d a c =
    eqb-false (handle_at l j) (handle_at l k)
    (not-true _ (each k (λ i. not (eqb (handle_at l i) (handle_at l k))) (each n (λ i. absent l i (handle_at l i)) d k c) j a))

-- an element past the end is unsound, so the table is long enough
pub table_long : {b : GdiState} → Sound b → b.count ≤ length b.objects
table_long {b} s = by (dec_lt (length b.objects) b.count)
  where
    none : length b.objects < b.count → slot_fits no_slot ≡ true
    none lt =
        rw (get_or-eq_default b.objects no_slot {n = length b.objects} (omega arith)) at
        (each b.count (λ i. slot_fits (slot_at b i)) s.slots (length b.objects) lt)

    by : Dec (length b.objects < b.count) → b.count ≤ length b.objects
    by (yes lt) = absurd (false≢true (none lt))
    by (no le) = omega arith
