-- The steps of locating a bitmap among numbers, and the panel's place. Assumes nothing.
use Rattle.std.specs.Prelude.{Some, None}
use mathlib.Core.Bool.{true}
use mathlib.Core.List.{List}
use mathlib.Core.Path.{◌≡◌, refl, sym, ◌∙◌, ap, ap₂}
use Prim.Native.Nat.{ℕ, ◌+◌, ◌-◌, ◌≤◌, ◌<◌}
use native.Mathlib.Omega.{arith}
use Rattle.words.specs.Parts.{part}
use Rattle.gdi.specs.declared.GdiObject.{GdiObject}
use Rattle.gdi.specs.Record.{bytes_of}
use Rattle.gdi.specs.Lookup.{handle_at, scan, find_of}
use Rattle.gdi.proofs.Scan.{hit as scan-hit, miss as scan-miss, end as scan-end, start as scan-first}
use Rattle.numbers.specs.Layout.{object_size, width_place, height_place, count_place, slot_place, kind_place, object_place}
use Rattle.numbers.specs.Block.{at}
use Rattle.numbers.specs.View.{view, is_record}
use Rattle.numbers.proofs.Seen.{bitmap_height_place, part_first, part_second, object_bitmap, by_kind, count_seen, handle_seen, object_seen}
use Rattle.sound.specs.Sound.{object_fits, start_of, is_sound}
use Rattle.sound.proofs.Bytes.{start_none, start_more}
use Rattle.sound.proofs.Sound.{parts, room}
use Rattle.sound.proofs.Objects.{object_from}
use Rattle.sound.proofs.Slots.{fits_seen, bytes_seen}
use Rattle.place.specs.declared.Memory.TheVariants.{Panel as PanelMemory, Store}
use Rattle.place.specs.declared.Place.{Place}
use Rattle.place.specs.declared.Place.TheVariants.{Nowhere, At}
use Rattle.place.specs.declared.Site.{Site}
use Rattle.place.specs.declared.SurfaceId.{SurfaceId}
use Rattle.place.specs.declared.SurfaceId.TheVariants.{Panel}
use Rattle.place.specs.Place.{live, place_from, locate}
use Rattle.place.specs.Inner.{Located, SiteFound}
use Rattle.place.proofs.Places.{located_from, start as at_start, miss, end, site, located, placed_panel}

module _ (l : List ℕ) (p start : ℕ) where
  pub frame_bitmap : at l (p + kind_place) ≡ 1 → At Store start (at l (p + object_place)) (at l (p + bitmap_height_place)) ≡ place_from (object_from l p) start
  frame_bitmap e = rw (object_bitmap (at l (p + kind_place)) (part l (p + object_place) object_size) e, part_first l (p + object_place), part_second l p)

  pub frame_other : (at l (p + kind_place) ≡ 1 → ⊥) → Nowhere ≡ place_from (object_from l p) start
  frame_other b =
      by_kind (at l (p + kind_place)) (part l (p + object_place) object_size) (λ o. Nowhere ≡ place_from o start) (λ e. refl) (λ e. absurd (b e)) (λ x. refl) (λ x. refl) (λ x. refl)

-- the search from slot i on, at the start of its pixels, finds what the whole search finds
pub record Sought (l : List ℕ) (h i start : ℕ) : Type 0 where
  pub begin : start ≡ start_of (view l) i
  pub place : located_from (view l) h i start ≡ locate (live (view l)) 2 h
  pub slot : scan (view l).objects h i ((view l).count - i) ≡ find_of (view l) h

pub sought_first : (l : List ℕ) (h : ℕ) → Sought l h 0 2
sought_first l h = record { begin = start_none (view l); place = at_start (view l) h; slot = scan-first (view l).objects h 0 (view l).count refl }

module _ (l : List ℕ) (r : is_record l ≡ true) (s : is_sound (view l) ≡ true) where
  module _ (i : ℕ) (lt : i < at l count_place) where
    below : i < (view l).count
    below = rw (count_seen l) lt

    pub object_sound : object_fits (object_from l (slot_place i)) ≡ true
    object_sound = fits_seen l r i lt (parts (view l) s).slots

    module _ {h start : ℕ} (inv : Sought l h i start) where
      -- the object with the handle was found in slot i, at the start of its pixels
      pub located_seen : {q : Place} → at l (slot_place i) ≡ h → q ≡ place_from (object_from l (slot_place i)) start → Located (view l) h (site q (Some i))
      located_seen f g =
          let e = handle_seen l r i lt ∙ f in
          located (view l) s h i start below e inv.begin inv.place (sym (scan-hit _ _ _ _ below e) ∙ inv.slot)
          (g ∙ ap (λ (o : GdiObject). place_from o start) (sym (object_seen l r i lt)))

      module _ {x : ℕ} (b : x ≡ bytes_of (object_from l (slot_place i))) where
        pub next_small : start + x ≤ 33554432
        next_small =
            let q = parts (view l) s in
            omega (arith, q.store_len, q.store, inv.begin, bytes_seen l r i lt b, room q i below)

        pub sought_next : (at l (slot_place i) ≡ h → ⊥) → Sought l h (i + 1) (start + x)
        sought_next ne =
            let other : handle_at (view l).objects i ≡ h → ⊥ = λ f. ne (sym (handle_seen l r i lt) ∙ f) in
            record {
              begin = start_more (view l) i inv.begin (bytes_seen l r i lt b);
              place = miss (view l) h i start below other (bytes_seen l r i lt b) ∙ inv.place;
              slot = sym (scan-miss _ _ _ _ below other) ∙ inv.slot;
            }

-- nothing was found
pub end_seen : (l : List ℕ) {h i start : ℕ} {q : Site} → at l count_place ≤ i → Sought l h i start → q ≡ site Nowhere None → Located (view l) h q
end_seen l {h} {i} {start} le inv e =
    let past : (view l).count ≤ i = rw (count_seen l) le in
    rw e (record { same = ap₂ site (end (view l) h i start past ∙ inv.place) (sym (scan-end _ _ _ _ past) ∙ inv.slot); within = tt })

pub panel_seen : (l : List ℕ) {u : SurfaceId} {q : Site} → is_sound (view l) ≡ true → u ≡ Panel → q ≡ site (At PanelMemory 0 (at l width_place) (at l height_place)) None → SiteFound (view l) u q
unfolding view
panel_seen l s e f = rw f (placed_panel (view l) s e)
