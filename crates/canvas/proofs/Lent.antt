-- A surface's part of one of the two memories, as it is lent to an operation. Assumes nothing.
use mathlib.Core.Bool.{Bool, false}
use mathlib.Core.List.{List}
use mathlib.Core.Path.{◌≡◌, ◌∙◌}
use Prim.Native.Nat.{ℕ, ◌+◌, ◌-◌}
use native.Mathlib.Omega.{arith}
use lib.ListN.{length}
use lib.Seq.{drop-drop}
use borrow.Rule.Slice.PartMut.{put_mid}
use Rattle.words.specs.Parts.{part}
use Rattle.words.proofs.Parts.{length_part}
use Rattle.surface.proofs.Accepted.{InOrder}
use Rattle.gdi.specs.Record.{size}
use Rattle.place.specs.declared.Memory.{Memory}
use Rattle.place.specs.declared.Memory.TheVariants.{Panel, Store}
use Rattle.place.specs.declared.Place.{Place}
use Rattle.place.specs.declared.Place.TheVariants.{Nowhere, At}
use Rattle.place.specs.Place.{Inside}
use Rattle.paint.specs.Memories.{Memories, memories, width_of, over}
use Rattle.plan.specs.Drawing.{marks_at}

-- the part from p to its end has the surface's size
module _ (l : List ℕ) (p w h : ℕ) (i : Inside (length l) p w h) where
  exact : length (part l p (p + size w h - p)) ≡ size w h
  exact =
      let k : p + size w h - p ≡ size w h = omega arith in
      rw k (length_part l p (size w h) i.fits)

  pub lent_in_order : InOrder w h (length (part l p (p + size w h - p)))
  lent_in_order = record { some = i.some; wide = i.wide; some_rows = i.some_rows; high = i.high; long = exact }

-- a surface that is nowhere: no mark, no byte
module _ {at : Place} (e : at ≡ Nowhere) where
  pub no_mark : (f : (width height : ℕ) → Bool) → false ≡ marks_at at f
  no_mark f = rw e

  pub no_byte : (f : (width : ℕ) → List ℕ → List ℕ) (ms : Memories) → ms ≡ over at (f (width_of at)) ms
  no_byte f ms = rw e

-- a surface at its place
module _ {at : Place} {m : Memory} {p w h : ℕ} (e : at ≡ At m p w h) where
  pub mark_at : {t : Bool} (f : (width height : ℕ) → Bool) → t ≡ f w h → t ≡ marks_at at f
  mark_at f q = q ∙ rw e

  -- the memories after an operation that replaces a surface's bytes by f of its width and bytes
  module _ (f : (width : ℕ) → List ℕ → List ℕ) (panel store : List ℕ) {ys : List ℕ} where
    pub back_in_panel : m ≡ Panel → ys ≡ f w (part panel p (p + size w h - p))
        → memories (put_mid p (p + size w h - p) panel ys) store ≡ over at (f (width_of at)) (memories panel store)
    back_in_panel g q =
        let k : p + size w h - p ≡ size w h = omega arith in
        rw (q, k, drop-drop, e, g)

    pub back_in_store : m ≡ Store → ys ≡ f w (part store p (p + size w h - p))
        → memories panel (put_mid p (p + size w h - p) store ys) ≡ over at (f (width_of at)) (memories panel store)
    back_in_store g q =
        let k : p + size w h - p ≡ size w h = omega arith in
        rw (q, k, drop-drop, e, g)
