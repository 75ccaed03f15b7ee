-- The cases of a load on a ready device, each as its plan says. Assumes nothing.
use mathlib.Core.Bool.{Bool, false, cond}
use mathlib.Core.List.{List}
use mathlib.Core.Path.{◌≡◌, refl, sym, ap, ap₂, subst}
use Prim.Native.Nat.{ℕ, ◌-◌, ◌≤◌, ◌<◌}
use native.Mathlib.Omega.{arith}
use lib.Dec.{leb}
use borrow.Author.Tests.{le-leb, lt-leb}
use Rattle.arithmetic.proofs.Test.{together, not_left, not_right}
use Rattle.memory.specs.Gap.{blanked}
use Rattle.gdi.specs.declared.GdiState.{GdiState}
use Rattle.gdi.specs.Record.{size}
use Rattle.numbers.specs.View.{view, Updated}
use Rattle.sound.specs.Sound.{used, sizes_fit}
use Rattle.saved_table.specs.Held.{record_held, held_by, is_table}
use Rattle.ready.proofs.Ready.{Lent}
use Rattle.place.specs.declared.SurfaceId.TheVariants.{Panel}
use Rattle.dirty.specs.Dirty.{dirtied}
use Rattle.dirty.proofs.Still.{dirtied_count}
use Rattle.paint.specs.Memories.{memories}
use Rattle.paint.specs.Paint.{painted_by, after}
use Rattle.plan.specs.Answer.{done}
use Rattle.plan.specs.Plan.{Plan, refuse}
use Rattle.plan.specs.Load.{loaded, load_table}
use Rattle.plan.specs.Followed.{Followed}
use Rattle.plan.proofs.Followed.{acceptance, updated_twice}
use Rattle.load.specs.declared.Sizes.{Sizes}
use Rattle.load.specs.Inner.{TableSizes}

module _ (l bytes : List ℕ) {n k : ℕ} (lent : Lent l n k) where
  pub not_table : ((b : GdiState) → is_table b bytes ≡ false) → load_table (view l) bytes ≡ refuse 12 (view l)
  unfolding load_table
  not_table never = rw (never (view l))

  module _ {s : Sizes} (sizes : TableSizes bytes s) where
    -- the device's memory lengths
    panel_len : (held_by (view l) bytes).panel_len ≡ n
    unfolding record_held
    panel_len = sym lent.ready.panel

    store_len : (held_by (view l) bytes).store_len ≡ k
    unfolding record_held
    store_len = sym lent.ready.store

    abbrev b : GdiState
    b = held_by (view l) bytes

    by_sizes : {t : Bool} → sizes_fit (held_by (view l) bytes) ≡ t → load_table (view l) bytes ≡ cond t (loaded (held_by (view l) bytes)) (refuse 7 (view l))
    unfolding load_table
    by_sizes e = rw (sizes.table (view l), e)

    pub short_panel : n < s.panel → load_table (view l) bytes ≡ refuse 7 (view l)
    short_panel lt = by_sizes (not_left (leb (used b) b.store_len) (lt-leb (size b.width b.height) b.panel_len (omega (arith, sizes.panel (view l), panel_len))))

    pub short_store : k < s.end → load_table (view l) bytes ≡ refuse 7 (view l)
    short_store lt = by_sizes (not_right (leb (size b.width b.height) b.panel_len) (lt-leb (used b) b.store_len (omega (arith, sizes.end (view l), store_len))))

    module _ (wide : s.panel ≤ n) (long : s.end ≤ k) where
      accepted : load_table (view l) bytes ≡ loaded (held_by (view l) bytes)
      accepted = by_sizes (together (le-leb (size b.width b.height) b.panel_len (omega (arith, sizes.panel (view l), panel_len)))
          (le-leb (used b) b.store_len (omega (arith, sizes.end (view l), store_len))))

      pub table_loaded : {l₁ l' panel panel' store store' : List ℕ} → panel' ≡ blanked panel 0 s.panel → store' ≡ blanked store 2 (k - 2)
          → Updated l (held_by (view l) bytes) l₁ → Updated l₁ (dirtied (view l₁) Panel) l' → Followed (load_table (view l) bytes) l (memories panel store) done l' (memories panel' store')
      unfolding after painted_by
      table_loaded {l₁} {l'} {panel} {panel'} {store} {store'} p q read mark =
          acceptance refl (ap (λ (x : Plan). x.outcome) accepted)
          (updated_twice (dirtied_count (held_by (view l) bytes) Panel) read (subst (λ (b : GdiState). Updated l₁ (dirtied b Panel) l') read.same mark))
          (rw accepted (rw (← sizes.panel (view l), store_len) (ap₂ memories p q)))
