-- `pixels::pixels_mut` meets its contract. Assumes nothing.
use mathlib.Core.List.{List}
use Prim.Native.Nat.{ℕ}
use native.Mathlib.Omega.{arith}
use denote.Ref.{Bor, MutBor}
use Rattle.pixels.proofs.Parts.{area, panel_fits, store_fits, no_pixels, panel_part, store_part}
use Rattle.pixels.proofs.pixels_mut.Goals as goal

-- a lent memory as it was lent, as the lemmas on places take it
abbrev read : MutBor (List ℕ) → Bor (List ℕ)
read m = record { ref_ptr = m.ref_ptr; now = m.now }

pub overflow_mul-n : goal.overflow_mul-n
overflow_mul-n c =
    omega (arith, area c.place_of-at.ensures c.in-At.is)

pub overflow_mul-n-in-At : goal.overflow_mul-n-in-At
overflow_mul-n-in-At c =
    omega (arith, area c.place_of-at.ensures c.in-At.is)

pub overflow_add-result : goal.overflow_add-result
overflow_add-result c =
    omega (arith, panel_fits c.place_of-at.ensures c.in-At.is c.in-Panel.is)

pub slice_bounds-panel-end-in-Panel : goal.slice_bounds-panel-end-in-Panel
slice_bounds-panel-end-in-Panel c =
    omega (arith, panel_fits c.place_of-at.ensures c.in-At.is c.in-Panel.is)

pub overflow_add-result-in-Store : goal.overflow_add-result-in-Store
overflow_add-result-in-Store c =
    omega (arith, store_fits c.place_of-at.ensures c.in-At.is c.in-Store.is)

pub slice_bounds-store-end : goal.slice_bounds-store-end
slice_bounds-store-end c =
    omega (arith, store_fits c.place_of-at.ensures c.in-At.is c.in-Store.is)

pub returns-in-Nowhere : goal.returns-in-Nowhere
returns-in-Nowhere c =
    let i = no_pixels (read c.args.panel) (read c.args.store) c.place_of-at.ensures c.in-Nowhere.is in record { result_value = i.0; place = i.1 }

pub returns-in-Panel : goal.returns-in-Panel
returns-in-Panel c =
    let i = panel_part (read c.args.panel) (read c.args.store) c.place_of-at.ensures c.in-At.is c.in-Panel.is in record { result_value = i.0; place = i.1 }

pub returns-in-Store : goal.returns-in-Store
returns-in-Store c =
    let i = store_part (read c.args.panel) (read c.args.store) c.place_of-at.ensures c.in-At.is c.in-Store.is in record { result_value = i.0; place = i.1 }
