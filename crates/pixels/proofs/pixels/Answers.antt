-- `pixels::pixels` meets its contract. Assumes nothing.
use native.Mathlib.Omega.{arith}
use Rattle.pixels.proofs.Parts.{area, panel_fits, store_fits, no_pixels, panel_part, store_part}
use Rattle.pixels.proofs.pixels.Goals as goal

pub overflow_mul-n : goal.overflow_mul-n
overflow_mul-n c =
    omega (arith, area c.place_of-at.ensures c.in-At.is)

pub overflow_mul-n-in-At : goal.overflow_mul-n-in-At
overflow_mul-n-in-At c =
    omega (arith, area c.place_of-at.ensures c.in-At.is)

pub overflow_add-result : goal.overflow_add-result
overflow_add-result c =
    omega (arith, panel_fits c.place_of-at.ensures c.in-At.is c.in-Panel.is)

pub slice_bounds-result-end-in-Panel : goal.slice_bounds-result-end-in-Panel
slice_bounds-result-end-in-Panel c =
    omega (arith, panel_fits c.place_of-at.ensures c.in-At.is c.in-Panel.is)

pub overflow_add-result-in-Store : goal.overflow_add-result-in-Store
overflow_add-result-in-Store c =
    omega (arith, store_fits c.place_of-at.ensures c.in-At.is c.in-Store.is)

pub slice_bounds-result-end-in-Store : goal.slice_bounds-result-end-in-Store
slice_bounds-result-end-in-Store c =
    omega (arith, store_fits c.place_of-at.ensures c.in-At.is c.in-Store.is)

pub returns-in-Nowhere : goal.returns-in-Nowhere
returns-in-Nowhere c =
    let s = c.args in
    record {
      result_value = (no_pixels s.panel s.store c.place_of-at.ensures c.in-Nowhere.is).0;
      place = (no_pixels s.panel s.store c.place_of-at.ensures c.in-Nowhere.is).1;
    }

pub returns-in-Panel : goal.returns-in-Panel
returns-in-Panel c =
    let s = c.args in
    record {
      result_value = (panel_part s.panel s.store c.place_of-at.ensures c.in-At.is c.in-Panel.is).0;
      place = (panel_part s.panel s.store c.place_of-at.ensures c.in-At.is c.in-Panel.is).1;
    }

pub returns-in-Store : goal.returns-in-Store
returns-in-Store c =
    let s = c.args in
    record {
      result_value = (store_part s.panel s.store c.place_of-at.ensures c.in-At.is c.in-Store.is).0;
      place = (store_part s.panel s.store c.place_of-at.ensures c.in-At.is c.in-Store.is).1;
    }
