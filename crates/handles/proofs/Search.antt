-- The steps of the search for a free handle, the cases of its test, and the record with an appended object. Assumes nothing.
use Rattle.std.proofs.Common.{◌≡◌, ℕ, suc, ◌+◌, ◌-◌, ◌<◌, ◌≤◌, Bool, true, false, List, add-one, arith, eq-eqb, ne_eqb}
use Rattle.gdi.specs.declared.Slot.{Slot}
use Rattle.gdi.specs.Stock.{is_stock}
use Rattle.sound.specs.Sound.{absent}
use Rattle.handles.specs.Handles.{free, ahead, first_free, tries}

-- the cases of the test
module _ (l : List Slot) (n h : ℕ) where
  pub zero_taken : h ≡ 0 → false ≡ free l n h
  unfolding free
  zero_taken e = rw (eq-eqb _ _ e)

  module _ (ne : h ≡ 0 → ⊥) where
    pub stock_taken : is_stock h ≡ true → false ≡ free l n h
    unfolding free
    stock_taken e = rw (ne_eqb _ _ ne, e)

    pub by_absent : {r : Bool} → is_stock h ≡ false → r ≡ absent l n h → r ≡ free l n h
    unfolding free
    by_absent e f = rw (ne_eqb _ _ ne, e) f

-- the steps of the search, as the loop of `alloc_handle` makes them
module _ (l : List Slot) (n h i : ℕ) where
  pub hit : i < tries → free l n (ahead h i) ≡ true → first_free l n h i (tries - i) ≡ ahead h i
  unfolding first_free
  hit lt e = let m : tries - i ≡ suc (tries - (i + 1)) = omega arith in rw (m, e)

  pub miss : i < tries → free l n (ahead h i) ≡ false → first_free l n h i (tries - i) ≡ first_free l n h (i + 1) (tries - (i + 1))
  unfolding first_free
  miss lt e = let m : tries - i ≡ suc (tries - (i + 1)) = omega arith in rw (m, e, add-one)

  pub end : tries ≤ i → first_free l n h i (tries - i) ≡ ahead h i
  unfolding first_free
  end le = let m : tries - i ≡ 0 = omega arith in rw m
