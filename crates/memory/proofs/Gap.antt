-- Laws of a list whose gap is closed: its elements, its parts, and that a move down and a fill close the gap. Assumes nothing.
use mathlib.Core.List.{List, [], ◌∷◌, ◌++◌, append_assoc}
use mathlib.Core.Path.{◌≡◌, refl, sym, ◌∙◌, ap}
use Prim.Native.Nat.{ℕ, suc, ◌+◌, ◌-◌, ◌≤◌, ◌<◌}
use native.Mathlib.Omega.{arith}
use lib.ListN.{length, take, drop, get_or, set, replicate, length-replicate, length-take, length-drop, length-append, take-append-drop, get_or-replicate, get_or-append}
use lib.Seq.{get_or-take, get_or-drop, get_or-append-add, ext_get_or, length-take-le, drop-drop, paste, paste-zero, paste-suc, take-paste, drop-paste}
use Rattle.memory.specs.Gap.{closed_up}

module _ {ℓ} {A : Type ℓ} (z : A) (l : List A) (p n used : ℕ) (gap : p + n ≤ used) (fits : used ≤ length l) where
  pub closed_length : length (closed_up z l p n used) ≡ length l
  closed_length = simp (length-append, length-take, length-drop, length-replicate) (omega arith)

  front : length (take p l) ≡ p
  front = length-take-le p l (omega arith)

  moved : length (take (used - (p + n)) (drop (p + n) l)) ≡ used - (p + n)
  moved = simp (length-take, length-drop) (omega arith)

  -- the elements before the gap, and after it
  pub closed_below : (d : A) (j : ℕ) → j < p → get_or (closed_up z l p n used) j d ≡ get_or l j d
  closed_below d j lt = get_or-append (take p l) _ d j (omega (arith, front)) ∙ get_or-take p l j d lt

  pub closed_above : (d : A) (j : ℕ) → p ≤ j → j + n < used → get_or (closed_up z l p n used) j d ≡ get_or l (j + n) d
  closed_above d j le lt =
      let e : j ≡ length (take p l) + (j - p) = omega (arith, front) in
      let f : p + n + (j - p) ≡ j + n = omega arith in
      ap (λ (i : ℕ). get_or (closed_up z l p n used) i d) e
      ∙ get_or-append-add (take p l) (take (used - (p + n)) (drop (p + n) l) ++ (replicate n z ++ drop used l)) (j - p) d
      ∙ get_or-append (take (used - (p + n)) (drop (p + n) l)) (replicate n z ++ drop used l) d (j - p) (omega (arith, moved))
      ∙ get_or-take (used - (p + n)) (drop (p + n) l) (j - p) d (omega arith)
      ∙ get_or-drop (p + n) l (j - p) d
      ∙ ap (λ (i : ℕ). get_or l i d) f

  -- the freed end is z, and the elements from used on are kept
  closed_behind : (d : A) (j : ℕ) → used - n ≤ j → get_or (closed_up z l p n used) j d ≡ get_or (replicate n z ++ drop used l) (j - (used - n)) d
  closed_behind d j le =
      let e : j ≡ length (take p l) + (j - p) = omega (arith, front) in
      let f : j - p ≡ length (take (used - (p + n)) (drop (p + n) l)) + (j - (used - n)) = omega (arith, moved) in
      ap (λ (i : ℕ). get_or (closed_up z l p n used) i d) e
      ∙ get_or-append-add (take p l) (take (used - (p + n)) (drop (p + n) l) ++ (replicate n z ++ drop used l)) (j - p) d
      ∙ ap (λ (i : ℕ). get_or (take (used - (p + n)) (drop (p + n) l) ++ (replicate n z ++ drop used l)) i d) f
      ∙ get_or-append-add (take (used - (p + n)) (drop (p + n) l)) (replicate n z ++ drop used l) (j - (used - n)) d

  pub closed_freed : (d : A) (j : ℕ) → used - n ≤ j → j < used → get_or (closed_up z l p n used) j d ≡ z
  closed_freed d j le lt =
      closed_behind d j le
      ∙ get_or-append (replicate n z) (drop used l) d (j - (used - n)) (omega (arith, length-replicate n z))
      ∙ get_or-replicate n (j - (used - n)) z d (omega arith)

  pub closed_past : (d : A) (j : ℕ) → used ≤ j → get_or (closed_up z l p n used) j d ≡ get_or l j d
  closed_past d j le =
      let e : j - (used - n) ≡ length (replicate n z) + (j - used) = omega (arith, length-replicate n z) in
      let f : used + (j - used) ≡ j = omega arith in
      closed_behind d j (omega arith)
      ∙ ap (λ (i : ℕ). get_or (replicate n z ++ drop used l) i d) e
      ∙ get_or-append-add (replicate n z) (drop used l) (j - used) d
      ∙ get_or-drop used l (j - used) d
      ∙ ap (λ (i : ℕ). get_or l i d) f

  -- a part before the gap stays, a part after it moves down
  pub part_below : (d : A) (q k : ℕ) → q + k ≤ p → take k (drop q (closed_up z l p n used)) ≡ take k (drop q l)
  part_below d q k le =
      ext_get_or d (take k (drop q (closed_up z l p n used))) (take k (drop q l)) (simp (length-take, length-drop, closed_length))
      (λ i lt. let c : i < k = omega (arith, length-take k (drop q (closed_up z l p n used))) in
      get_or-take k (drop q (closed_up z l p n used)) i d c ∙ get_or-drop q (closed_up z l p n used) i d ∙ closed_below d (q + i) (omega arith)
      ∙ sym (get_or-take k (drop q l) i d c ∙ get_or-drop q l i d))

  pub part_above : (d : A) (q k : ℕ) → p ≤ q → q + n + k ≤ used → take k (drop q (closed_up z l p n used)) ≡ take k (drop (q + n) l)
  part_above d q k le lt =
      let la : length (take k (drop q (closed_up z l p n used))) ≡ k = simp (length-take, length-drop, closed_length) (omega arith) in
      let lb : length (take k (drop (q + n) l)) ≡ k = simp (length-take, length-drop) (omega arith) in
      ext_get_or d (take k (drop q (closed_up z l p n used))) (take k (drop (q + n) l)) (la ∙ sym lb)
      (λ i h. let c : i < k = omega (arith, la) in
      let f : q + i + n ≡ q + n + i = omega arith in
      get_or-take k (drop q (closed_up z l p n used)) i d c ∙ get_or-drop q (closed_up z l p n used) i d ∙ closed_above d (q + i) (omega arith) (omega arith)
      ∙ ap (λ (j : ℕ). get_or l j d) f
      ∙ sym (get_or-take k (drop (q + n) l) i d c ∙ get_or-drop (q + n) l i d))

  -- a move down, and a fill of the freed end
  pub moved_filled : (t : List A) → t ≡ paste l p (drop (p + n) l) (used - n - p) → take (used - n) t ++ (replicate n z ++ drop (used - n + n) t) ≡ closed_up z l p n used
  moved_filled t e =
      let m : used - n ≡ p + (used - n - p) = omega arith in
      let k : used - (p + n) ≡ used - n - p = omega arith in
      let f : p + (used - n - p) + n ≡ used = omega arith in
      let ld : used - n - p ≤ length (drop (p + n) l) = simp length-drop (omega arith) in
      let top : take (p + (used - n - p)) t ≡ take p l ++ take (used - n - p) (drop (p + n) l) = rw e (take-paste l p (drop (p + n) l) (used - n - p) (omega arith) ld) in
      let low : drop (p + (used - n - p)) t ≡ drop (p + (used - n - p)) l = rw e (drop-paste l p (drop (p + n) l) (used - n - p) (omega arith) ld) in
      let end : drop (p + (used - n - p) + n) t ≡ drop used l = sym (drop-drop n (p + (used - n - p)) t) ∙ ap (drop n) low ∙ drop-drop n (p + (used - n - p)) l ∙ ap (λ (i : ℕ). drop i l) f in
      rw (m, top, end, k) (append_assoc (take p l) (take (used - n - p) (drop (p + n) l)) (replicate n z ++ drop used l))

-- an empty gap
pub closed_none {ℓ} : {A : Type ℓ} (z : A) (l : List A) (p n used : ℕ) → n ≡ 0 → p ≤ used → l ≡ closed_up z l p n used
closed_none z l p n used e le =
    let f : p + 0 ≡ p = omega arith in
    let g : p + (used - p) ≡ used = omega arith in
    rw (e, f) (sym (take-append-drop p l) ∙ ap (λ (t : List _). take p l ++ t) (sym (take-append-drop (used - p) (drop p l)) ∙ ap (λ (t : List _). take (used - p) (drop p l) ++ t) (drop-drop (used - p) p l ∙ ap (λ (i : ℕ). drop i l) g)))

-- the loop that moves down
module _ {ℓ} {A : Type ℓ} (l : List A) (p n : ℕ) where
  pub moved_none : l ≡ paste l p (drop (p + n) l) (p - p)
  moved_none = let e : p - p ≡ 0 = omega arith in rw e (paste-zero l p (drop (p + n) l))

  pub moved_more : (d : A) (t : List A) (j : ℕ) → p ≤ j → j + n < length l → t ≡ paste l p (drop (p + n) l) (j - p) → set t j (get_or t (j + n) d) ≡ paste l p (drop (p + n) l) (j + 1 - p)
  moved_more d t j le lt e =
      let i : p + (j - p) ≡ j = omega arith in
      let f : j + 1 - p ≡ suc (j - p) = omega arith in
      let ld : j - p < length (drop (p + n) l) = simp length-drop (omega arith) in
      let low : drop (p + (j - p)) t ≡ drop (p + (j - p)) l = rw e (drop-paste l p (drop (p + n) l) (j - p) (omega arith) (omega arith)) in
      let same : drop j t ≡ drop j l = rw i at low in
      let v : get_or t (j + n) d ≡ get_or (drop (p + n) l) (j - p) d = sym (get_or-drop j t n d) ∙ ap (λ (x : List A). get_or x n d) same ∙ get_or-drop j l n d ∙ ap (λ (k : ℕ). get_or l k d) (omega arith) ∙ sym (get_or-drop (p + n) l (j - p) d) in
      rw (v, f) (rw (← e, i) at (paste-suc l p (drop (p + n) l) (j - p) d (omega arith) ld))

-- two elements of six removed, of which five are used
example : closed_up {A = ℕ} 0 (1 ∷ 2 ∷ 3 ∷ 4 ∷ 5 ∷ 6 ∷ []) 1 2 5 ≡ 1 ∷ 4 ∷ 5 ∷ 0 ∷ 0 ∷ 6 ∷ []
example = refl
