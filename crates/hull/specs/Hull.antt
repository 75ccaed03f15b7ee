-- Where a call drew (document 02, request 04): the smallest box that holds all pixels of a region on a surface of w by h.
use Rattle.std.specs.Prelude.{Bool, cond, ℕ, zero, suc}
use Rattle.arithmetic.specs.Test.{any_below}
use Rattle.hull.specs.declared.Bounds.{Bounds}

-- the first number below n at which f holds; n if there is none
abbrev pub first_where : ℕ → (ℕ → Bool) → ℕ
first_where zero f = 0
first_where (suc n) f = cond (f 0) 0 (suc (first_where n (λ i. f (suc i))))

-- one past the last number below n at which f holds; 0 if there is none
abbrev pub end : ℕ → (ℕ → Bool) → ℕ
end zero f = 0
end (suc n) f = cond (f n) (suc n) (end n f)

-- column c holds a pixel of some row below h
abbrev pub in_column : (region : ℕ → ℕ → Bool) → (h c : ℕ) → Bool
in_column region h c = any_below h (λ r. region c r)

-- row r holds a pixel of some column below w
abbrev pub in_row : (region : ℕ → ℕ → Bool) → (w r : ℕ) → Bool
in_row region w r = any_below w (λ c. region c r)

-- a box: left, top, right, bottom, the last two exclusive
abbrev pub corners : (x0 y0 x1 y1 : ℕ) → Bounds
corners x0 y0 x1 y1 = record { left = x0; top = y0; right = x1; bottom = y1 }

-- four zeros: no pixel
abbrev pub nowhere : Bounds
nowhere = corners 0 0 0 0

-- from the first column and row that hold a pixel to one past the last ones; four zeros if there is no pixel
unfoldable pub hull : (region : ℕ → ℕ → Bool) → (w h : ℕ) → Bounds
hull region w h =
    cond (any_below w (in_column region h))
    (corners (first_where w (in_column region h)) (first_where h (in_row region w)) (end w (in_column region h)) (end h (in_row region w)))
    nowhere
