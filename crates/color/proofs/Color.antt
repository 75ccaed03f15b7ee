-- Packing undoes widening at each of the 65,536 words; every word and colour fits its width; the channels of a widened word; an
-- RGB555 word converted to RGB565 and back. Assumes nothing.
use mathlib.Core.Path.{◌≡◌}
use Prim.Native.Nat.{ℕ, ◌+◌, ◌*◌, ◌/◌, ◌%◌, ◌<◌}
use native.Mathlib.Nat.{div-div-eq-div-mul}
use native.Mathlib.Omega.{arith}
use lib.Dec.{lit<}
use lib.Arith.{mod-mul}
use Rattle.color.specs.Color.{red, green, blue, packed, red5, green6, blue5, wide_red, wide_green, wide_blue, widened, red555, green555, blue555, from555, to555}

-- ---- a COLORREF

module _ (c : ℕ) where
  pub packed_fits : packed c < 65536
  unfolding packed
  packed_fits = omega arith

  red_low : red (c % 16777216) ≡ red c
  red_low = omega arith

  green_low : green (c % 16777216) ≡ green c
  green_low =
      let h : c / 256 ≡ c / 16777216 * 65536 + c % 16777216 / 256 = omega arith in
      rw h (omega arith)

  blue_low : blue (c % 16777216) ≡ blue c
  blue_low =
      let h : c / 65536 ≡ c / 16777216 * 256 + c % 16777216 / 65536 = omega arith in
      rw h (omega arith)

  -- the top byte has no effect
  pub packed_low : packed c ≡ packed (c % 16777216)
  unfolding packed
  packed_low = rw (red_low, green_low, blue_low)

-- three bytes side by side are the channels
module _ (r g b : ℕ) (hr : r < 256) (hg : g < 256) (hb : b < 256) where
  joined_red : red (r + 256 * g + 65536 * b) ≡ r
  joined_red = omega arith

  joined_green : green (r + 256 * g + 65536 * b) ≡ g
  joined_green =
      let h : (r + 256 * g + 65536 * b) / 256 ≡ g + 256 * b = omega arith in
      rw h (omega arith)

  joined_blue : blue (r + 256 * g + 65536 * b) ≡ b
  joined_blue =
      let h : (r + 256 * g + 65536 * b) / 65536 ≡ b = omega arith in
      rw h (omega arith)

-- ---- an RGB565 word

module _ (p : ℕ) where
  -- the word is its channels side by side
  channels : red5 p * 2048 + green6 p * 32 + blue5 p ≡ p
  channels = omega (arith, div-div-eq-div-mul p 32 64)

  -- the top bits of a widened channel are the channel
  green_top : wide_green p / 4 ≡ green6 p
  unfolding wide_green
  green_top = omega arith

  blue_top : wide_blue p / 8 ≡ blue5 p
  unfolding wide_blue
  blue_top = omega arith

  pub wide_green_fits : wide_green p < 256
  unfolding wide_green
  wide_green_fits = omega arith

  pub wide_blue_fits : wide_blue p < 256
  unfolding wide_blue
  wide_blue_fits = omega arith

module _ (p : ℕ) (h : p < 65536) where
  pub wide_red_fits : wide_red p < 256
  unfolding wide_red
  wide_red_fits = omega arith

  -- and so for red
  red_top : wide_red p / 8 ≡ red5 p
  unfolding wide_red
  red_top = omega arith

  pub widened_fits : widened p < 16777216
  unfolding widened
  widened_fits = omega (arith, wide_red_fits, wide_green_fits p, wide_blue_fits p)

  pub red_widened : red (widened p) ≡ wide_red p
  unfolding widened
  red_widened = joined_red _ _ _ wide_red_fits (wide_green_fits p) (wide_blue_fits p)

  pub green_widened : green (widened p) ≡ wide_green p
  unfolding widened
  green_widened = joined_green _ _ _ wide_red_fits (wide_green_fits p) (wide_blue_fits p)

  pub blue_widened : blue (widened p) ≡ wide_blue p
  unfolding widened
  blue_widened = joined_blue _ _ _ wide_red_fits (wide_green_fits p) (wide_blue_fits p)

  -- packing undoes widening
  pub pack_widened : packed (widened p) ≡ p
  unfolding packed
  pack_widened =
      rw (red_widened, green_widened, blue_widened) (omega (arith, red_top, green_top p, blue_top p, channels p))

  pub to555_fits : to555 p < 32768
  unfolding to555
  to555_fits = omega arith

-- ---- an RGB555 word

shifted : (r g b : ℕ) → r * 1024 + g * 32 + b ≡ (r * 32 + g) * 32 + b
shifted r g b = omega arith

module _ (p : ℕ) where
  -- the word without its top bit is its channels side by side
  channels555 : red555 p * 1024 + green555 p * 32 + blue555 p ≡ p % 32768
  channels555 =
      rw (← div-div-eq-div-mul p 32 32, mod-mul p {m = 1024} {c = 32} (lit< tt) (lit< tt), mod-mul (p / 32) {m = 32} {c = 32} (lit< tt) (lit< tt))
      (shifted (p / 32 / 32 % 32) (p / 32 % 32) (p % 32))

  pub from555_fits : from555 p < 65536
  unfolding from555
  from555_fits = omega arith

  -- narrowing undoes widening, but for the top bit
  pub to555_from555 : to555 (from555 p) ≡ p % 32768
  unfolding from555 to555
  to555_from555 =
      let r : red5 (from555 p) ≡ red555 p = omega arith in
      let g : from555 p / 64 ≡ red555 p * 32 + green555 p = omega arith in
      let g' : (red555 p * 32 + green555 p) % 32 ≡ green555 p = omega arith in
      let b : blue5 (from555 p) ≡ blue555 p = omega arith in
      rw (r, g, g', b) channels555
