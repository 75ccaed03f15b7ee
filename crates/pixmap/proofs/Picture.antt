-- When an input is a picture, and what is known of one. Assumes nothing.
use mathlib.Core.Bool.{true, false}
use mathlib.Core.List.{List, ◌++◌}
use mathlib.Core.Path.{◌≡◌, sym, ◌∙◌}
use Prim.Native.Nat.{ℕ, ◌+◌, ◌-◌, ◌≤◌}
use native.Mathlib.Nat.{mul-le-mul}
use native.Mathlib.Omega.{arith}
use lib.ListN.{length, take, drop, length-drop}
use lib.Seq.{take_all}
use Rattle.bigendian.specs.BigEndian.{be16}
use Rattle.p6.specs.P6.{ppm_length}
use Rattle.p6.specs.Inner.{put}
use Rattle.samples.specs.Samples.{ppm_of}
use Rattle.samples.proofs.Pixels.{length_ppm}
use Rattle.p6.proofs.Decimal.{length_header, few_digits}
use Rattle.pixmap.specs.Pixmap.{is_picture, no_picture, picture_of}
use Rattle.pixmap.specs.Inner.{Sides}

module _ (s : List ℕ) where
  -- the bytes that are written
  pub a_picture : is_picture s ≡ true → picture_of s ≡ ppm_of (be16 s 0) (be16 s 2) (drop 4 s)
  unfolding picture_of
  a_picture e = rw e

  pub no_picture_lem : is_picture s ≡ false → picture_of s ≡ no_picture
  unfolding picture_of
  no_picture_lem e = rw e

-- the longest picture
pub room : (w h : ℕ) → w ≤ 144 → h ≤ 144 → ppm_length w h ≤ 62223
room w h a b = omega (arith, length_header w h, few_digits 2 w (omega arith), few_digits 2 h (omega arith), mul-le-mul a b)

-- the pixels are all bytes after the sides
pub all_behind : (s : List ℕ) → take (length s - 4) (drop 4 s) ≡ drop 4 s
all_behind s = take_all (length s - 4) (drop 4 s) (omega (arith, length-drop 4 s))

-- A picture written into its part of the output: its length, and the output afterwards.
module _ {s : List ℕ} {n w h : ℕ} (p : Sides s w h) (len : n ≡ ppm_length w h) where
  pub picture_short : n ≤ 62223
  picture_short = omega (arith, len, room w h p.wide p.high)

  pub picture_length_lem : n ≡ length (picture_of s)
  picture_length_lem = rw (len, a_picture s p.picture, p.width, p.height) (sym (length_ppm (be16 s 0) (be16 s 2) (drop 4 s)))

  pub picture_put : (out : List ℕ) {X : List ℕ} → X ≡ ppm_of w h (take (length s - 4) (drop 4 s)) → X ++ drop n out ≡ put out 0 (picture_of s)
  picture_put out {X} g =
      let same : X ≡ picture_of s = g ∙ rw (all_behind s, p.width, p.height) (sym (a_picture s p.picture)) in
      let end : n ≡ 0 + length (picture_of s) = omega (arith, picture_length_lem) in
      rw (same, end)
