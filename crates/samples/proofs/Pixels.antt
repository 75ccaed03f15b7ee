-- The bytes of a pixel, as they are stored. Assumes nothing.
use mathlib.Core.List.{List, [], ◌∷◌}
use mathlib.Core.Path.{◌≡◌, refl}
use Prim.Native.Nat.{ℕ, ◌+◌, ◌*◌, ◌/◌, ◌%◌, ◌<◌}
use native.Mathlib.Omega.{arith}
use lib.ListN.{length, length-append}
use mir.Syntax.{w32}
use Rattle.std.specs.Int.{to_le_bytes}
use Rattle.words.specs.Words.{word}
use Rattle.color.specs.Color.{red, green, blue, wide_red, wide_green, wide_blue, widened}
use Rattle.color.proofs.Color.{widened_fits, red_widened, green_widened, blue_widened}
use Rattle.p6.specs.P6.{header, ppm_length}
use Rattle.p6.specs.Reader.{picture, read}
use Rattle.p6.proofs.P6.{read_back}
use Rattle.p6.proofs.Put.{length_joined}
use Rattle.samples.specs.Samples.{rgb, rgba, samples_of, rgba_of, ppm_of}

-- the channels of a word's COLORREF are the widened ones
pub rgb_channels : (v : ℕ) {c r g b : ℕ} → v < 65536 → c ≡ widened v → r ≡ red c → g ≡ green c → b ≡ blue c → r ∷ g ∷ b ∷ [] ≡ rgb v
rgb_channels v small e f g i = rw (i, g, f, e, red_widened v small, green_widened v small, blue_widened v small)

-- the bytes of a word's COLORREF with 255 above it
pub rgba_bytes : (v : ℕ) {c : ℕ} → v < 65536 → c ≡ widened v → to_le_bytes w32 (c + 0xFF000000) ≡ rgba v
rgba_bytes v {c} small e =
    let room : c < 16777216 = rw e (widened_fits v small) in
    let red_is : red c ≡ wide_red v = rw e (red_widened v small) in
    let green_is : green c ≡ wide_green v = rw e (green_widened v small) in
    let blue_is : blue c ≡ wide_blue v = rw e (blue_widened v small) in
    let r : (c + 0xFF000000) % 256 ≡ wide_red v = omega arith in
    let g : (c + 0xFF000000) / 256 % 256 ≡ wide_green v = omega arith in
    let b : (c + 0xFF000000) / 65536 % 256 ≡ wide_blue v = omega arith in
    let a : (c + 0xFF000000) / 16777216 % 256 ≡ 255 = omega arith in
    rw (r, g, b, a)

-- the number of bytes
pub length_rgba : (m : List ℕ) (n : ℕ) → length (rgba_of m n) ≡ 4 * n
length_rgba m n = length_joined (λ i. rgba (word m i)) 4 (λ _. refl) n

pub length_samples : (m : List ℕ) (n : ℕ) → length (samples_of m n) ≡ 3 * n
length_samples m n = length_joined (λ i. rgb (word m i)) 3 (λ _. refl) n

pub length_ppm : (w h : ℕ) (m : List ℕ) → length (ppm_of w h m) ≡ ppm_length w h
length_ppm w h m = omega (arith, length-append (header w h) (samples_of m (w * h)), length_samples m (w * h))

-- the reader reads the picture back
pub ppm_read : (w h : ℕ) (m : List ℕ) → read (ppm_of w h m) ≡ picture w h 255 (samples_of m (w * h))
ppm_read w h m = read_back w h (samples_of m (w * h)) (length_samples m (w * h))
