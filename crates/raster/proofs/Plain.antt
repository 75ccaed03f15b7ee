-- The plain loops do what the general definition says at their tables. Assumes nothing.
use mathlib.Core.Bool.{Bool}
use mathlib.Core.List.{List}
use mathlib.Core.Path.{◌≡◌, refl}
use Prim.Native.Nat.{ℕ, ◌+◌, ◌-◌, ◌*◌, ◌<◌}
use lib.ListN.{get_or}
use Rattle.words.specs.Words.{painted, word}
use Rattle.words.proofs.Painted.{painted_same, word_lt}
use Rattle.rop3.proofs.Codes.{applied_copy, applied_pattern, applied_invert}
use Rattle.raster.specs.Raster.{ropped}

-- a filled run, under PATCOPY's table
pub pattern_ropped : (t : ℕ) (p : ℕ → Bool) (pat : ℕ) (src : ℕ → ℕ) (m : List ℕ) → t ≡ 0xF0 → pat < 65536 → painted p (λ _. pat) m ≡ painted p (ropped t pat src m) m
pattern_ropped t p pat src m e h = rw e (painted_same p p (λ _. pat) (ropped 0xF0 pat src m) m (λ i lt. refl) (λ i lt u. applied_pattern pat (src i) (word m i) h))

-- an inverted run, under DSTINVERT's table
pub invert_ropped : (t : ℕ) (p : ℕ → Bool) (pat : ℕ) (src : ℕ → ℕ) (m : List ℕ) → t ≡ 0x55 → ((k : ℕ) → get_or m k 0 < 256) → painted p (λ i. 65535 - word m i) m ≡ painted p (ropped t pat src m) m
invert_ropped t p pat src m e bytes =
    rw e
    (painted_same p p (λ i. 65535 - word m i) (ropped 0x55 pat src m) m (λ i lt. refl)
    (λ i lt u. applied_invert pat (src i) (word m i) (word_lt m i (bytes (2 * i)) (bytes (2 * i + 1)))))

-- a run copied from word s of l to word d, under SRCCOPY's table
pub copy_ropped : (t : ℕ) (p : ℕ → Bool) (pat d s : ℕ) (l m : List ℕ) → t ≡ 0xCC → ((k : ℕ) → get_or l k 0 < 256) → painted p (λ i. word l (s + (i - d))) m ≡ painted p (ropped t pat (λ i. word l (s + (i - d))) m) m
copy_ropped t p pat d s l m e bytes =
    rw e
    (painted_same p p (λ i. word l (s + (i - d))) (ropped 0xCC pat (λ i. word l (s + (i - d))) m) m (λ i lt. refl)
    (λ i lt u. let j = s + (i - d) in applied_copy pat (word l j) (word m i) (word_lt l j (bytes (2 * j)) (bytes (2 * j + 1)))))
