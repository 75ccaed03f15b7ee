-- Snapshots of the panel, as RGBA bytes and as a P6 picture: when one is refused, and what it is.
use Rattle.std.specs.Prelude.{cond, List, ◌≡◌, ℕ, ◌*◌, eqb, length}
use Rattle.surface.specs.Refusal.{unless_refused}
use Rattle.numbers.specs.View.{view}
use Rattle.ready.specs.Ready.{panel_refusal_on}
use Rattle.p6.specs.P6.{ppm_length}
use Rattle.samples.specs.Samples.{rgba_of, ppm_of, rgba_length}

-- 9 if the numbers are no record or an unsound one; then 8 if the panel memory's length is not the record's; then 8 if the
-- output's length is not the one that is wanted for the panel's sides; 0 if accepted. A snapshot reads the panel alone: no store is lent
unfoldable pub snapshot_refusal : (l : List ℕ) → (panel_len out-len : ℕ) → (wanted : (width height : ℕ) → ℕ) → ℕ
snapshot_refusal l n got wanted =
    cond (eqb (panel_refusal_on l n) 0) (cond (eqb got (wanted (view l).width (view l).height)) 0 8) (panel_refusal_on l n)

-- A format: how many bytes a picture of these sides has, and the picture of the panel at the start of a memory.
pub record Format : Type 0 where
  pub wanted : (width height : ℕ) → ℕ
  pub picture : (width height : ℕ) → (panel : List ℕ) → List ℕ

-- R, G, B, 255 of each pixel
abbrev pub rgba8888 : Format
rgba8888 = record { wanted = rgba_length; picture = λ w h m. rgba_of m (w * h) }

abbrev pub ppm : Format
ppm = record { wanted = ppm_length; picture = ppm_of }

-- What a snapshot ensures: it answers the refusal's number, 0 if accepted; accepted, the output is the picture of the panel; refused,
-- the output is kept.
pub record Snapped (f : Format) (l panel out : List ℕ) (number : ℕ) (out' : List ℕ) : Type 0 where
  pub answer : number ≡ snapshot_refusal l (length panel) (length out) f.wanted
  pub bytes : out' ≡ unless_refused number (f.picture (view l).width (view l).height panel) out
