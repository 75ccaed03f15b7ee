-- From open to a saved screen: what a device shows does not depend on what its memories held before the open.
use Rattle.std.specs.Prelude.{true, List, ◌++◌, ◌≡◌, ℕ, length}
use Rattle.numbers.specs.View.{view}
use Rattle.place.specs.declared.SurfaceId.{SurfaceId}
use Rattle.place.specs.declared.SurfaceId.TheVariants.{Panel}
use Rattle.paint.specs.Taint.{Taint}
use Rattle.plan.specs.Open.{Opened}
use Rattle.noninterference.specs.Claim.{taint_on}
use Rattle.snapshot.specs.Snapshot.{Format, rgba8888, ppm, Snapped}
use Rattle.end_to_end.specs.Lists.{FlatDevice, device_of, refuses_all_on, is_pixel_on, colour_on, EqualBut, Entry, Made, calls_of}

-- Snapshots of two devices, into outputs of equal lengths whatever they held, give the same number, and the same bytes if it is 0.
pub record SameSnapshots (f : Format) (s t : FlatDevice) : Type 0 where
  pub same : (out₁ out₂ out₁' out₂' : List ℕ) (n k : ℕ) → length out₁ ≡ length out₂ → Snapped f s.numbers s.memories.panel out₁ n out₁'
      → Snapped f t.numbers t.memories.panel out₂ k out₂' → (n ≡ k) × (n ≡ 0 → out₁' ≡ out₂')

-- the two formats in which a screen is saved
pub data Saves : Format → Type 0 where
  as_rgba : Saves rgba8888
  as_ppm : Saves ppm

-- Two devices show the same: they refuse with the same number, have equal records and equal pixels, and give the same snapshots.
pub record SameScreen (s t : FlatDevice) : Type 0 where
  pub refusals : refuses_all_on s ≡ refuses_all_on t
  pub records : refuses_all_on s ≡ 0 → view s.numbers ≡ view t.numbers
  pub pixels : (u : SurfaceId) (x y : ℕ) → is_pixel_on s u x y ≡ true → colour_on s u x y ≡ colour_on t u x y
  pub snapshots : (f : Format) → Saves f → SameSnapshots f s t

-- A device was opened, and a list of calls made on it.
pub record Session (e : Entry) (w h : ℕ) (cs : List e.Argument) (before : FlatDevice) (number : ℕ) (rs : List e.Answer) (after : FlatDevice) : Type 0 where
  pub fresh : FlatDevice
  pub opened : Opened w h before.numbers before.memories number fresh.numbers fresh.memories
  pub made : Made e cs fresh rs after

-- numbers and memories of equal lengths, whatever they hold
pub record EqualLengths (s t : FlatDevice) : Type 0 where
  pub numbers : length s.numbers ≡ length t.numbers
  pub panels : length s.memories.panel ≡ length t.memories.panel
  pub stores : length s.memories.store ≡ length t.memories.store

-- A list of calls was made in two parts; the device between them is the end of the first part and the start of the second.
pub record Between (e : Entry) (cs ds : List e.Argument) (s : FlatDevice) (rs : List e.Answer) (t : FlatDevice) : Type 0 where
  pub point : FlatDevice
  pub first : List e.Answer
  pub rest : List e.Answer
  pub answers : rs ≡ first ++ rest
  pub before : Made e cs s first point
  pub after : Made e ds point rest t

-- Two sessions agree: in the number of the open, in all answers, and in what is shown at the end.
pub record SameSession {A : Type 0} (n k : ℕ) (rs qs : List A) (s t : FlatDevice) : Type 0 where
  pub number : n ≡ k
  pub answers : rs ≡ qs
  pub screen : SameScreen s t

pub record ScreensAgree (e : Entry) : Type 1 where
  -- Two devices are opened with the same sides, on numbers and memories of equal lengths, whatever they hold, and the same list of
  -- calls is made on both: all answers are equal, all pixels are, and both give the same snapshots.
  pub sessions : (w h : ℕ) (cs : List e.Argument) (s t s' t' : FlatDevice) (n k : ℕ) (rs qs : List e.Answer)
      → EqualLengths s t → Session e w h cs s n rs s' → Session e w h cs t k qs t' → SameSession n k rs qs s' t'
  -- The same holds at every point of the list, since a point is the end of the list up to it.
  pub points : (cs ds : List e.Argument) (s t : FlatDevice) (rs : List e.Answer) → Made e (cs ++ ds) s rs t → Between e cs ds s rs t
  -- Two callers hold ready devices that are equal except at tainted pixels, and make the same list of calls. If no pixel of the panel
  -- is tainted afterwards, a snapshot is the same on both, whatever the tainted pixels held.
  pub untainted : (f : Format) → Saves f → (cs : List e.Argument) (m : Taint) (s t s' t' : FlatDevice) (rs qs : List e.Answer)
      → EqualBut m s t → refuses_all_on s ≡ 0 → Made e cs s rs s' → Made e cs t qs t'
      → ((x y : ℕ) → is_pixel_on s' Panel x y ≡ true → taint_on (calls_of e cs) (device_of s) m Panel x y → ⊥) → SameSnapshots f s' t'
