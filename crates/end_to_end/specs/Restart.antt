-- Over a restart: what saving and loading give back (document 02, request 02).
use Rattle.std.specs.Prelude.{cond, List, ◌≡◌, ℕ, ◌≤◌, length, take}
use Rattle.gdi.specs.declared.DcSurface.TheVariants.{Screen}
use Rattle.numbers.specs.View.{view}
use Rattle.sound.specs.Sound.{sizes_fit}
use Rattle.saved_table.specs.Held.{restored}
use Rattle.place.specs.declared.SurfaceId.TheVariants.{Panel}
use Rattle.dirty.specs.Dirty.{dirtied}
use Rattle.plan.specs.Answer.{Parts}
use Rattle.plan.specs.Calls.{load}
use Rattle.plan.specs.Followed.{Performed}
use Rattle.plan.specs.Restorable.{Restorable}
use Rattle.save.specs.declared.Saving.{Saving}
use Rattle.save.specs.Save.{Saved}
use Rattle.end_to_end.specs.Lists.{FlatDevice, refuses_all_on, Words32, Entry}
use Rattle.end_to_end.specs.Screens.{Session}

pub record Restarts : Type 0 where
  -- Saving what was loaded gives the same bytes, into every output that has room for them.
  pub saved : (bytes : List ℕ) (s t : FlatDevice) (a : Parts) → Performed (load bytes) s.numbers s.memories a t.numbers t.memories → a.number ≡ 0
      → (out out' : List ℕ) (r : Saving) → Saved t.numbers out r out' → length bytes ≤ length out → (r.refusal ≡ 0) × (take r.length out' ≡ bytes)
  -- Loading what was saved, on a device whose screen DC is the screen's, into a ready device is refused only with 7, if the sizes do not
  -- fit. It gives the same record but for memory lengths, the frame counter and the stock bitmap's mark: these are those of the
  -- device that it is loaded into, with the load's mark.
  pub loaded : (s : FlatDevice) (out out' : List ℕ) (r : Saving) → Words32 s.numbers → (view s.numbers).screen.surface ≡ Screen → Saved s.numbers out r out' → r.refusal ≡ 0
      → (d t : FlatDevice) (a : Parts) → refuses_all_on d ≡ 0 → Performed (load (take r.length out')) d.numbers d.memories a t.numbers t.memories
      → (a.number ≡ cond (sizes_fit (restored (view d.numbers) (view s.numbers))) 0 7)
      × (a.number ≡ 0 → view t.numbers ≡ dirtied (restored (view d.numbers) (view s.numbers)) Panel)

-- From open on, after every list of calls, loads and saves, the screen DC is the screen's, and slots past the count are vacant.
abbrev pub SessionsRestorable : Entry → Type 0
SessionsRestorable e = (w h : ℕ) (cs : List e.Argument) (s t : FlatDevice) (rs : List e.Answer) → Session e w h cs s 0 rs t → Restorable (view t.numbers)
