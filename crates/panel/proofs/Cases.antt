-- The cases of panel fill and resize, each as its plan says. Assumes nothing.
use mathlib.Core.Bool.{Bool, true, false, ◌&&◌}
use mathlib.Core.List.{List}
use mathlib.Core.Path.{◌≡◌, refl, sym, ◌∙◌, ap}
use Prim.Native.Nat.{ℕ, ◌+◌, ◌*◌, ◌-◌, ◌≤◌, ◌<◌}
use native.Mathlib.Omega.{arith}
use lib.ListN.{length}
use borrow.Author.Tests.{le-ltb, lt-ltb}
use Rattle.arithmetic.specs.Interval.{between}
use Rattle.arithmetic.proofs.Test.{and-true}
use Rattle.words.specs.Parts.{part, with_part}
use Rattle.words.specs.Words.{painted, word}
use Rattle.words.proofs.Painted.{painted_same}
use Rattle.words.proofs.Parts.{part_painted}
use Rattle.rop3.specs.Rop3.{applied}
use Rattle.rop3.proofs.Codes.{applied_pattern}
use Rattle.gdi.specs.declared.GdiState.{GdiState}
use Rattle.gdi.specs.Record.{size}
use Rattle.gdi.specs.Updates.{with_sides}
use Rattle.numbers.specs.View.{view, Updated}
use Rattle.sound.specs.Sound.{is_sound}
use Rattle.sound.proofs.Sound.{parts}
use Rattle.sound.proofs.Bytes.{area}
use Rattle.memory.specs.Gap.{blanked}
use Rattle.place.specs.declared.SurfaceId.TheVariants.{Panel}
use Rattle.dirty.specs.Dirty.{dirtied, dirtied_if}
use Rattle.paint.specs.Memories.{memories}
use Rattle.paint.specs.Paint.{painted_by, after}
use Rattle.plan.specs.Answer.{done}
use Rattle.plan.specs.Plan.{record_only, refuse}
use Rattle.plan.specs.Stroke.{dirtied_by, paints_of}
use Rattle.plan.specs.Panel.{panel_fill, resized, no_effect, resize}
use Rattle.plan.specs.Followed.{Followed}
use Rattle.plan.proofs.Followed.{acceptance}

-- the panel of a sound record
module _ (b : GdiState) (sound : is_sound b ≡ true) where
  pub panel_area : b.width * b.height ≤ 16777216
  panel_area = let s = parts b sound in area b.width b.height s.width s.height

  pub panel_fits : {n : ℕ} → n ≡ b.panel_len → 2 * (0 + b.width * b.height) ≤ n
  panel_fits e = omega (arith, e, (parts b sound).panel)

-- the first n words in one colour are a part of the memory painted under PATCOPY's table
pub whole_panel : (m : List ℕ) (n c : ℕ) → 2 * n ≤ length m → c < 65536
    → painted (between 0 (0 + n)) (λ _. c) m
    ≡ with_part m 0 (2 * n) (painted (λ _. true) (λ i. applied 0xF0 c 0 (word (part m 0 (2 * n)) i)) (part m 0 (2 * n)))
whole_panel m n c fits small =
    let new : ℕ → ℕ = (λ i. applied 0xF0 c 0 (word (part m 0 (2 * n)) i)) in
    painted_same (between 0 (0 + n)) (λ i. between 0 (0 + n) i && true) (λ _. c) (λ i. new (i - 0)) m
    (λ i lt. sym (and-true (between 0 (0 + n) i)))
    (λ i lt t. applied_pattern c 0 (word (part m 0 (2 * n)) (i - 0)) small)
    ∙ sym (part_painted (λ _. true) new m 0 n (omega arith))

-- panel fill
pub filled : (l : List ℕ) (panel : List ℕ) (c : ℕ) → is_sound (view l) ≡ true → length panel ≡ (view l).panel_len → c < 65536
    → {l' panel' : List ℕ} → Updated l (dirtied (view l) Panel) l' → panel' ≡ painted (between 0 (0 + (view l).width * (view l).height)) (λ _. c) panel
    → (store : List ℕ) → Followed (panel_fill (view l) c) l (memories panel store) done l' (memories panel' store)
unfolding after painted_by dirtied_by paints_of dirtied_if
filled l panel c sound len small marked bytes store =
    let fits : 2 * ((view l).width * (view l).height) ≤ length panel = omega (arith, panel_fits (view l) sound len) in
    acceptance refl refl marked (ap (λ (p : List ℕ). memories p store) (bytes ∙ whole_panel panel ((view l).width * (view l).height) c fits small))

-- the plan of a resize: nothing to do, a side that is too long, a memory that is too short, and the new size
module _ (b : GdiState) (w h : ℕ) {t : Bool} (e : t ≡ no_effect b w h) where
  pub same_size : t ≡ true → resize b w h ≡ record_only b done
  unfolding resize
  same_size f = rw (← e, f)

  module _ (f : t ≡ false) where
    pub too_wide : 4096 < w → resize b w h ≡ refuse 6 b
    unfolding resize
    too_wide lt = rw (← e, f, lt-ltb 4096 w lt)

    module _ (wide : w ≤ 4096) where
      pub too_high : 4096 < h → resize b w h ≡ refuse 6 b
      unfolding resize
      too_high lt = rw (← e, f, le-ltb 4096 w wide, lt-ltb 4096 h lt)

      module _ (high : h ≤ 4096) where
        pub too_short : b.panel_len < size w h → resize b w h ≡ refuse 7 b
        unfolding resize
        too_short lt = rw (← e, f, le-ltb 4096 w wide, le-ltb 4096 h high, lt-ltb b.panel_len (size w h) lt)

        pub new_size : size w h ≤ b.panel_len → resize b w h ≡ resized b w h
        unfolding resize
        new_size le = rw (← e, f, le-ltb 4096 w wide, le-ltb 4096 h high, le-ltb b.panel_len (size w h) le)

-- an effective resize
pub sized : (l : List ℕ) (w h : ℕ) {panel panel' l' : List ℕ} → resize (view l) w h ≡ resized (view l) w h → panel' ≡ blanked panel 0 (size w h)
    → Updated l (dirtied (with_sides (view l) w h) Panel) l' → (store : List ℕ) → Followed (resize (view l) w h) l (memories panel store) done l' (memories panel' store)
unfolding after painted_by
sized l w h e zeroed marked store = acceptance refl (rw e) marked (rw (e, zeroed))
