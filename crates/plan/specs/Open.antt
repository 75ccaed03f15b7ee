-- Open: a fresh device, its panel and the stock bitmap's pixel black.
use Rattle.std.specs.Prelude.{cond, ◌&&◌, ◌≡◌, ℕ, eqb, leb, List, length}
use Rattle.surface.specs.Refusal.{side, unless_refused}
use Rattle.gdi.specs.declared.GdiState.{GdiState}
use Rattle.gdi.specs.Record.{size, fresh}
use Rattle.numbers.specs.Layout.{record_size}
use Rattle.numbers.specs.View.{Updated}
use Rattle.sound.specs.Sound.{limit}
use Rattle.memory.specs.Gap.{blanked}
use Rattle.paint.specs.Memories.{Memories}

-- 6 if a side is not 1 to 4,096; 8 if a memory is above the limit; 7 if the panel memory or the store (2 bytes at least) is too
-- short
unfoldable pub open_refusal : (width height panel_len store_len : ℕ) → ℕ
open_refusal w h n k = cond (side w && side h) (cond (leb n limit && leb k limit) (cond (leb (size w h) n && leb 2 k) 0 7) 8) 6

-- 9 if there are too few or too many numbers for a record
abbrev pub open_number : (numbers width height panel_len store_len : ℕ) → ℕ
open_number m w h n k = cond (eqb m record_size) (open_refusal w h n k) 9

-- a refused open gives a record with lengths and sides 0, no object, and all else as fresh
abbrev pub opened_as : ℕ → (width height panel_len store_len : ℕ) → GdiState
opened_as number w h n k = cond (eqb number 0) (fresh n k w h) (fresh 0 0 0 0)

-- What open ensures. It answers the refusal's number, 0 if accepted, and the numbers become the record above, refused or not; if
-- there are too few or too many, they are kept. Accepted, it blanks the panel and the stock bitmap's pixel.
pub record Opened (w h : ℕ) (l : List ℕ) (ms : Memories) (number : ℕ) (l' : List ℕ) (ms' : Memories) : Type 0 where
  pub answer : number ≡ open_number (length l) w h (length ms.panel) (length ms.store)
  pub numbers : length l ≡ record_size → Updated l (opened_as number w h (length ms.panel) (length ms.store)) l'
  pub kept : (length l ≡ record_size → ⊥) → l' ≡ l
  pub panel : ms'.panel ≡ unless_refused number (blanked ms.panel 0 (size w h)) ms.panel
  pub store : ms'.store ≡ unless_refused number (blanked ms.store 0 2) ms.store
