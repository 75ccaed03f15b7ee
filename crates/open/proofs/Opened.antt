-- Laws of open: what holds of an accepted one, and that it gives a sound record. Assumes nothing.
use mathlib.Core.Bool.{Bool, true, false, cond, ◌&&◌}
use mathlib.Core.Path.{◌≡◌, refl, sym, ◌∙◌}
use Prim.Native.Nat.{ℕ, ◌*◌, ◌≤◌}
use native.Mathlib.Omega.{arith}
use lib.Dec.{leb}
use borrow.Author.Tests.{leb-true}
use Rattle.arithmetic.proofs.Sum.{sum_none}
use Rattle.surface.specs.Refusal.{side}
use Rattle.gdi.specs.Record.{size, bytes_of, fresh}
use Rattle.gdi.specs.Lookup.{object_at}
use Rattle.sound.specs.Sound.{limit, is_sound}
use Rattle.sound.proofs.Sound.{whole}
use Rattle.ready.specs.Ready.{common_refusal}
use Rattle.ready.proofs.Ready.{ready_accepts}
use Rattle.plan.specs.Open.{open_refusal}

-- what holds of an accepted open
pub record Accepted (w h n k : ℕ) : Type 0 where
  pub width : side w ≡ true
  pub height : side h ≡ true
  pub panel_len : n ≤ limit
  pub store_len : k ≤ limit
  pub panel : size w h ≤ n
  pub store : 2 ≤ k

pub accepted : (w h n k no₀ : ℕ) → no₀ ≡ open_refusal w h n k → no₀ ≡ 0 → Accepted w h n k
unfolding open_refusal
accepted w h n k no₀ e z =
    by (side w) refl (side h) refl (leb n limit) refl (leb k limit) refl (leb (size w h) n) refl (leb 2 k) refl (sym z ∙ e)
  where
    by : (a : Bool) → side w ≡ a → (b : Bool) → side h ≡ b → (c : Bool) → leb n limit ≡ c → (d : Bool) → leb k limit ≡ d
        → (p : Bool) → leb (size w h) n ≡ p → (q : Bool) → leb 2 k ≡ q
        → ◌≡◌ {A = ℕ} 0 (cond (a && b) (cond (c && d) (cond (p && q) 0 7) 8) 6) → Accepted w h n k
    by true ea true eb true ec true ed true ep true eq i =
        record { width = ea; height = eb; panel_len = leb-true _ _ ec; store_len = leb-true _ _ ed; panel = leb-true _ _ ep; store = leb-true _ _ eq }
    by false ea b eb c ec d ed p ep q eq i = absurd (omega arith)
    by true ea false eb c ec d ed p ep q eq i = absurd (omega arith)
    by true ea true eb false ec d ed p ep q eq i = absurd (omega arith)
    by true ea true eb true ec false ed p ep q eq i = absurd (omega arith)
    by true ea true eb true ec true ed false ep q eq i = absurd (omega arith)
    by true ea true eb true ec true ed true ep false eq i = absurd (omega arith)

-- the lengths of the memories, where an open is accepted
module _ (w h n k : ℕ) (e : 0 ≡ open_refusal w h n k) where
  yes : Accepted w h n k
  yes = accepted w h n k 0 e refl

  pub panel_room : 2 * (w * h) ≤ n
  panel_room = yes.panel

  pub panel_short : n ≤ limit
  panel_short = yes.panel_len

  pub store_room : 2 ≤ k
  store_room = yes.store

  pub store_short : k ≤ limit
  store_short = yes.store_len

-- the record is sound
module _ {w h n k : ℕ} (a : Accepted w h n k) where
  pub opened_sound : is_sound (fresh n k w h) ≡ true
  opened_sound =
      whole (fresh n k w h) (record {
        panel_len = a.panel_len;
        store_len = a.store_len;
        count = omega arith;
        width = a.width;
        height = a.height;
        panel = a.panel;
        screen = refl;
        slots = refl;
        apart = refl;
        store = rw (sum_none (λ i. bytes_of (object_at (fresh n k w h) i))) a.store;
      })

-- an accepted open gives a ready device
pub opened_ready : (w h n k : ℕ) → open_refusal w h n k ≡ 0 → common_refusal (fresh n k w h) n k ≡ 0
opened_ready w h n k e = ready_accepts (record { sound = opened_sound (accepted w h n k _ refl e); panel = refl; store = refl })

-- a refused open gives a record that every call refuses with 9
pub refused_unsound : is_sound (fresh 0 0 0 0) ≡ false
unfolding is_sound
refused_unsound = refl
