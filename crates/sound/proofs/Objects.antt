-- What an object's numbers say of its soundness and its bytes. Assumes nothing.
use mathlib.Core.Bool.{Bool, true, false, cond, ◌&&◌}
use mathlib.Core.List.{List}
use mathlib.Core.Path.{◌≡◌, refl, ◌∙◌}
use Prim.Native.Nat.{ℕ, ◌+◌, ◌*◌, ◌≤◌}
use native.Mathlib.Omega.{arith}
use lib.Dec.{eqb}
use lib.IntN.{ℤ}
use mir.Val.{SFits}
use mir.Syntax.{w32}
use Rattle.std.proofs.lemmas.Bool.Decides.{nat_tests}
use Rattle.arithmetic.proofs.Test.{both}
use Rattle.arithmetic.proofs.Machine.{held32, stored32}
use Rattle.words.specs.Parts.{part}
use Rattle.bigendian.specs.BigEndian.{signed32}
use Rattle.surface.specs.Refusal.{side}
use Rattle.gdi.specs.declared.DcSurface.TheVariants.{Screen, Memory}
use Rattle.gdi.specs.declared.GdiObject.{GdiObject}
use Rattle.gdi.specs.Record.{bytes_of, is_position}
use Rattle.numbers.specs.Layout.{dc_size, object_size, kind_place, object_place, pos_x_in, pos_y_in}
use Rattle.numbers.specs.Block.{at, dc_fields, object_of}
use Rattle.numbers.proofs.Seen.{bitmap_height_place, part_at, part_first, part_second}
use Rattle.sound.specs.Sound.{is_memory, positioned, object_fits}
use Rattle.sound.proofs.Bytes.{area}

-- the object whose slot begins at number p
abbrev pub object_from : List ℕ → ℕ → GdiObject
object_from l p = object_of (at l (p + kind_place)) (part l (p + object_place) object_size)

-- the position of the DC at number p, as the code reads it
pub position_read : (l : List ℕ) (p : ℕ) {x y : ℤ} {t : Bool} → SFits w32 x → SFits w32 y → x ≡ signed32 (at l (p + pos_x_in)) → y ≡ signed32 (at l (p + pos_y_in))
    → t ≡ is_position (held32 x) (held32 y) → t ≡ positioned (dc_fields (part l p dc_size))
unfolding dc_fields
position_read l p {x} {y} fx fy ex ey e =
    rw (part_at l p dc_size pos_x_in (omega arith), part_at l p dc_size pos_y_in (omega arith), ← ex, ← ey) (rw (stored32 x fx, stored32 y fy) at e)

-- the surface of a DC is memory
memory_flag : (t : Bool) → is_memory (cond t Memory Screen) ≡ t
memory_flag true = refl
memory_flag false = refl

-- the object that tests of the kind choose
chosen : {A : Type 0} (f : GdiObject → A) (a b c d : Bool) (v w x y z : GdiObject) → f x ≡ f z → f y ≡ f z
    → f (cond a v (cond b w (cond c x (cond d y z)))) ≡ cond a (f v) (cond b (f w) (f z))
chosen f true b c d v w x y z g h = refl
chosen f false true c d v w x y z g h = refl
chosen f false false true d v w x y z g h = g
chosen f false false false true v w x y z g h = h
chosen f false false false false v w x y z g h = refl

second_kind : (k n : ℕ) → cond (eqb k 0) 0 (cond (eqb k 1) n 0) ≡ cond (eqb k 1) n 0
second_kind k n = grind (arith, nat_tests)

module _ (l : List ℕ) (p : ℕ) where
  -- its tests, by its kind
  pub fits_read : object_fits (object_from l p)
      ≡ cond (eqb (at l (p + kind_place)) 0) (eqb (at l (p + object_place)) 1 && positioned (dc_fields (part l (p + object_place) object_size)))
      (cond (eqb (at l (p + kind_place)) 1) (side (at l (p + object_place)) && side (at l (p + bitmap_height_place))) true)
  unfolding object_of dc_fields
  fits_read =
      let k = at l (p + kind_place) in
      chosen object_fits (eqb k 0) (eqb k 1) (eqb k 2) (eqb k 3) _ _ _ _ _ refl refl ∙ rw (memory_flag, part_first l (p + object_place), part_second l p)

  -- its bytes
  pub bytes_of_read : bytes_of (object_from l p) ≡ cond (eqb (at l (p + kind_place)) 1) (2 * (at l (p + object_place) * at l (p + bitmap_height_place))) 0
  unfolding object_of
  bytes_of_read =
      let k = at l (p + kind_place) in
      chosen bytes_of (eqb k 0) (eqb k 1) (eqb k 2) (eqb k 3) _ _ _ _ _ refl refl ∙ rw (part_first l (p + object_place), part_second l p) (second_kind k _)

  pub pixels_few : at l (p + kind_place) ≡ 1 → object_fits (object_from l p) ≡ true → at l (p + object_place) * at l (p + bitmap_height_place) ≤ 16777216
  pixels_few e f =
      let s = both (side (at l (p + object_place))) (side (at l (p + bitmap_height_place))) (rw (fits_read, e) at f) in
      area (at l (p + object_place)) (at l (p + bitmap_height_place)) s.0 s.1
