-- Definitions that only inner functions cite: no exported contract reaches them.
-- What is known of an input that is a picture.
use Rattle.std.specs.Prelude.{true, ◌≡◌, List, ℕ, ◌+◌, ◌*◌, ◌≤◌, length}
use Rattle.bigendian.specs.BigEndian.{be16}
use Rattle.pixmap.specs.Pixmap.{is_picture}

-- s is a picture whose sides are w and h
pub record Sides (s : List ℕ) (w h : ℕ) : Type 0 where
  pub picture : is_picture s ≡ true
  pub width : w ≡ be16 s 0
  pub height : h ≡ be16 s 2
  pub wide : w ≤ 144
  pub high : h ≤ 144
  pub long : length s ≡ 4 + 2 * (w * h)
