-- The stock objects, as in `GdiState::new`.
use Rattle.std.specs.Prelude.{Bool, cond, ◌&&◌, ◌||◌, [], ◌∷◌, ℕ, eqb, leb}
use mir.Val.{has_key}
use Rattle.gdi.specs.declared.Kind.{Kind}
use Rattle.gdi.specs.declared.Kind.TheVariants.{Bitmap, Brush, Pen, Font, Other}

-- the twelve stock handles: nine in a row; the screen DC, the system font, the default bitmap
unfoldable pub is_stock : ℕ → Bool
is_stock h = (leb 0xDEAD_5701 h && leb h 0xDEAD_5709) || has_key (0xDEAD_0DC0 ∷ 0xDEAD_5710 ∷ 0xDEAD_5720 ∷ []) h

-- the handle of the stock bitmap
abbrev pub stock_bitmap : ℕ
stock_bitmap = 0xDEAD_5720

-- what a stock handle names, with the colour that a selection copies
unfoldable pub stock_kind : ℕ → Kind
stock_kind h =
    cond (eqb h 0xDEAD_5701) (Brush (record { 0 = 0x00ff_ffff })) (
    cond (eqb h 0xDEAD_5702) (Brush (record { 0 = 0x00c0_c0c0 })) (
    cond (eqb h 0xDEAD_5703) (Brush (record { 0 = 0x0080_8080 })) (
    cond (eqb h 0xDEAD_5704) (Brush (record { 0 = 0 })) (
    cond (eqb h 0xDEAD_5705) (Brush (record { 0 = 0xff00_0000 })) (
    cond (eqb h 0xDEAD_5706) (Pen (record { 0 = 0x00ff_ffff })) (
    cond (eqb h 0xDEAD_5707) (Pen (record { 0 = 0 })) (
    cond (eqb h 0xDEAD_5708) (Pen (record { 0 = 0xff00_0000 })) (
    cond (eqb h 0xDEAD_5709) (Brush (record { 0 = 0x0040_4040 })) (
    cond (eqb h 0xDEAD_5710) Font (
    cond (eqb h stock_bitmap) Bitmap
    Other))))))))))
