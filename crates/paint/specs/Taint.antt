-- Taint (document 01: colour marks): any set of pixels whose colours may differ, and what each paint makes of it.
use Rattle.std.specs.Prelude.{Bool, true, false, cond, ◌&&◌, List, [], ◌∷◌, ◌↔◌, ◌≡◌, ℕ}
use Rattle.rop3.specs.Rop3.{uses_src, uses_dst}
use Rattle.place.specs.declared.SurfaceId.{SurfaceId}
use Rattle.place.specs.declared.SurfaceId.TheVariants.{Bitmap}
use Rattle.place.specs.Place.{same}
use Rattle.paint.specs.Paint.{Source, black, sampled, Draw, Paint, draw, blank, close}

-- a set of pixels; a pixel is named by its surface, the panel or a bitmap's handle, and x, y
abbrev pub Taint : Type 1
Taint = SurfaceId → (x y : ℕ) → Type 0

-- the source pixel of x, y is tainted
abbrev pub sample_tainted : Taint → Source → (x y : ℕ) → Type 0
sample_tainted m black x y = ⊥
sample_tainted m (sampled s fx fy) x y = m s (fx x) (fy y)

-- a drawn pixel is tainted exactly if the code uses D and the pixel was tainted, or the code uses S and its source pixel was
pub data Reads (m : Taint) (d : Draw) (s : SurfaceId) (x y : ℕ) : Type 0 where
  by_d : uses_dst d.table ≡ true → m s x y → Reads m d s x y
  by_s : uses_src d.table ≡ true → sample_tainted m d.source x y → Reads m d s x y

-- pixels not drawn keep their taint; a new bitmap and a resized panel have none, nor have the panel and created bitmaps after a load, and
-- a removed bitmap's taint is removed with it
unfoldable pub tainted_by : Paint → Taint → Taint
tainted_by (draw d) m s x y = cond (same s d.target && d.region x y) (Reads m d s x y) (m s x y)
tainted_by (blank k p n clears) m s x y = cond (clears s) ⊥ (m s x y)
tainted_by (close h p n used) m s x y = cond (same s (Bitmap h)) ⊥ (m s x y)

-- the taint after several paints, in their order
unfoldable pub tainted : List Paint → Taint → Taint
tainted [] m = m
tainted (p ∷ ps) m = tainted ps (tainted_by p m)

-- The same pixels are tainted before and after.
pub record Keeps (before after : Taint) : Type 0 where
  pub keeps : (u : SurfaceId) (x y : ℕ) → after u x y ↔ before u x y

-- The pixels of s in the region are drawn: each is tainted afterwards exactly if the rule holds of it. All others keep their taint.
pub record Exactly (before after : Taint) (s : SurfaceId) (region : (x y : ℕ) → Bool) (rule : (x y : ℕ) → Type 0) : Type 0 where
  pub drawn : (x y : ℕ) → region x y ≡ true → after s x y ↔ rule x y
  pub others : (u : SurfaceId) (x y : ℕ) → (same u s && region x y) ≡ false → after u x y ↔ before u x y

-- The pixels of s in the region are drawn, and none of them is tainted afterwards.
abbrev pub Untaints : (before after : Taint) → SurfaceId → (region : (x y : ℕ) → Bool) → Type 0
Untaints m n s region = Exactly m n s region (λ x y. ⊥)

-- No pixel of these surfaces is tainted afterwards. All others keep their taint.
pub record Clears (before after : Taint) (cleared : SurfaceId → Bool) : Type 0 where
  pub clear : (u : SurfaceId) (x y : ℕ) → cleared u ≡ true → after u x y → ⊥
  pub others : (u : SurfaceId) (x y : ℕ) → cleared u ≡ false → after u x y ↔ before u x y

-- every pixel of a surface
abbrev pub everywhere : (x y : ℕ) → Bool
everywhere x y = true
