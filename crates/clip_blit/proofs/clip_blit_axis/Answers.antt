-- `clip_blit::clip_blit_axis` meets its contract: its sums in 64 bits are exact, so its steps are the definition's.
-- Assumes nothing.
use mathlib.Core.Path.{◌≡◌, sym}
use Prim.Native.Nat.{ℕ, ◌<◌, ◌^◌}
use native.Mathlib.Omega.{arith}
use lib.Dec.{T}
use lib.IntN.{ℤ, pos, ◌-ℤ◌, nat_abs}
use lib.Signed.{non_neg}
use mir.Syntax.{w32}
use mir.Val.{Fits, SFits}
use Rattle.std.proofs.lemmas.Int.{ints}
use Rattle.arithmetic.proofs.Machine.{held32, stored32}
use Rattle.clip.specs.declared.Span.{Span}
use Rattle.clip.specs.Clip.{clipped_axis}
use Rattle.clip_blit.specs.declared.BlitSpan.{BlitSpan}
use Rattle.clip_blit.specs.Blit.{blit_axis}
use Rattle.clip_blit.proofs.Blit.{blit_drawn, blit_none}
use Rattle.clip_blit.proofs.clip_blit_axis.Goals as goal

-- the clipped source, at the numbers that were passed
as_passed : {s w : ℤ} {cut : Span} (side : ℕ) → SFits w32 s → SFits w32 w → cut ≡ clipped_axis (held32 s) (held32 w) side → cut ≡ clipped_axis s w side
as_passed {s} {w} side S W h = rw (stored32 s S, stored32 w W) at h

-- What is drawn, where there is a pixel: between the code's ends, from a source coordinate that is a natural below the source's side.
abbrev axis : goal.After-from-then-from-to → BlitSpan
axis c = blit_axis c.args.d c.args.s c.args.w c.args.dst_side c.args.src_side

drawn : (c : goal.After-from-then-from-to) → (axis c ≡ record { from = c.clamp-from.result; to = c.clamp-to.result; src = (axis c).src }) × ((pos c.clamp-from.result -ℤ (c.args.d -ℤ c.args.s) ≡ pos (axis c).src) × ((axis c).src < c.args.src_side))
drawn c =
    blit_drawn c.args.d c.args.s c.args.w c.args.dst_side c.args.src_side (as_passed c.args.src_side c.ranges.s c.ranges.w c.clip_axis-cut.ensures) (omega (arith, ints)) (omega (arith, ints)) c.clamp-from.ensures c.clamp-to.ensures c.if-from-to.true

-- an integer that is a small natural can be cast
cast_fits : (z : ℤ) (n : ℕ) → z ≡ pos n → n < 2 ^ 32 → T (non_neg z) × Fits w32 (nat_abs z)
cast_fits z n e h = rw e (tt, record { fits = h })

-- an interval with the definition's source coordinate is the definition's
same_source : {from to src : ℕ} (b : BlitSpan) → b ≡ record { from = from; to = to; src = b.src } → src ≡ b.src → ◌≡◌ {A = BlitSpan} (record { from = from; to = to; src = src }) b
same_source b is e = rw e (sym is)

-- the first source coordinate is below the source's side, so it fits 32 bits
pub overflow_cast-src : goal.overflow_cast-src
overflow_cast-src c = let h = drawn c in cast_fits _ (axis c).src (omega (arith, ints)) (omega arith)

-- the cast gives the definition's source coordinate
pub returns-then-from-to : goal.returns-then-from-to
returns-then-from-to c = let h = drawn c in same_source (axis c) h.0 (omega (arith, ints))

-- the definition draws nothing either
pub returns-else-from-to : goal.returns-else-from-to
returns-else-from-to c =
    sym (blit_none c.args.d c.args.s c.args.w c.args.dst_side c.args.src_side (as_passed c.args.src_side c.ranges.s c.ranges.w c.clip_axis-cut.ensures) (omega (arith, ints)) (omega (arith, ints)) c.clamp-from.ensures c.clamp-to.ensures c.if-from-to.false)
