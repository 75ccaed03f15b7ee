-- The operations on a surface, each with its further parameters and the relation that its contract cites.
-- Assumes nothing.
use mathlib.Core.Path.{refl}
use mathlib.Core.List.{[], ◌∷◌}
use denote.Builtin.{u8, u16, u32, bool}
use denote.Param.{layout}
use denote.Param.Laws.{Laws, of_field}
use denote.Param.Shared.{copy_shared}
use denote.RattleType.{RattleType}
use denote.Struct.Field.{u32-field, bool-field}
use denote.Struct.Laws.{u32-laws, u32-copy, bool-laws, bool-copy}
use Rattle.std.specs.contracts.result.Result.{the_row as result_row}
use Rattle.std.proofs.result.Result.TheLaws.{the_row_laws as result_laws}
use Rattle.refusals.specs.contracts.Refusal.{the_row as refusal_row}
use Rattle.refusals.proofs.Refusal.TheLaws.{the_row_laws as refusal_laws}
use Rattle.surface.specs.Refusal.{drawn, advanced}
use Rattle.fill.specs.Fill.{FillRect, FillRectRop}
use Rattle.outline.specs.Outline.{StrokeRect}
use Rattle.blit.specs.Blit.{BlitBytes}
use Rattle.text.specs.Ink.{DrawChar, DrawStr}
use Rattle.surface_struct.proofs.Param.{int, number, colour, slice}
use Rattle.surface_struct.proofs.Operation.{Answer, Operation}

-- an answer's type: what is had of an accepted operation, or why it is refused
abbrev answers : (R : RattleType) → Laws R → Answer
answers R L = record { row = result_row R refusal_row; ty = layout (result_row R refusal_row); typed = λ 𝓛 r v is. (((result_laws R refusal_row L refusal_laws).lawful 𝓛).typed r _ is).0 }

-- whether it made a dirty mark
abbrev drawing : Answer
drawing = answers bool (of_field bool-field bool-laws refl (copy_shared bool-field bool-copy))

-- its advance
abbrev advance : Answer
advance = answers u32 (of_field u32-field u32-laws refl (copy_shared u32-field u32-copy))

abbrev pub fills : Operation
fills = record {
  kind = drawing;
  lives = 0;
  params = int ∷ int ∷ int ∷ int ∷ colour ∷ [];
  does = λ κs (x, (y, (w, (h, (color, _))))). λ width height old r new. FillRect x y w h color.0 width height old (drawn r) new;
}

abbrev pub fills_rop : Operation
fills_rop = record {
  kind = drawing;
  lives = 0;
  params = int ∷ int ∷ int ∷ int ∷ colour ∷ number ∷ [];
  does = λ κs (x, (y, (w, (h, (pat, (rop, _)))))). λ width height old r new. FillRectRop x y w h pat.0 rop width height old (drawn r) new;
}

abbrev pub strokes : Operation
strokes = record {
  kind = drawing;
  lives = 0;
  params = int ∷ int ∷ int ∷ int ∷ colour ∷ [];
  does = λ κs (x, (y, (w, (h, (color, _))))). λ width height old r new. StrokeRect x y w h color.0 width height old (drawn r) new;
}

abbrev pub blits : Operation
blits = record {
  kind = drawing;
  lives = 1;
  params = int ∷ int ∷ int ∷ int ∷ int ∷ int ∷ slice u8 ∷ number ∷ number ∷ number ∷ colour ∷ [];
  does = λ κs (dx, (dy, (sx, (sy, (w, (h, (src, (src-w, (src-h, (rop, (pat, _))))))))))). λ width height old r new. BlitBytes dx dy sx sy w h src.now src-w src-h rop pat.0 width height old (drawn r) new;
}

abbrev pub draws_char : Operation
draws_char = record {
  kind = drawing;
  lives = 0;
  params = int ∷ int ∷ number ∷ colour ∷ [];
  does = λ κs (x, (y, (ch, (color, _)))). λ width height old r new. DrawChar x y ch color.0 width height old (drawn r) new;
}

abbrev pub draws_text : Operation
draws_text = record {
  kind = advance;
  lives = 1;
  params = int ∷ int ∷ slice u16 ∷ colour ∷ [];
  does = λ κs (x, (y, (units, (color, _)))). λ width height old r new. DrawStr x y units.now color.0 width height old (advanced r) new;
}
