-- The plan of every call, of a load and of a save, after the refusals that they share.
use Rattle.std.specs.Prelude.{cond, List, ℕ, eqb}
use Rattle.gdi.specs.declared.GdiState.{GdiState}
use Rattle.gdi.specs.declared.GdiObject.TheVariants.{Dc, Brush, Pen, Font}
use Rattle.gdi.specs.Record.{default_dc}
use Rattle.numbers.specs.View.{view, is_record}
use Rattle.ready.specs.Ready.{common_refusal}
use Rattle.plan.specs.declared.Call.{Call}
use Rattle.plan.specs.declared.Call.TheVariants.{CreateMemoryDc, CreateCompatibleBitmap, CreateSolidBrush, CreatePen, CreateFont, Delete, Remove, SelectInto, SetTextColor, SetTextAlign, SetBkColor, SetBkMode, PatternFill, Rectangle, Text, PanelFill, Resize, Blit, MoveTo, LineTo}
use Rattle.plan.specs.Plan.{Plan, refuse}
use Rattle.plan.specs.Create.{create_of, create_bitmap}
use Rattle.plan.specs.Delete.{delete, remove}
use Rattle.plan.specs.Select.{select_into}
use Rattle.plan.specs.Settings.{set_text_color, set_text_align, set_bk_color, set_bk_mode}
use Rattle.plan.specs.Drawing.{pattern_fill, rectangle, text, blit}
use Rattle.plan.specs.Panel.{panel_fill, resize}
use Rattle.plan.specs.Lines.{move_to, line_to}
use Rattle.plan.specs.Load.{load_table}
use Rattle.plan.specs.Save.{save_table}

-- the plan of a call on a ready device; units are those of a text
unfoldable pub act : Call → (units : List ℕ) → GdiState → Plan
act CreateMemoryDc us b = create_of b (Dc default_dc)
act (CreateCompatibleBitmap w h) us b = create_bitmap b w h
act (CreateSolidBrush c) us b = create_of b (Brush (record { color = c }))
act (CreatePen c w) us b = create_of b (Pen (record { color = c; width = w }))
act (CreateFont h) us b = create_of b (Font (record { height = h }))
act (Delete h) us b = delete b h
act (Remove h) us b = remove b h
act (SelectInto dc h) us b = select_into b dc h
act (SetTextColor dc c) us b = set_text_color b dc c
act (SetTextAlign dc v) us b = set_text_align b dc v
act (SetBkColor dc c) us b = set_bk_color b dc c
act (SetBkMode dc t) us b = set_bk_mode b dc t
act (PatternFill dc a rop) us b = pattern_fill b dc a rop
act (Rectangle dc a) us b = rectangle b dc a
act (Text dc at) us b = text b us dc at
act (PanelFill c) us b = panel_fill b c.0
act (Resize w h) us b = resize b w h
act (Blit dc a src from rop) us b = blit b dc a src from rop
act (MoveTo dc to) us b = move_to b dc to
act (LineTo dc to) us b = line_to b dc to

-- What is asked of a device: a call with its units, which only a text looks at; a load of these bytes; or a save into an output of so
-- many bytes. A save is a question: it is answered from the record, and leaves everything as it is.
pub data Invocation : Type 0 where
  call : Call → (units : List ℕ) → Invocation
  load : (bytes : List ℕ) → Invocation
  save : (room : ℕ) → Invocation

-- the plan if the device is ready; 9 and 8 come before all else
abbrev pub when_ready : GdiState → (panel_len store_len : ℕ) → Plan → Plan
when_ready b n k p = cond (eqb (common_refusal b n k) 0) p (refuse (common_refusal b n k) b)

-- the plan of what is asked, from the record and the memories' lengths; a save takes no memory, so it asks for no length
unfoldable pub plan : Invocation → GdiState → (panel_len store_len : ℕ) → Plan
plan (call c us) b n k = when_ready b n k (act c us b)
plan (load bytes) b n k = when_ready b n k (load_table b bytes)
plan (save room) b n k = save_table b room

-- the same on a flat record: 9 if the numbers are no record
unfoldable pub plan_on : Invocation → (l : List ℕ) → (panel_len store_len : ℕ) → Plan
plan_on c l n k = cond (is_record l) (plan c (view l) n k) (refuse 9 (view l))
