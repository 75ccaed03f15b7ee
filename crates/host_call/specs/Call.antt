-- The call that numbers encode.
use Rattle.std.specs.Prelude.{Option, Some, None, cond, eqb, leb}
use Rattle.plan.specs.declared.Area.{Area}
use Rattle.plan.specs.declared.Point.{Point}
use Rattle.plan.specs.declared.Call.{Call}
use Rattle.plan.specs.declared.Call.TheVariants.{CreateMemoryDc, CreateCompatibleBitmap, CreateSolidBrush, CreatePen, CreateFont, Delete, Remove, SelectInto, SetTextColor, SetTextAlign, SetBkColor, SetBkMode, PatternFill, Rectangle, Text, PanelFill, Resize, Blit, MoveTo, LineTo}
use Rattle.host_call.specs.declared.HostCall.{HostCall}

abbrev pub area_of : HostCall → Area
area_of c = record { x = c.x; y = c.y; w = c.w; h = c.h }

abbrev pub at_of : HostCall → Point
at_of c = record { x = c.x; y = c.y }

abbrev pub from_of : HostCall → Point
from_of c = record { x = c.src_x; y = c.src_y }

-- Calls have the numbers of call scripts. A background mode is 0 or 1, and a panel fill has no high bit set. Other numbers are no
-- call: None.
unfoldable pub call_of : HostCall → Option Call
call_of c =
    cond (eqb c.call 1) (Some CreateMemoryDc) (
    cond (eqb c.call 2) (Some (CreateCompatibleBitmap c.a c.b)) (
    cond (eqb c.call 3) (Some (CreateSolidBrush (record { 0 = c.a }))) (
    cond (eqb c.call 4) (Some (CreatePen (record { 0 = c.a }) c.b)) (
    cond (eqb c.call 5) (Some (CreateFont c.h)) (
    cond (eqb c.call 6) (Some (Delete c.a)) (
    cond (eqb c.call 7) (Some (Remove c.a)) (
    cond (eqb c.call 8) (Some (SelectInto c.dc c.a)) (
    cond (eqb c.call 9) (Some (SetTextColor c.dc (record { 0 = c.a }))) (
    cond (eqb c.call 10) (Some (SetTextAlign c.dc c.a)) (
    cond (eqb c.call 11) (Some (SetBkColor c.dc (record { 0 = c.a }))) (
    cond (eqb c.call 12) (cond (leb c.a 1) (Some (SetBkMode c.dc (eqb c.a 1))) None) (
    cond (eqb c.call 13) (Some (PatternFill c.dc (area_of c) c.a)) (
    cond (eqb c.call 14) (Some (Rectangle c.dc (area_of c))) (
    cond (eqb c.call 15) (Some (Text c.dc (at_of c))) (
    cond (eqb c.call 16) (cond (leb c.a 65535) (Some (PanelFill (record { 0 = c.a }))) None) (
    cond (eqb c.call 17) (Some (Resize c.a c.b)) (
    cond (eqb c.call 18) (Some (Blit c.dc (area_of c) c.src (from_of c) c.a)) (
    cond (eqb c.call 19) (Some (MoveTo c.dc (at_of c))) (
    cond (eqb c.call 20) (Some (LineTo c.dc (at_of c)))
    None)))))))))))))))))))
