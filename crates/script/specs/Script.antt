-- A call script's bytes as a header and calls (docs/call-script.md). Numbers are most significant byte first.
use Rattle.std.specs.Prelude.{Bool, true, false, cond, ◌&&◌, Option, Some, None, List, [], ◌∷◌, ◌≡◌, ℕ, zero, suc, ◌+◌, ◌*◌, ◌≤◌, ◌<◌, eqb, leb, ltb, get_or, length}
use Rattle.bigendian.specs.BigEndian.{be16, be32, signed32}
use Rattle.plan.specs.declared.Area.{Area}
use Rattle.plan.specs.declared.Point.{Point}
use Rattle.plan.specs.declared.Call.{Call}
use Rattle.plan.specs.declared.Call.TheVariants.{CreateMemoryDc, CreateCompatibleBitmap, CreateSolidBrush, CreatePen, CreateFont, Delete, Remove, SelectInto, SetTextColor, SetTextAlign, SetBkColor, SetBkMode, PatternFill, Rectangle, Text, PanelFill, Resize, Blit, MoveTo, LineTo}
use Rattle.script.specs.declared.Header.{Header}
use Rattle.script.specs.declared.Entry.{Entry}
use Rattle.script.specs.declared.Entry.TheVariants.{Look, Call as Is, Load, Save}

-- behind the first four bytes: panel memory length, store length, panel width, panel height, fill byte
abbrev pub header_in : (requests : Bool) → List ℕ → Header
header_in g s =
    record { requests = g; panel_len = be32 s 4; store_len = be32 s 8; width = be32 s 12; height = be32 s 16; fill = get_or s 20 0 }

-- 21 bytes, the first four `GDI1`, or `GDI2` in a script with the calls and fields of change requests; another header is bad
unfoldable pub header_of : List ℕ → Option Header
header_of s =
    cond (leb 21 (length s)) (
    cond (eqb (be32 s 0) 0x47444931) (Some (header_in false s)) (
    cond (eqb (be32 s 0) 0x47444932) (Some (header_in true s)) None))
    None

-- an entry whose n bytes of arguments start at p; one that is cut short is bad
abbrev pub whole : List ℕ → (p n : ℕ) → Entry → Option Entry
whole s p n e = cond (leb (p + n) (length s)) (Some e) None

-- a call whose n bytes of arguments start at p
abbrev pub sized : List ℕ → (p n : ℕ) → Call → Option Entry
sized s p n c = whole s p n (Is c (p + n))

-- coordinates are signed
unfoldable pub point_at : List ℕ → ℕ → Point
point_at s p = record { x = signed32 (be32 s p); y = signed32 (be32 s (p + 4)) }

unfoldable pub area_at : List ℕ → ℕ → Area
area_at s p =
    record { x = signed32 (be32 s p); y = signed32 (be32 s (p + 4)); w = signed32 (be32 s (p + 8)); h = signed32 (be32 s (p + 12)) }

-- the n units of 16 bits from p on
unfoldable pub units_in : List ℕ → (p n : ℕ) → List ℕ
units_in s p zero = []
units_in s p (suc n) = be16 s p ∷ units_in s (p + 2) n

-- The call of byte k, whose arguments start at p: 32 bits each. A background mode is 0 or 1, a panel fill has no high bit set,
-- and a text's number of units, the last of its arguments, is at most 70,000; its units follow the arguments. No call is a bad one.
unfoldable pub script_call : (k : ℕ) → List ℕ → (p : ℕ) → Option Entry
script_call k s p =
    cond (eqb k 1) (sized s p 0 CreateMemoryDc) (
    cond (eqb k 2) (sized s p 8 (CreateCompatibleBitmap (be32 s p) (be32 s (p + 4)))) (
    cond (eqb k 3) (sized s p 4 (CreateSolidBrush (record { 0 = be32 s p }))) (
    cond (eqb k 4) (sized s p 8 (CreatePen (record { 0 = be32 s p }) (be32 s (p + 4)))) (
    cond (eqb k 5) (sized s p 4 (CreateFont (signed32 (be32 s p)))) (
    cond (eqb k 6) (sized s p 4 (Delete (be32 s p))) (
    cond (eqb k 7) (sized s p 4 (Remove (be32 s p))) (
    cond (eqb k 8) (sized s p 8 (SelectInto (be32 s p) (be32 s (p + 4)))) (
    cond (eqb k 9) (sized s p 8 (SetTextColor (be32 s p) (record { 0 = be32 s (p + 4) }))) (
    cond (eqb k 10) (sized s p 8 (SetTextAlign (be32 s p) (be32 s (p + 4)))) (
    cond (eqb k 11) (sized s p 8 (SetBkColor (be32 s p) (record { 0 = be32 s (p + 4) }))) (
    cond (eqb k 12 && leb (be32 s (p + 4)) 1) (sized s p 8 (SetBkMode (be32 s p) (eqb (be32 s (p + 4)) 1))) (
    cond (eqb k 13) (sized s p 24 (PatternFill (be32 s p) (area_at s (p + 4)) (be32 s (p + 20)))) (
    cond (eqb k 14) (sized s p 20 (Rectangle (be32 s p) (area_at s (p + 4)))) (
    cond (eqb k 15 && leb (be32 s (p + 12)) 70000) (sized s p (16 + 2 * be32 s (p + 12)) (Text (be32 s p) (point_at s (p + 4)))) (
    cond (eqb k 16 && leb (be32 s p) 65535) (sized s p 4 (PanelFill (record { 0 = be32 s p }))) (
    cond (eqb k 17) (sized s p 8 (Resize (be32 s p) (be32 s (p + 4)))) (
    cond (eqb k 18) (sized s p 36 (Blit (be32 s p) (area_at s (p + 4)) (be32 s (p + 20)) (point_at s (p + 24)) (be32 s (p + 32))))
    None)))))))))))))))))

-- The calls of change requests: a move or a line to a point; a load, whose bytes follow their number; a save, with the length of its
-- output. A load's bytes and an output are at most 16,384.
unfoldable pub request_call : (k : ℕ) → List ℕ → (p : ℕ) → Option Entry
request_call k s p =
    cond (eqb k 19) (sized s p 12 (MoveTo (be32 s p) (point_at s (p + 4)))) (
    cond (eqb k 20) (sized s p 12 (LineTo (be32 s p) (point_at s (p + 4)))) (
    cond (eqb k 21 && leb (be32 s p) 16384) (whole s p (4 + be32 s p) (Load (p + 4) (be32 s p))) (
    cond (eqb k 22 && leb (be32 s p) 16384) (whole s p 4 (Save (be32 s p) (p + 4)))
    None)))

-- The byte 7F is a look, which has no arguments and is no call on the device. Other bytes from 13 on are calls of change requests,
-- which only some scripts have.
abbrev pub entry_of : (requests : Bool) → (k : ℕ) → List ℕ → (p : ℕ) → Option Entry
entry_of g k s p = cond (eqb k 0x7F) (Some Look) (cond (ltb k 0x13) (script_call k s p) (cond g (request_call k s p) None))

-- the entry at a byte of the script: a look, a call, a load or a save; none at the end of the script, or if it is bad
unfoldable pub call_at : List ℕ → (requests : Bool) → ℕ → Option Entry
call_at s g at = cond (ltb at (length s)) (entry_of g (get_or s at 0) s (at + 1)) None

-- An entry that was read ends after its start and within the script: before `next`, or with the n bytes of a load. An output is at
-- most 16,384 bytes.
abbrev pub EndsWithin : List ℕ → ℕ → Option Entry → Type 0
EndsWithin s at None = Unit
EndsWithin s at (Some Look) = Unit
EndsWithin s at (Some (Is c next)) = (at < next) × (next ≤ length s)
EndsWithin s at (Some (Load start n)) = (at < start) × (start + n ≤ length s)
EndsWithin s at (Some (Save n next)) = (at < next) × ((next ≤ length s) × (n ≤ 16384))

pub record Read (s : List ℕ) (requests : Bool) (at : ℕ) (r : Option Entry) : Type 0 where
  pub same : r ≡ call_at s requests at
  pub behind : EndsWithin s at r
