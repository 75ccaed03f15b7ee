-- `unpack::object_held` meets its contract. Assumes nothing.
use mathlib.Core.Path.{◌∙◌, ap, subst}
use Prim.Native.Nat.{ℕ}
use native.Mathlib.Omega.{arith}
use mathlib.Core.List.{List}
use Rattle.bits.specs.Bits.{bits_of}
use Rattle.bits.specs.Inner.{FieldsFit}
use Rattle.gdi.specs.declared.GdiObject.TheVariants.{Dc as DcOf}
use Rattle.unpack.proofs.Blocks.{held_dc, held_bitmap, held_pen, held_other}
use Rattle.saved_table.proofs.Lengths.{widths_dc, widths_bitmap, widths_pen, widths_other}
use Rattle.unpack.proofs.object_held.Goals as goal

pub dc_held-d-requires : goal.dc_held-d-requires
dc_held-d-requires c =
    subst (λ (ws : List ℕ). FieldsFit c.args.bytes.now c.args.at ws) (widths_dc _ c.in-0.is) c.requires

pub object_as-requires : goal.object_as-requires
object_as-requires c =
    record {
      fields_fit = subst (λ (ws : List ℕ). FieldsFit c.args.bytes.now c.args.at ws) (widths_bitmap _ c.in-1.is) c.requires;
      widths_len_bound = omega arith;
    }

pub object_as-requires-in-3 : goal.object_as-requires-in-3
object_as-requires-in-3 c =
    record {
      fields_fit = subst (λ (ws : List ℕ). FieldsFit c.args.bytes.now c.args.at ws) (widths_pen _ c.in-3.is) c.requires;
      widths_len_bound = omega arith;
    }

pub object_as-requires-in_default : goal.object_as-requires-in_default
object_as-requires-in_default c =
    let r = c.in_default.in_default-own.rest in
    record {
      fields_fit = subst (λ (ws : List ℕ). FieldsFit c.args.bytes.now c.args.at ws) (widths_other _ r.0.0.1 r.0.1 r.1) c.requires;
      widths_len_bound = omega arith;
    }

pub returns-in-0 : goal.returns-in-0
returns-in-0 c =
    ap DcOf c.dc_held-d.ensures ∙ held_dc c.args.kind (bits_of c.args.bytes.now) c.args.at c.in-0.is

pub returns-in-1 : goal.returns-in-1
returns-in-1 c =
    c.object_as.ensures ∙ held_bitmap c.args.kind (bits_of c.args.bytes.now) c.args.at c.in-1.is

pub returns-in-3 : goal.returns-in-3
returns-in-3 c =
    c.object_as-in-3.ensures ∙ held_pen c.args.kind (bits_of c.args.bytes.now) c.args.at c.in-3.is

pub returns-in_default : goal.returns-in_default
returns-in_default c =
    let r = c.in_default.in_default-own.rest in
    c.object_as-in_default.ensures ∙ held_other c.args.kind (bits_of c.args.bytes.now) c.args.at r.0.0.1 r.0.1 r.1
