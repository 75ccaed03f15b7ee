-- The struct that answers a setting by value, at the type of each setting. Assumes nothing.
use mathlib.Core.Path.{refl}
use denote.Param.{layout}
use denote.Param.Laws.{Laws, Told, of_field}
use denote.Param.Plain.{IsPlain}
use denote.Param.Shared.{copy_shared}
use denote.Struct.Field.{u32-field, bool-field}
use denote.Struct.Laws as LL
use denote.Struct.Laws.{u32-laws, u32-copy, u32-plain, bool-laws, bool-copy, bool-plain}
use Rattle.color.proofs.Colorref.TheLaws as C'
use Rattle.dc_mut.specs.contracts.Change as Change
use Rattle.dc_mut.proofs.Change.TheLaws as Change'
use Rattle.dc_mut.proofs.Setting.{Kind}
use Rattle.dc_mut.proofs.Fields.{colour, number, flag}
use Rattle.dc_mut.proofs.Valued.{Answer}

module _ (K : Kind) (L : Laws K.row) (plain : IsPlain K.row) where
  abbrev told : Told K.row
  told = record { val = K.val; tells = K.tells }

  abbrev pub changed : Answer K
  changed = record {
    row = Change.the_row K.row;
    ty = layout (Change.the_row K.row);
    make = λ d x. record { dc = d; old = x };
    is_made = λ d x is-d is_x. LL.owes (Change.the_type K.row) (Change'.the_laws K.row L told) (record { dc = d; old = x }) (is-d, (is_x, tt));
    typed = λ 𝓛 y v is. ((LL.lawful (Change.the_type K.row) (Change'.the_laws K.row L told) 𝓛).typed y _ is).0;
    makes = λ 𝓛. LL.makes (Change.the_type K.row) (Change'.the_plain K.row plain) 𝓛;
  }

abbrev pub recolored : Answer colour
recolored = changed colour C'.the_row_laws C'.the_row_plain

abbrev pub realigned : Answer number
realigned = changed number (of_field u32-field u32-laws refl (copy_shared u32-field u32-copy)) u32-plain

abbrev pub remoded : Answer flag
remoded = changed flag (of_field bool-field bool-laws refl (copy_shared bool-field bool-copy)) bool-plain
