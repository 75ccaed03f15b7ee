-- The four settings of a DC, as fields of its record. Assumes nothing.
use mathlib.Core.Path.{refl}
use mir.Syntax.{w32, ty_int, ty_bool}
use mir.Val.{vint, vbool}
use denote.Builtin.{u32, bool}
use denote.Plain.{uint_Tells, uint_Makes, uint_Lawful, bool_Tells, bool_Makes, bool_Lawful}
use denote.Struct.At.{Are, is_get, is_put}
use denote.Struct.Laws as LL
use Rattle.color.specs.contracts.Colorref as C
use Rattle.color.proofs.Colorref.TheLaws as C'
use Rattle.gdi.specs.declared.Dc.{Dc}
use Rattle.gdi.specs.Updates.{with_text_color, with_text_align, with_bk_color, with_bk_mode}
use Rattle.gdi.specs.contracts.Dc as T
use Rattle.gdi.proofs.Dc.TheLaws as T'
use Rattle.dc_mut.proofs.Setting.{Kind, Setting, IsDc, spelled}

abbrev pub colour : Kind
colour = record {
  row = C.the_row;
  ty = C'.mir;
  val = LL.val C.the_type C'.the_laws;
  tells = LL.tells C.the_type C'.the_laws;
  typed = λ 𝓛 x is. ((LL.lawful C.the_type C'.the_laws 𝓛).typed x _ is).0;
  makes = λ 𝓛. LL.makes C.the_type C'.the_plain 𝓛;
  last = λ x. tt;
  silent = λ x f. refl;
}

abbrev pub number : Kind
number = record {
  row = u32;
  ty = ty_int w32;
  val = vint w32;
  tells = uint_Tells w32;
  typed = λ 𝓛 x is. ((uint_Lawful 𝓛 w32).typed x _ is).0;
  makes = λ 𝓛. uint_Makes 𝓛 w32;
  last = λ x. tt;
  silent = λ x f. refl;
}

abbrev pub flag : Kind
flag = record {
  row = bool;
  ty = ty_bool;
  val = vbool;
  tells = bool_Tells;
  typed = λ 𝓛 x is. ((bool_Lawful 𝓛).typed x _ is).0;
  makes = λ 𝓛. bool_Makes 𝓛;
  last = λ x. tt;
  silent = λ x f. refl;
}

-- what is known of each field of a DC
pub known : (d : Dc) → IsDc d → Are (T.the_type).parts T'.the_laws ((T.struct).as_values d)
known d is = LL.owed T.the_type T'.the_laws d (spelled d) is

abbrev pub text_color : Setting colour
text_color = record {
  at = 7;
  off = 32;
  there = refl;
  old = λ d. d.text_color;
  new = with_text_color;
  gets = λ d. refl;
  puts = λ d x. refl;
  is_old = λ d is. is_get (T.the_type).parts T'.the_laws 7 ((T.struct).as_values d) (known d is);
  is_new = λ d x is i. LL.owes T.the_type T'.the_laws (with_text_color d x) (is_put (T.the_type).parts T'.the_laws 7 x ((T.struct).as_values d) (known d is) i);
}

abbrev pub text_align : Setting number
text_align = record {
  at = 8;
  off = 36;
  there = refl;
  old = λ d. d.text_align;
  new = with_text_align;
  gets = λ d. refl;
  puts = λ d x. refl;
  is_old = λ d is. is_get (T.the_type).parts T'.the_laws 8 ((T.struct).as_values d) (known d is);
  is_new = λ d x is i. LL.owes T.the_type T'.the_laws (with_text_align d x) (is_put (T.the_type).parts T'.the_laws 8 x ((T.struct).as_values d) (known d is) i);
}

abbrev pub bk_color : Setting colour
bk_color = record {
  at = 9;
  off = 40;
  there = refl;
  old = λ d. d.bk_color;
  new = with_bk_color;
  gets = λ d. refl;
  puts = λ d x. refl;
  is_old = λ d is. is_get (T.the_type).parts T'.the_laws 9 ((T.struct).as_values d) (known d is);
  is_new = λ d x is i. LL.owes T.the_type T'.the_laws (with_bk_color d x) (is_put (T.the_type).parts T'.the_laws 9 x ((T.struct).as_values d) (known d is) i);
}

abbrev pub bk_mode : Setting flag
bk_mode = record {
  at = 10;
  off = 44;
  there = refl;
  old = λ d. d.bk_transparent;
  new = with_bk_mode;
  gets = λ d. refl;
  puts = λ d x. refl;
  is_old = λ d is. is_get (T.the_type).parts T'.the_laws 10 ((T.struct).as_values d) (known d is);
  is_new = λ d x is i. LL.owes T.the_type T'.the_laws (with_bk_mode d x) (is_put (T.the_type).parts T'.the_laws 10 x ((T.struct).as_values d) (known d is) i);
}
