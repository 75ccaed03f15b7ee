-- `perform::perform` meets its contract. Assumes nothing.
use mathlib.Core.Path.{refl}
use Rattle.std.proofs.lemmas.Result.{err_from_is_err_and}
use Rattle.arithmetic.proofs.Machine.{stored32}
use Rattle.refusals.proofs.Numbers.{number_not_0}
use Rattle.ready.proofs.Ready.{store_lent, panel_lent, record_lent}
use Rattle.paint.specs.Memories.{memories}
use Rattle.plan.specs.Calls.{act}
use Rattle.perform.proofs.Performed.{refused_all, is_lent, performed}
use borrow.Author.Rules.{rules}
use Rattle.perform.proofs.perform.Goals as goal

pub returns-in_err-check : goal.returns-in_err-check
returns-in_err-check c =
    let p = err_from_is_err_and c.from_residual.result c.from_residual.ensures.1 in
    rw (p.1, p.2) (refused_all c.args.call c.args.units.now c.args.numbers.now (memories c.args.panel.now c.args.store.now) c.in_err-check.ensures (number_not_0 _))

pub create_memory_dc-requires : goal.create_memory_dc-requires
create_memory_dc-requires c =
    store_lent (is_lent c.args.call c.args.units.now c.args.numbers.now (memories c.args.panel.now c.args.store.now) c.in_ok-check.ensures refl)

pub create_compatible_bitmap-requires : goal.create_compatible_bitmap-requires
create_compatible_bitmap-requires c =
    store_lent (is_lent c.args.call c.args.units.now c.args.numbers.now (memories c.args.panel.now c.args.store.now) c.in_ok-check.ensures refl)

pub create_solid_brush-requires : goal.create_solid_brush-requires
create_solid_brush-requires c =
    store_lent (is_lent c.args.call c.args.units.now c.args.numbers.now (memories c.args.panel.now c.args.store.now) c.in_ok-check.ensures refl)

pub create_pen-requires : goal.create_pen-requires
create_pen-requires c =
    store_lent (is_lent c.args.call c.args.units.now c.args.numbers.now (memories c.args.panel.now c.args.store.now) c.in_ok-check.ensures refl)

pub create_font-requires : goal.create_font-requires
create_font-requires c =
    store_lent (is_lent c.args.call c.args.units.now c.args.numbers.now (memories c.args.panel.now c.args.store.now) c.in_ok-check.ensures refl)

pub delete-requires : goal.delete-requires
delete-requires c =
    store_lent (is_lent c.args.call c.args.units.now c.args.numbers.now (memories c.args.panel.now c.args.store.now) c.in_ok-check.ensures refl)

pub remove-requires : goal.remove-requires
remove-requires c =
    store_lent (is_lent c.args.call c.args.units.now c.args.numbers.now (memories c.args.panel.now c.args.store.now) c.in_ok-check.ensures refl)

pub select_into-requires : goal.select_into-requires
select_into-requires c =
    record_lent (is_lent c.args.call c.args.units.now c.args.numbers.now (memories c.args.panel.now c.args.store.now) c.in_ok-check.ensures refl)

pub set_text_color-requires : goal.set_text_color-requires
set_text_color-requires c =
    record_lent (is_lent c.args.call c.args.units.now c.args.numbers.now (memories c.args.panel.now c.args.store.now) c.in_ok-check.ensures refl)

pub set_text_align-requires : goal.set_text_align-requires
set_text_align-requires c =
    record_lent (is_lent c.args.call c.args.units.now c.args.numbers.now (memories c.args.panel.now c.args.store.now) c.in_ok-check.ensures refl)

pub set_bk_color-requires : goal.set_bk_color-requires
set_bk_color-requires c =
    record_lent (is_lent c.args.call c.args.units.now c.args.numbers.now (memories c.args.panel.now c.args.store.now) c.in_ok-check.ensures refl)

pub set_bk_mode-requires : goal.set_bk_mode-requires
set_bk_mode-requires c =
    record_lent (is_lent c.args.call c.args.units.now c.args.numbers.now (memories c.args.panel.now c.args.store.now) c.in_ok-check.ensures refl)

pub pattern_fill-requires : goal.pattern_fill-requires
pattern_fill-requires c =
    is_lent c.args.call c.args.units.now c.args.numbers.now (memories c.args.panel.now c.args.store.now) c.in_ok-check.ensures refl

pub rectangle-requires : goal.rectangle-requires
rectangle-requires c =
    is_lent c.args.call c.args.units.now c.args.numbers.now (memories c.args.panel.now c.args.store.now) c.in_ok-check.ensures refl

pub text_out-requires : goal.text_out-requires
text_out-requires c =
    is_lent c.args.call c.args.units.now c.args.numbers.now (memories c.args.panel.now c.args.store.now) c.in_ok-check.ensures refl

pub fill-requires : goal.fill-requires
fill-requires c =
    panel_lent (is_lent c.args.call c.args.units.now c.args.numbers.now (memories c.args.panel.now c.args.store.now) c.in_ok-check.ensures refl)

pub resize-requires : goal.resize-requires
resize-requires c =
    panel_lent (is_lent c.args.call c.args.units.now c.args.numbers.now (memories c.args.panel.now c.args.store.now) c.in_ok-check.ensures refl)

pub blit-requires : goal.blit-requires
blit-requires c =
    is_lent c.args.call c.args.units.now c.args.numbers.now (memories c.args.panel.now c.args.store.now) c.in_ok-check.ensures refl

pub move_to-requires : goal.move_to-requires
move_to-requires c =
    record_lent (is_lent c.args.call c.args.units.now c.args.numbers.now (memories c.args.panel.now c.args.store.now) c.in_ok-check.ensures refl)

pub line_to-requires : goal.line_to-requires
line_to-requires c =
    is_lent c.args.call c.args.units.now c.args.numbers.now (memories c.args.panel.now c.args.store.now) c.in_ok-check.ensures refl

pub returns-in-CreateMemoryDc : goal.returns-in-CreateMemoryDc
unfolding act
returns-in-CreateMemoryDc c =
    performed c.args.call c.args.units.now c.args.numbers.now (memories c.args.panel.now c.args.store.now) c.in_ok-check.ensures refl
    c.in-CreateMemoryDc.is (c.create_memory_dc.ensures _)

pub returns-in-CreateCompatibleBitmap : goal.returns-in-CreateCompatibleBitmap
unfolding act
returns-in-CreateCompatibleBitmap c =
    performed c.args.call c.args.units.now c.args.numbers.now (memories c.args.panel.now c.args.store.now) c.in_ok-check.ensures refl
    c.in-CreateCompatibleBitmap.is (c.create_compatible_bitmap.ensures _)

pub returns-in-CreateSolidBrush : goal.returns-in-CreateSolidBrush
unfolding act
returns-in-CreateSolidBrush c =
    performed c.args.call c.args.units.now c.args.numbers.now (memories c.args.panel.now c.args.store.now) c.in_ok-check.ensures refl
    c.in-CreateSolidBrush.is (c.create_solid_brush.ensures _)

pub returns-in-CreatePen : goal.returns-in-CreatePen
unfolding act
returns-in-CreatePen c =
    performed c.args.call c.args.units.now c.args.numbers.now (memories c.args.panel.now c.args.store.now) c.in_ok-check.ensures refl
    c.in-CreatePen.is (c.create_pen.ensures _)

pub returns-in-CreateFont : goal.returns-in-CreateFont
unfolding act
returns-in-CreateFont c =
    performed c.args.call c.args.units.now c.args.numbers.now (memories c.args.panel.now c.args.store.now) c.in_ok-check.ensures refl
    c.in-CreateFont.is (rw (stored32 c.in-CreateFont.height (search rules)) at (c.create_font.ensures c.args.panel.now))

pub returns-in-Delete : goal.returns-in-Delete
unfolding act
returns-in-Delete c =
    performed c.args.call c.args.units.now c.args.numbers.now (memories c.args.panel.now c.args.store.now) c.in_ok-check.ensures refl
    c.in-Delete.is (c.delete.ensures _)

pub returns-in-Remove : goal.returns-in-Remove
unfolding act
returns-in-Remove c =
    performed c.args.call c.args.units.now c.args.numbers.now (memories c.args.panel.now c.args.store.now) c.in_ok-check.ensures refl
    c.in-Remove.is (c.remove.ensures _)

pub returns-in-SelectInto : goal.returns-in-SelectInto
unfolding act
returns-in-SelectInto c =
    performed c.args.call c.args.units.now c.args.numbers.now (memories c.args.panel.now c.args.store.now) c.in_ok-check.ensures refl
    c.in-SelectInto.is (c.select_into.ensures _)

pub returns-in-SetTextColor : goal.returns-in-SetTextColor
unfolding act
returns-in-SetTextColor c =
    performed c.args.call c.args.units.now c.args.numbers.now (memories c.args.panel.now c.args.store.now) c.in_ok-check.ensures refl
    c.in-SetTextColor.is (c.set_text_color.ensures _)

pub returns-in-SetTextAlign : goal.returns-in-SetTextAlign
unfolding act
returns-in-SetTextAlign c =
    performed c.args.call c.args.units.now c.args.numbers.now (memories c.args.panel.now c.args.store.now) c.in_ok-check.ensures refl
    c.in-SetTextAlign.is (c.set_text_align.ensures _)

pub returns-in-SetBkColor : goal.returns-in-SetBkColor
unfolding act
returns-in-SetBkColor c =
    performed c.args.call c.args.units.now c.args.numbers.now (memories c.args.panel.now c.args.store.now) c.in_ok-check.ensures refl
    c.in-SetBkColor.is (c.set_bk_color.ensures _)

pub returns-in-SetBkMode : goal.returns-in-SetBkMode
unfolding act
returns-in-SetBkMode c =
    performed c.args.call c.args.units.now c.args.numbers.now (memories c.args.panel.now c.args.store.now) c.in_ok-check.ensures refl
    c.in-SetBkMode.is (c.set_bk_mode.ensures _)

pub returns-in-PatternFill : goal.returns-in-PatternFill
unfolding act
returns-in-PatternFill c =
    performed c.args.call c.args.units.now c.args.numbers.now (memories c.args.panel.now c.args.store.now) c.in_ok-check.ensures refl
    c.in-PatternFill.is c.pattern_fill.ensures

pub returns-in-Rectangle : goal.returns-in-Rectangle
unfolding act
returns-in-Rectangle c =
    performed c.args.call c.args.units.now c.args.numbers.now (memories c.args.panel.now c.args.store.now) c.in_ok-check.ensures refl
    c.in-Rectangle.is c.rectangle.ensures

pub returns-in-Text : goal.returns-in-Text
unfolding act
returns-in-Text c =
    performed c.args.call c.args.units.now c.args.numbers.now (memories c.args.panel.now c.args.store.now) c.in_ok-check.ensures refl
    c.in-Text.is c.text_out.ensures

pub returns-in-PanelFill : goal.returns-in-PanelFill
unfolding act
returns-in-PanelFill c =
    performed c.args.call c.args.units.now c.args.numbers.now (memories c.args.panel.now c.args.store.now) c.in_ok-check.ensures refl
    c.in-PanelFill.is (c.fill.ensures _)

pub returns-in-Resize : goal.returns-in-Resize
unfolding act
returns-in-Resize c =
    performed c.args.call c.args.units.now c.args.numbers.now (memories c.args.panel.now c.args.store.now) c.in_ok-check.ensures refl
    c.in-Resize.is (c.resize.ensures _)

pub returns-in-Blit : goal.returns-in-Blit
unfolding act
returns-in-Blit c =
    performed c.args.call c.args.units.now c.args.numbers.now (memories c.args.panel.now c.args.store.now) c.in_ok-check.ensures refl
    c.in-Blit.is c.blit.ensures

pub returns-in-MoveTo : goal.returns-in-MoveTo
unfolding act
returns-in-MoveTo c =
    performed c.args.call c.args.units.now c.args.numbers.now (memories c.args.panel.now c.args.store.now) c.in_ok-check.ensures refl
    c.in-MoveTo.is (c.move_to.ensures _)

pub returns-in-LineTo : goal.returns-in-LineTo
unfolding act
returns-in-LineTo c =
    performed c.args.call c.args.units.now c.args.numbers.now (memories c.args.panel.now c.args.store.now) c.in_ok-check.ensures refl
    c.in-LineTo.is c.line_to.ensures
