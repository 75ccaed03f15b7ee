-- `canvas::draw_on` meets its contract. Assumes nothing.
use mathlib.Core.Path.{◌∙◌}
use borrow.Author.Rules.{rules}
use Rattle.canvas.proofs.Drawn.{marked_or, as_fill, as_outline, as_text, as_line, near, countable}
use Rattle.canvas.proofs.draw_on.Goals as goal

pub draw_units-requires : goal.draw_units-requires
draw_units-requires c =
    record {
      in_order = c.requires.in_order;
      n_in_bounds = countable _ c.requires.drawable c.in-Text.is;
    }

pub draw_line-requires : goal.draw_line-requires
draw_line-requires c =
    record {
      in_order = c.requires.in_order;
      x1_bound = near _ c.requires.drawable c.in-Line.is
          (search rules) (search rules) (search rules) (search rules);
    }

pub returns-in-Fill : goal.returns-in-Fill
returns-in-Fill c =
    let a = c.args in
    let r = as_fill a.units.now a.color.0 a.width a.height a.pixels.now c.requires.in_order
    (search rules) (search rules) (search rules) (search rules)
    c.in-Fill.is c.fill_rect_rop.ensures in
    record { value = c.unwrap_or.ensures ∙ marked_or c.fill_rect_rop.result ∙ r.0; bytes = r.1 }

pub returns-in-Outline : goal.returns-in-Outline
returns-in-Outline c =
    let a = c.args in
    let r = as_outline a.units.now a.color.0 a.width a.height a.pixels.now c.requires.in_order
    (search rules) (search rules) (search rules) (search rules)
    (search rules) c.in-Outline.is c.stroke_rect.ensures in
    record { value = c.unwrap_or-in-Outline.ensures ∙ marked_or c.stroke_rect.result ∙ r.0; bytes = r.1 }

pub returns-in-Text : goal.returns-in-Text
returns-in-Text c =
    let a = c.args in
    let r = as_text a.units.now a.color.0 a.width a.height a.pixels.now (search rules) (search rules)
    (search rules) c.in-Text.is c.draw_units.ensures in
    record { value = r.0; bytes = r.1 }

pub returns-in-Line : goal.returns-in-Line
returns-in-Line c =
    let a = c.args in
    let l = c.draw_line.ensures in
    let r = as_line a.units.now a.color.0 a.width a.height a.pixels.now
    (search rules) (search rules) (search rules) (search rules)
    (search rules) c.in-Line.is l.value l.bytes in
    record { value = r.0; bytes = r.1 }
