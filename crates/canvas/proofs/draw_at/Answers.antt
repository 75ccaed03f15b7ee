-- `canvas::draw_at` meets its contract. Assumes nothing.
use Rattle.canvas.specs.Inner.{marks_of, drawn_of}
use Rattle.canvas.proofs.Lent.{no_mark, no_byte, mark_at, back_in_panel, back_in_store}
use Rattle.canvas.proofs.draw_at.Goals as goal

pub returns-in-Nowhere : goal.returns-in-Nowhere
returns-in-Nowhere c =
    let a = c.args in
    let e = c.in-Nowhere.is in
    record {
      value = no_mark e (marks_of a.drawing);
      bytes = no_byte e (drawn_of a.drawing a.units.now a.color.0) _;
    }

pub returns-in-Panel : goal.returns-in-Panel
returns-in-Panel c =
    let a = c.args in
    let e = c.in-At.is in
    let r = c.draw_on.ensures in
    record {
      value = mark_at e (marks_of a.drawing) r.value;
      bytes = back_in_panel e (drawn_of a.drawing a.units.now a.color.0) a.panel.now a.store.now c.in-Panel.is r.bytes;
    }

pub returns-in-Store : goal.returns-in-Store
returns-in-Store c =
    let a = c.args in
    let e = c.in-At.is in
    let r = c.draw_on-in-Store.ensures in
    record {
      value = mark_at e (marks_of a.drawing) r.value;
      bytes = back_in_store e (drawn_of a.drawing a.units.now a.color.0) a.panel.now a.store.now c.in-Store.is r.bytes;
    }
