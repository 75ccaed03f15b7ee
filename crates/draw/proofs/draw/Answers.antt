-- `draw::draw` meets its contract. Assumes nothing.
use Rattle.place.specs.declared.Site.{Site}
use mathlib.Core.Path.{ap}
use Rattle.draw.proofs.Drawings.{within_lent, stroke_made}
use Rattle.draw.proofs.draw.Goals as goal

pub draw_at-due-requires : goal.draw_at-due-requires
draw_at-due-requires c =
    record {
      within = within_lent c.requires.lent.ready c.requires.site_found;
      drawable = c.requires.drawable;
    }

pub mark_dirty_if-requires : goal.mark_dirty_if-requires
mark_dirty_if-requires c =
    record {
      numbers_value = c.requires.lent.is_record_lem;
      slot_value = ap (λ (i : Site). i.slot) c.requires.site_found.same;
    }

pub returns : goal.returns
returns c =
    stroke_made c.requires.site_found c.args.drawing c.args.units.now c.args.color.0 c.draw_at-due.ensures.value c.mark_dirty_if.ensures c.draw_at-due.ensures.bytes
