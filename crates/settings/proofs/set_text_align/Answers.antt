-- `settings::set_text_align` meets its contract. Assumes nothing.
use mathlib.Core.Path.{refl}
use borrow.Author.Rules.{rules}
use Rattle.plan.specs.Answer.{answered}
use Rattle.gdi.specs.Updates.{with_text_align}
use Rattle.settings.proofs.Settings.{set_followed}
use Rattle.settings.proofs.set_text_align.Goals as goal

pub returns : goal.returns
returns c =
    set_followed (λ d. answered d.text_align) (λ d. with_text_align d c.args.align) (λ d. refl) c.args.dc c.set.result c.map.result c.requires.is_record_lem c.set.ensures.set c.set.ensures.kept c.map.ensures.cases
    (λ d after o x changed answer. rw answer (search rules))
