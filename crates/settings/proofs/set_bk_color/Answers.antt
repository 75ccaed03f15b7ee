-- `settings::set_bk_color` meets its contract. Assumes nothing.
use mathlib.Core.Path.{refl}
use borrow.Author.Rules.{rules}
use Rattle.plan.specs.Answer.{answered}
use Rattle.gdi.specs.Updates.{with_bk_color}
use Rattle.settings.proofs.Settings.{set_followed}
use Rattle.settings.proofs.set_bk_color.Goals as goal

pub returns : goal.returns
returns c =
    set_followed (λ d. answered d.bk_color.0) (λ d. with_bk_color d c.args.color) (λ d. refl) c.args.dc c.set.result c.map.result c.requires.is_record_lem c.set.ensures.set c.set.ensures.kept c.map.ensures.cases
    (λ d after o x changed answer. rw answer (search rules))
