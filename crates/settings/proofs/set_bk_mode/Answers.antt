-- `settings::set_bk_mode` meets its contract. Assumes nothing.
use mathlib.Core.Path.{refl}
use borrow.Author.Rules.{rules}
use Rattle.plan.specs.Answer.{flagged}
use Rattle.gdi.specs.Updates.{with_bk_mode}
use Rattle.settings.proofs.Settings.{set_followed}
use Rattle.settings.proofs.set_bk_mode.Goals as goal

pub returns : goal.returns
returns c =
    set_followed (λ d. flagged d.bk_transparent) (λ d. with_bk_mode d c.args.transparent) (λ d. refl) c.args.dc c.set.result c.map.result c.requires.is_record_lem c.set.ensures.set c.set.ensures.kept c.map.ensures.cases
    (λ d after o x changed answer. rw answer (search rules))
