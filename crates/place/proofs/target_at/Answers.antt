-- `place::target_at` meets its contract. Assumes nothing.
use Rattle.place.proofs.Targets.{on_screen, unset, gone, on_bitmap}
use Rattle.numbers.specs.View.{view}
use Rattle.place.proofs.target_at.Goals as goal

pub returns-in-Screen : goal.returns-in-Screen
returns-in-Screen c =
    on_screen _ _ c.in-Screen.is c.where_is-site.ensures

pub returns-in_default : goal.returns-in_default
returns-in_default c =
    unset (view c.args.numbers.now) c.args.dc c.in-Created.is c.in_default.is

pub returns-in-Nowhere : goal.returns-in-Nowhere
returns-in-Nowhere c =
    gone (view c.args.numbers.now) c.args.dc c.in-Created.is c.in-Some.is c.where_is-site-in-Created.ensures c.in-Nowhere.is

pub returns-in-At : goal.returns-in-At
returns-in-At c =
    on_bitmap (view c.args.numbers.now) c.args.dc c.in-Created.is c.in-Some.is c.where_is-site-in-Created.ensures c.in-At.is
