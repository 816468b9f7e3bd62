use Rattle.std.proofs.Common.{◌++◌, ap, sym, ◌∙◌}
use Rattle.lc_outline_text.specs.Paths.{stands}
use Rattle.lc_outline_text.specs.StoredView.{listed_in}
use Rattle.lc_outline_text.proofs.RidersPassed.{deed_at}
use Rattle.lc_outline_text.proofs.riders.put_way.Goals as goal

pub returns-clause-asked : goal.returns-clause-asked
returns-clause-asked c = c.in_ok-asked.ensures.asked ∙ ap (λ w. w.asked) (sym (deed_at c.args.rider.now c.args.place))

pub returns-clause-stored : goal.returns-clause-stored
returns-clause-stored c = c.in_ok-asked.ensures.stored ∙ ap (λ w. stands (listed_in c.args.set.now ++ w.columns)) (sym (deed_at c.args.rider.now c.args.place))
