use Rattle.lc_outline.specs.DevelopmentView.{development_view}
use Rattle.lc_cond.proofs.Sized.{are_counted}
use Rattle.lc_cond.proofs.laws.conditions_are_counted.Goals as goal

pub returns : goal.returns
returns c = are_counted (development_view c.args.development.now) c.args.development.now.resolved
