use Rattle.lc_outline.proofs.Resolving.{passed_is_resolved}
use Rattle.lc_outline.specs.DevelopmentView.{development_view}
use Rattle.lc_cond.proofs.BelowConditions.{use_their_variables}
use Rattle.lc_cond.proofs.laws.conditions_use_their_variables.Goals as goal

pub returns : goal.returns
returns c = use_their_variables (development_view c.args.development.now) (passed_is_resolved (development_view c.args.development.now) c.args.development.now.resolved)
