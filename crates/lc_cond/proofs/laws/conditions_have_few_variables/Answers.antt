use Rattle.lc_outline.proofs.Resolving.{passed_is_resolved}
use Rattle.lc_outline.specs.DevelopmentView.{development_view}
use Rattle.lc_cond.proofs.VariableCounts.{have_few_variables}
use Rattle.lc_cond.proofs.laws.conditions_have_few_variables.Goals as goal

pub returns : goal.returns
returns c = have_few_variables (development_view c.args.development.now) (passed_is_resolved (development_view c.args.development.now) c.args.development.now.resolved)
