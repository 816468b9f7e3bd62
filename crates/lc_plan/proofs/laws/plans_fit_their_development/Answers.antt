use Rattle.lc_plan.proofs.Fitting.{plans_fit}
use Rattle.lc_plan.proofs.laws.plans_fit_their_development.Goals as goal

pub returns : goal.returns
returns c = plans_fit
