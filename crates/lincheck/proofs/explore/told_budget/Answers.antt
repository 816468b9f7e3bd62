use Rattle.lincheck.proofs.Exploring.{budget_told}
use Rattle.lincheck.proofs.explore.told_budget.Goals as goal

pub returns : goal.returns
returns c = λ bare D scripts. budget_told c.args.budget bare D scripts c.in_ok-text.text.items c.allowed.result c.in_ok-text.ensures c.allowed.ensures
