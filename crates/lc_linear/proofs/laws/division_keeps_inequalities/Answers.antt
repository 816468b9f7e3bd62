use Rattle.lc_linear.proofs.Refutes.{divided_holds}
use Rattle.lc_linear.proofs.laws.division_keeps_inequalities.Goals as goal

pub returns : goal.returns
returns c = divided_holds
