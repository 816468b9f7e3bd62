use Rattle.std.proofs.Common.{sym}
use Rattle.lc_action.proofs.Tellable.{bound_put}
use Rattle.lc_action.proofs.telling.bound_told.Goals as goal

pub returns : goal.returns
returns c = λ n. sym (bound_put c.args.before.columns.now c.args.before.variables.now n c.args.number)
