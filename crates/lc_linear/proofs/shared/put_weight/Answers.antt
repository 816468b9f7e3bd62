use Rattle.lc_linear.proofs.Loads.{weights_put}
use Rattle.lc_linear.proofs.shared.put_weight.Goals as goal

pub returns : goal.returns
returns c = weights_put c.args.terms.now c.args.node _ c.args.weights.now.entries c.insert.new.self.entries c.in_ok-insert.ensures.entries c.in-Some.ensures c.requires.weights
