use Rattle.std.proofs.Common.{◌∙◌}
use Rattle.lc_linear.proofs.Loads.{weight_known}
use Rattle.lc_linear.proofs.shared.known_weight.Goals as goal

pub returns : goal.returns
returns c = weight_known c.args.terms.now c.args.term c.args.weights.now.entries c.copied.result c.requires (c.copied.ensures ∙ c.get.ensures.value)
