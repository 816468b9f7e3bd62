use Rattle.std.proofs.Common.{◌∙◌}
use Rattle.lc_term.proofs.Depths.{body_passes}
use Rattle.lc_kernel.specs.Below.{below}
use Rattle.lc_kernel.proofs.below.+formula_below.Goals as goal

pub formula_below-returns-in-Forall : goal.formula_below-returns-in-Forall
formula_below-returns-in-Forall t c = c.formula_below-in-Forall.ensures ∙ body_passes (below c.args.count) c.args.formula.now c.in-Forall.body c.deref-in-Forall.result.now c.in-Forall.is c.deref-in-Forall.ensures
