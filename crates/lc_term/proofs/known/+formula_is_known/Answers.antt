use Rattle.std.proofs.Common.{◌∙◌}
use Rattle.lc_term.specs.Places.{known}
use Rattle.lc_term.proofs.Depths.{body_passes}
use Rattle.lc_term.proofs.known.+formula_is_known.Goals as goal

pub formula_is_known-returns-in-Forall : goal.formula_is_known-returns-in-Forall
formula_is_known-returns-in-Forall t c =
    c.formula_is_known-in-Forall.ensures ∙ body_passes (known c.args.columns c.args.variables) c.args.formula.now c.in-Forall.body c.deref-in-Forall.result.now c.in-Forall.is c.deref-in-Forall.ensures
