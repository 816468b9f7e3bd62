use Rattle.std.proofs.Common.{◌∙◌}
use Rattle.lc_term.proofs.Depths.{body_passes}
use Rattle.lc_carry.specs.Renaming.{column_for, covered}
use Rattle.lc_carry.proofs.covering.+is_formula_covered.Goals as goal

pub is_formula_covered-returns-in-Forall : goal.is_formula_covered-returns-in-Forall
is_formula_covered-returns-in-Forall t c =
    c.is_formula_covered-in-Forall.ensures ∙ body_passes (covered (column_for c.args.columns.now)) c.args.formula.now c.in-Forall.body c.deref-in-Forall.result.now c.in-Forall.is c.deref-in-Forall.ensures
