use Rattle.std.proofs.Common.{ap, sym, ◌∙◌}
use Rattle.lc_term.specs.Equal.{formula_eq}
use Rattle.lc_term.specs.EqualLaws.{Decides-formula_eq}
use Rattle.lc_table.specs.Nodes.{tree_of}
use Rattle.lc_term.specs.Syntax as T
use Rattle.lc_table.specs.Tables.{parts, formulas, formula_in}
use Rattle.lc_kernel.proofs.Numbered.{bool_same}
use Rattle.lc_kernel.proofs.rules.is_negation.Goals as goal

pub returns-in-Not : goal.returns-in-Not
returns-in-Not c =
    let ts = c.args.terms.now in
    let tree = c.formula_node.ensures.tree ∙ ap (tree_of (parts ts) (formulas ts)) c.in-Not.is in
    bool_same c.is_same_formula.result _ c.is_same_formula.ensures (Decides-formula_eq _ _) ∙ sym (ap (λ f. formula_eq f (T.Not (formula_in ts c.args.formula))) tree)
