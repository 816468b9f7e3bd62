use Rattle.std.proofs.Common.{ap, sym, ◌∙◌, subst}
use Rattle.std.specs.Option.{option_copied}
use Rattle.lc_table.proofs.Tables.{NodeAt, formula_node_at}
use Rattle.lc_table.proofs.table.Terms.formula_node.Goals as goal

pub unreachable-requires : goal.unreachable-requires
unreachable-requires c =
    let at = formula_node_at c.args.self.now _ c.self.inside.formulas.keys c.args.formula.0 c.self.view_is c.self.invariant c.requires in
    subst (NodeAt c.args.self.now c.args.formula.0) (sym c.get_index.ensures.key ∙ ap option_copied c.in-None.is) at

pub returns-clause-tree : goal.returns-clause-tree
returns-clause-tree c =
    let at = formula_node_at c.args.self.now _ c.self.inside.formulas.keys c.args.formula.0 c.self.view_is c.self.invariant c.requires in
    (subst (NodeAt c.args.self.now c.args.formula.0) (sym c.get_index.ensures.key ∙ ap option_copied c.in-Some.is) at).0

pub returns-clause-fits : goal.returns-clause-fits
returns-clause-fits c =
    let at = formula_node_at c.args.self.now _ c.self.inside.formulas.keys c.args.formula.0 c.self.view_is c.self.invariant c.requires in
    (subst (NodeAt c.args.self.now c.args.formula.0) (sym c.get_index.ensures.key ∙ ap option_copied c.in-Some.is) at).1

pub returns-clause-below : goal.returns-clause-below
returns-clause-below c =
    let at = formula_node_at c.args.self.now _ c.self.inside.formulas.keys c.args.formula.0 c.self.view_is c.self.invariant c.requires in
    (subst (NodeAt c.args.self.now c.args.formula.0) (sym c.get_index.ensures.key ∙ ap option_copied c.in-Some.is) at).2
