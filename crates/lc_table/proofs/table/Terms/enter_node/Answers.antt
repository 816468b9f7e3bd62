use Rattle.std.proofs.Common.{ap, ◌∙◌, slice_get}
use Rattle.lc_table.proofs.Tables.{formula_added}
use Rattle.lc_table.proofs.table.Terms.enter_node.Goals as goal

pub invariant_of-self-in_err-number : goal.invariant_of-self-in_err-number
invariant_of-self-in_err-number c = (formula_added c.args.self.now c.self.inside.terms.keys c.self.inside.formulas.keys c.insert_full.new.self.keys c.args.node _ c.in_ok-index.index c.self.view_is c.self.invariant c.requires c.in_ok-index.ensures.keys c.in_ok-index.ensures.stored.1 c.in_ok-index.ensures.stored.2).table

pub returns-in_err-number-clause-kept : goal.returns-in_err-number-clause-kept
returns-in_err-number-clause-kept c = (formula_added c.args.self.now c.self.inside.terms.keys c.self.inside.formulas.keys c.insert_full.new.self.keys c.args.node _ c.in_ok-index.index c.self.view_is c.self.invariant c.requires c.in_ok-index.ensures.keys c.in_ok-index.ensures.stored.1 c.in_ok-index.ensures.stored.2).kept

pub invariant_of-self-2 : goal.invariant_of-self-2
invariant_of-self-2 c = (formula_added c.args.self.now c.self.inside.terms.keys c.self.inside.formulas.keys c.insert_full.new.self.keys c.args.node _ c.in_ok-index.index c.self.view_is c.self.invariant c.requires c.in_ok-index.ensures.keys c.in_ok-index.ensures.stored.1 c.in_ok-index.ensures.stored.2).table

pub returns-clause-formula : goal.returns-clause-formula
returns-clause-formula c =
    let e = formula_added c.args.self.now c.self.inside.terms.keys c.self.inside.formulas.keys c.insert_full.new.self.keys c.args.node _ c.in_ok-index.index c.self.view_is c.self.invariant c.requires c.in_ok-index.ensures.keys c.in_ok-index.ensures.stored.1 c.in_ok-index.ensures.stored.2 in
    ap (slice_get _) c.in_ok-number.ensures ∙ e.here

pub returns-clause-kept : goal.returns-clause-kept
returns-clause-kept c = (formula_added c.args.self.now c.self.inside.terms.keys c.self.inside.formulas.keys c.insert_full.new.self.keys c.args.node _ c.in_ok-index.index c.self.view_is c.self.invariant c.requires c.in_ok-index.ensures.keys c.in_ok-index.ensures.stored.1 c.in_ok-index.ensures.stored.2).kept
