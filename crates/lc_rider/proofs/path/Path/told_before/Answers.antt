use Rattle.std.proofs.Common.{subst, sym, IfOk}
use Rattle.lc_put.specs.PutNumbers.{AreColumns}
use Rattle.lc_term.specs.Syntax.{Formula}
use Rattle.lc_table.specs.Tables.{HasFormula}
use Rattle.lc_term.specs.View.{formula_of}
use Rattle.lc_put.proofs.ByNumber.{are_columns_later, are_terms_later}
use Rattle.lc_rider.proofs.Saying.{told_is}
use Rattle.lc_rider.proofs.path.Path.told_before.Goals as goal

pub put_in_formula-requires-clause-columns : goal.put_in_formula-requires-clause-columns
put_in_formula-requires-clause-columns c =
    subst (AreColumns c.enter_formula.new.self) (sym c.deref.ensures.value)
    (are_columns_later c.args.terms.now c.enter_formula.new.self c.args.self.now.columns.items c.requires.path.columns c.enter_formula.ensures.kept)

pub put_in_formula-requires-clause-variables : goal.put_in_formula-requires-clause-variables
put_in_formula-requires-clause-variables c = are_terms_later c.args.terms.now c.enter_formula.new.self c.args.variables.now c.requires.variables c.enter_formula.ensures.kept

pub put_in_formula-requires-clause-done : goal.put_in_formula-requires-clause-done
put_in_formula-requires-clause-done c = c.nothing_replaced-done.ensures _ _

pub returns-clause-id : goal.returns-clause-id
returns-clause-id c =
    subst (λ (f : Formula). IfOk c.put_in_formula.result (λ k. HasFormula c.put_in_formula.new.table k f))
    (told_is c.args.terms.now c.enter_formula.new.self c.args.self.now.columns.items c.deref.result.now c.args.variables.now c.requires.path.columns c.requires.variables c.enter_formula.ensures.kept c.deref.ensures.value
    c.in_ok-formula.formula (formula_of c.args.formula.now) c.in_ok-formula.ensures.id)
    c.put_in_formula.ensures.id
