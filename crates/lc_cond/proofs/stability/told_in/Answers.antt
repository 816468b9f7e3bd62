use Rattle.lc_put.proofs.ByNumber.{are_columns_later, are_terms_later}
use Rattle.lc_table.proofs.Later.{are_formulas_still}
use Rattle.lc_cond.proofs.Adding.{formulas_later, terms_later, columns_later}
use Rattle.lc_cond.proofs.stability.told_in.Goals as goal

pub told_by_number-requires-clause-done : goal.told_by_number-requires-clause-done
told_by_number-requires-clause-done c = c.nothing_replaced-done.ensures _ _

pub told_by_number-requires-2-clause-columns : goal.told_by_number-requires-2-clause-columns
told_by_number-requires-2-clause-columns c = are_columns_later c.args.terms.now c.told_by_number.new.terms c.args.columns.now c.requires.columns c.in_ok-invariant.ensures.kept

pub told_by_number-requires-2-clause-variables : goal.told_by_number-requires-2-clause-variables
told_by_number-requires-2-clause-variables c = are_terms_later c.args.terms.now c.told_by_number.new.terms c.args.given.now.variables.now c.requires.variables c.in_ok-invariant.ensures.kept

pub told_by_number-requires-2-clause-formulas : goal.told_by_number-requires-2-clause-formulas
told_by_number-requires-2-clause-formulas c = are_formulas_still c.args.terms.now c.told_by_number.new.terms c.args.given.now.asserts.now c.requires.asserts c.in_ok-invariant.ensures.kept

pub returns-clause-invariant : goal.returns-clause-invariant
returns-clause-invariant c = λ σ τ fs columns variables has.
    formulas_later c.told_by_number.new.terms c.told_by_number-2.new.terms c.in_ok-invariant.invariant.items _ (c.in_ok-invariant.ensures.list σ τ fs columns variables has) c.in_ok-asserts.ensures.kept

pub returns-clause-asserts : goal.returns-clause-asserts
returns-clause-asserts c =
    let t0 = c.args.terms.now in
    let t1 = c.told_by_number.new.terms in
    let kept = c.in_ok-invariant.ensures.kept in
    λ σ τ fs columns variables has. c.in_ok-asserts.ensures.list σ τ fs (columns_later t0 t1 c.args.columns.now σ columns kept) (terms_later t0 t1 c.args.given.now.variables.now τ variables kept)
    (formulas_later t0 t1 c.args.given.now.asserts.now fs has kept)
