use Rattle.std.proofs.lemmas.Result.{on_ok_weaker}
use Rattle.lc_put.proofs.ByNumber.{are_columns_later, are_terms_later}
use Rattle.lc_table.proofs.Later.{are_formulas_still, kept_on}
use Rattle.lc_cond.proofs.Adding.{formulas_later, terms_later, columns_later, adds_on}
use Rattle.lc_cond.proofs.telling.push_both_told.Goals as goal

pub push_told-requires-clause-done : goal.push_told-requires-clause-done
push_told-requires-clause-done c = c.nothing_replaced-done.ensures _ _

pub push_told-requires-2-clause-columns : goal.push_told-requires-2-clause-columns
push_told-requires-2-clause-columns c = are_columns_later c.args.terms.now c.push_told.new.terms c.args.put.columns.now c.requires.columns c.in_ok-push_told.ensures.kept

pub push_told-requires-2-clause-variables : goal.push_told-requires-2-clause-variables
push_told-requires-2-clause-variables c = are_terms_later c.args.terms.now c.push_told.new.terms c.args.put.variables.now c.requires.variables c.in_ok-push_told.ensures.kept

pub push_told-requires-2-clause-formulas : goal.push_told-requires-2-clause-formulas
push_told-requires-2-clause-formulas c = are_formulas_still c.args.terms.now c.push_told.new.terms c.args.second.now c.requires.second c.in_ok-push_told.ensures.kept

pub returns-clause-kept : goal.returns-clause-kept
returns-clause-kept c = kept_on c.args.terms.now c.push_told.new.terms c.push_told-2.new.terms c.in_ok-push_told.ensures.kept c.push_told-2.ensures.kept

pub returns-clause-list : goal.returns-clause-list
returns-clause-list c =
    let t0 = c.args.terms.now in
    let t1 = c.push_told.new.terms in
    let kept = c.in_ok-push_told.ensures.kept in
    on_ok_weaker c.push_told-2.result
    (λ list σ τ hs fs gs columns variables known first second. adds_on c.args.conditions.now.items c.push_told.new.conditions.items c.push_told-2.new.conditions.items t1 c.push_told-2.new.terms _ _
    (c.in_ok-push_told.ensures.list σ τ hs fs columns variables known first) c.push_told-2.ensures.kept
    (list σ τ hs gs (columns_later t0 t1 c.args.put.columns.now σ columns kept) (terms_later t0 t1 c.args.put.variables.now τ variables kept)
    (formulas_later t0 t1 c.args.known.now hs known kept) (formulas_later t0 t1 c.args.second.now gs second kept))) c.push_told-2.ensures.list
