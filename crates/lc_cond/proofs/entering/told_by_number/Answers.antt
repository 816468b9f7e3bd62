use Rattle.std.proofs.Common.{rules, ◌≡◌, ◌++◌, [], ◌∷◌, map, get_or, sym, subst, ap, ap₂, ◌∙◌}
use Rattle.std.proofs.lemmas.List.{take_all}
use Rattle.lc_put.specs.Put.{Remembers}
use Rattle.lc_put.specs.PutNumbers.{replacement_at}
use Rattle.lc_term.specs.Replacement.{replace}
use Rattle.lc_table.specs.Tables.{formula_in, formulas_in, HasFormula}
use Rattle.lc_put.proofs.ByNumber.{are_columns_later, are_terms_later, replacement_still}
use Rattle.lc_table.proofs.Later.{kept_on}
use Rattle.lc_cond.specs.Adding.{HasFormulas}
use Rattle.lc_cond.proofs.Replacing.{formula_at_later, told_more, put_told}
use Rattle.lc_cond.proofs.entering.told_by_number.Goals as goal

pub put_in_formula-requires-clause-columns : goal.put_in_formula-requires-clause-columns
put_in_formula-requires-clause-columns c = are_columns_later c.args.terms.now c.loop-formula.terms c.args.put.columns.now c.requires.columns c.loop-formula.invariant.0

pub put_in_formula-requires-clause-variables : goal.put_in_formula-requires-clause-variables
put_in_formula-requires-clause-variables c = are_terms_later c.args.terms.now c.loop-formula.terms c.args.put.variables.now c.requires.variables c.loop-formula.invariant.0

pub put_in_formula-requires-clause-formula : goal.put_in_formula-requires-clause-formula
put_in_formula-requires-clause-formula c =
    formula_at_later c.args.terms.now c.loop-formula.terms c.args.formulas.now c.loop-formula.formula-index (record { 0 = 0 }) c.requires.formulas c.loop-formula-test.true c.loop-formula.invariant.0

pub loop-formula-preserved : goal.loop-formula-preserved
loop-formula-preserved c =
    let t0 = c.args.terms.now in
    let t1 = c.loop-formula.terms in
    let t2 = c.put_in_formula.new.table in
    let ps = c.args.put.columns.now in
    let vs = c.args.put.variables.now in
    let kept01 = c.loop-formula.invariant.0 in
    let kept12 = c.in_ok-put_in_formula.ensures.kept in
    let still01 = replacement_still t0 t1 ps vs c.requires.columns c.requires.variables kept01 in
    let still12 = replacement_still t1 t2 ps vs (are_columns_later t0 t1 ps c.requires.columns kept01) (are_terms_later t0 t1 vs c.requires.variables kept01) kept12 in
    let k = c.in_ok-put_in_formula.field-0 in
    let i = c.loop-formula.formula-index in
    let f = formula_in t1 (get_or c.args.formulas.now i (record { 0 = 0 })) in
    let items : c.push.new.self.items ≡ c.loop-formula.numbers.items ++ k ∷ [] = search rules in (
      kept_on t0 t1 t2 kept01 kept12,
      subst (λ r. Remembers r t2 c.put_in_formula.new.done) (sym still12) c.in_ok-put_in_formula.ensures.done,
      told_more t0 t1 t2 (replacement_at t0 ps vs) c.args.formulas.now i (record { 0 = 0 }) c.loop-formula.numbers.items c.push.new.self.items k
          c.loop-formula-test.true c.requires.formulas kept01 kept12 (subst (λ r. HasFormula t2 k (replace r f)) still01 c.in_ok-put_in_formula.ensures.id) items c.loop-formula.invariant.2,
    )

pub returns-clause-list : goal.returns-clause-list
returns-clause-list c = λ σ τ fs columns variables has.
    (let t0 = c.args.terms.now in
    let r = replacement_at t0 c.args.put.columns.now c.args.put.variables.now in
    subst (HasFormulas c.loop-formula.terms c.loop-formula.numbers.items)
    (ap (λ l. map (replace r) (formulas_in t0 l)) (take_all c.loop-formula.formula-index c.args.formulas.now c.loop-formula-test.false)
    ∙ ap₂ (λ q gs. map (replace q) gs) (put_told t0 c.args.put.columns.now c.args.put.variables.now σ τ columns variables) has.trees) c.loop-formula.invariant.2)
