use Rattle.std.proofs.Common.{◌≡◌, ◌++◌, ◌∷◌, [], get_or, ap, sym, subst, ◌∙◌, rules}
use Rattle.lc_linear.proofs.Sums.{get_or-any}
use Rattle.lc_term.specs.Syntax.{Not}
use Rattle.lc_table.specs.Tables.{formula_in, formulas_in, AreFormulas, HasFormula}
use Rattle.lc_table.specs.declared.node.FormulaId.{FormulaId}
use Rattle.lc_table.proofs.Later.{formula_still, is_formula_still, are_formulas_pushed, formulas_pushed, kept_on}
use Rattle.lc_kernel.proofs.Numbered.{formula_there, negations_more}
use Rattle.lc_kernel.proofs.forms.negated_each.Goals as goal

pub not-requires : goal.not-requires
not-requires c =
    let ks = c.args.formulas.now in
    let i = c.loop-formula.formula-index in
    let x : FormulaId = get_or ks i (record { 0 = 0 }) in
    is_formula_still _ _ x (formula_there c.args.terms.now ks i x c.requires c.loop-formula-test.true (get_or-any ks i (record { 0 = 0 }) x c.loop-formula-test.true)) c.loop-formula.invariant.0

pub loop-formula-preserved : goal.loop-formula-preserved
loop-formula-preserved c =
    let inv = c.loop-formula.invariant in
    let old = c.args.terms.now in
    let before = c.loop-formula.terms in
    let now = c.not.new.self in
    let ks = c.args.formulas.now in
    let i = c.loop-formula.formula-index in
    let done = c.loop-formula.negated_all.items in
    let k = c.in_ok-not.field-0 in
    let x : FormulaId = get_or ks i (record { 0 = 0 }) in
    let is = get_or-any ks i (record { 0 = 0 }) x c.loop-formula-test.true in
    let tree = formula_still old before x (formula_there old ks i x c.requires c.loop-formula-test.true is) inv.0 in
    let made = subst (λ f. HasFormula now k (Not f)) tree c.in_ok-not.ensures.id in
    let kept = c.in_ok-not.ensures.kept in
    let items : c.push.new.self.items ≡ done ++ k ∷ [] = search rules in (
      kept_on old before now inv.0 kept,
      subst (AreFormulas now) (sym items) (are_formulas_pushed before now done k _ inv.1 kept made),
      ap (formulas_in now) items ∙ formulas_pushed before now done k _ inv.1 kept made ∙ ap (λ l. l ++ Not (formula_in old x) ∷ []) inv.2 ∙ sym (negations_more old ks i x c.loop-formula-test.true is),
    )
