use Rattle.std.proofs.Common.{◌≡◌, ap, ap₂, sym, ◌∙◌, Some, rules}
use Rattle.std.proofs.lemmas.Result.{IfOk-weaker}
use Rattle.std.proofs.lemmas.Option.{slice_get-get_or}
use Rattle.lc_table.proofs.Taken.{one_taken}
use Rattle.lc_term.specs.Syntax as S
use Rattle.lc_term.specs.View.{term_of, formula_of}
use Rattle.lc_term.specs.declared.formula.Formula.{the_lemmas}
use Rattle.std.proofs.Common.{◌++◌, ◌∷◌, [], ◌+◌, take, subst}
use Rattle.lc_term.specs.View.{formulas_of}
use Rattle.lc_table.specs.Tables.{AreFormulas, formulas_in}
use Rattle.lc_table.proofs.Later.{term_later, term_is, formula_later, formula_is, kept_on, are_formulas_pushed, formulas_pushed}
use Rattle.lc_table.proofs.table.Terms.+enter_formula.Goals as goal

pub enter_formula-returns-in_ok-right-in-Le-clause-id : goal.enter_formula-returns-in_ok-right-in-Le-clause-id
enter_formula-returns-in_ok-right-in-Le-clause-id t c =
    let now = c.enter_term-in-Le.new.self in
    let left = term_is now _ _ (term_later _ now _ _ c.in_ok-left-in-Le.ensures.id c.in_ok-right-in-Le.ensures.kept) in
    let right = term_is now _ _ c.in_ok-right-in-Le.ensures.id in
    let same : S.Le (term_of c.in-Le.left) (term_of c.in-Le.right) ≡ formula_of c.args.formula.now = search (rules, the_lemmas) in
    IfOk-weaker c.le.result _ _ (λ k h. h ∙ ap Some (ap₂ S.Le left right ∙ same)) c.le.ensures.id

pub enter_formula-returns-in_ok-right-in-Eq-clause-id : goal.enter_formula-returns-in_ok-right-in-Eq-clause-id
enter_formula-returns-in_ok-right-in-Eq-clause-id t c =
    let now = c.enter_term-in-Eq-2.new.self in
    let left = term_is now _ _ (term_later _ now _ _ c.in_ok-left-in-Eq.ensures.id c.in_ok-right-in-Eq.ensures.kept) in
    let right = term_is now _ _ c.in_ok-right-in-Eq.ensures.id in
    let same : S.Eq (term_of c.in-Eq.left) (term_of c.in-Eq.right) ≡ formula_of c.args.formula.now = search (rules, the_lemmas) in
    IfOk-weaker c.eq.result _ _ (λ k h. h ∙ ap Some (ap₂ S.Eq left right ∙ same)) c.eq.ensures.id

pub enter_formula-returns-in_ok-right-in-Implies-clause-id : goal.enter_formula-returns-in_ok-right-in-Implies-clause-id
enter_formula-returns-in_ok-right-in-Implies-clause-id t c =
    let now = c.enter_formula-in-Implies-2.new.self in
    let left = formula_is now _ _ (formula_later _ now _ _ c.in_ok-left-in-Implies.ensures.id c.in_ok-right-in-Implies.ensures.kept) in
    let right = formula_is now _ _ c.in_ok-right-in-Implies.ensures.id in
    let same : S.Implies (formula_of c.deref-in-Implies.result.now) (formula_of c.deref-in-Implies-2.result.now) ≡ formula_of c.args.formula.now = search (rules, the_lemmas) in
    IfOk-weaker c.implies.result _ _ (λ k h. h ∙ ap Some (ap₂ S.Implies left right ∙ same)) c.implies.ensures.id

pub enter_formulas-loop-part-preserved : goal.enter_formulas-loop-part-preserved
enter_formulas-loop-part-preserved t c =
    let i = c.loop-part.invariant in
    let now = c.enter_formula.new.self in
    let ks = c.loop-part.entered.items in
    let k = c.in_ok-enter_formula.field-0 in
    let at = c.in_ok-enter_formula.ensures.id in
    let kept = c.in_ok-enter_formula.ensures.kept in
    let items : c.push.new.self.items ≡ ks ++ k ∷ [] = search rules in
    let taken : formulas_of (take (c.loop-part.part-index + 1) c.args.parts.now) ≡ formulas_of (take c.loop-part.part-index c.args.parts.now) ++ formula_of c.part-item.result ∷ [] = one_taken c.args.parts.now c.loop-part.part-index c.part-item.result (slice_get-get_or c.args.parts.now c.loop-part.part-index _ c.loop-part-test.true ∙ ap Some (sym c.part-item.is)) in (
      kept_on c.args.self.now c.loop-part.self now i.0 kept,
      subst (AreFormulas now) (sym items) (are_formulas_pushed c.loop-part.self now ks k _ i.1 kept at),
      ap (formulas_in now) items ∙ formulas_pushed c.loop-part.self now ks k _ i.1 kept at ∙ ap (λ l. l ++ formula_of c.part-item.result ∷ []) i.2 ∙ sym taken,
    )
