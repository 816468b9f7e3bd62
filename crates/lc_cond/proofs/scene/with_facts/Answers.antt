use Rattle.std.proofs.Common.{◌≡◌, [], ◌∷◌, ◌++◌, ap, sym, subst, ◌∙◌, rules}
use Rattle.std.proofs.lemmas.Result.{IfOk-weaker}
use Rattle.lc_term.specs.Syntax.{Not}
use Rattle.lc_term.specs.View.{formula_of, formulas_of}
use Rattle.lc_object.specs.EdgeView.{facts_of}
use Rattle.lc_cond.specs.Adding.{HasFormulas}
use Rattle.lc_cond.proofs.Adding.{formulas_listed, formulas_put}
use Rattle.lc_cond.proofs.scene.with_facts.Goals as goal
use Rattle.lc_cond.proofs.scene.with_facts.Goals.{in-Holds+in_ok-enter_formula-in-Holds+in_ok-push-in-Holds, in-Fails+in_ok-entered_not-in-Fails+in_ok-push-in-Fails}

pub returns-in-Each-clause-list : goal.returns-in-Each-clause-list
returns-in-Each-clause-list c =
    IfOk-weaker c.entered_behind.result _ _
    (λ ks h fs has. subst (λ l. HasFormulas c.entered_behind.new.terms ks.items (fs ++ l))
    (ap formulas_of c.deref-in-Each.ensures.value ∙ sym (ap facts_of c.in-Each.is))
    (h fs (formulas_listed c.args.terms.now c.args.known.items c.deref.result.now fs has c.deref.ensures.value))) c.entered_behind.ensures.list

pub returns-clause-list : goal.returns-clause-list
returns-clause-list c = elim c.match-facts.branch [
  | in-Holds+in_ok-enter_formula-in-Holds+in_ok-push-in-Holds w ↦ λ fs has.
      let now = w.enter_formula.new.self in
      let k = w.in_ok-enter_formula-in-Holds.field-0 in
      let items : w.push.new.self.items ≡ c.args.known.items ++ k ∷ [] = search rules in
      let put = formulas_put c.args.terms.now now c.args.known.items w.push.new.self.items k fs _ items has w.in_ok-enter_formula-in-Holds.ensures.kept w.in_ok-enter_formula-in-Holds.ensures.id in
      let facts = ap (λ x. formula_of x ∷ []) w.deref-in-Holds.ensures ∙ sym (ap facts_of w.in-Holds.is) in
      subst (λ t. HasFormulas t c.match-facts.known.items (fs ++ facts_of c.args.facts.now)) (sym w.terms-is)
      (subst (λ v. HasFormulas now v.items (fs ++ facts_of c.args.facts.now)) (sym w.known-is) (subst (λ l. HasFormulas now w.push.new.self.items (fs ++ l)) facts put))
  | in-Fails+in_ok-entered_not-in-Fails+in_ok-push-in-Fails w ↦ λ fs has.
      let now = w.entered_not.new.terms in
      let k = w.in_ok-entered_not-in-Fails.field-0 in
      let items : w.push-in-Fails.new.self.items ≡ c.args.known.items ++ k ∷ [] = search rules in
      let put = formulas_put c.args.terms.now now c.args.known.items w.push-in-Fails.new.self.items k fs _ items has w.in_ok-entered_not-in-Fails.ensures.kept w.in_ok-entered_not-in-Fails.ensures.id in
      let facts = ap (λ x. Not (formula_of x) ∷ []) w.deref-in-Fails.ensures ∙ sym (ap facts_of w.in-Fails.is) in
      subst (λ t. HasFormulas t c.match-facts.known.items (fs ++ facts_of c.args.facts.now)) (sym w.terms-is)
      (subst (λ v. HasFormulas now v.items (fs ++ facts_of c.args.facts.now)) (sym w.known-is) (subst (λ l. HasFormulas now w.push-in-Fails.new.self.items (fs ++ l)) facts put))
]
