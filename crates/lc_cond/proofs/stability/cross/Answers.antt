use Rattle.std.proofs.Common.{◌∷◌, [], map, ap, subst, ◌∙◌}
use Rattle.lc_term.specs.Replacement.{replace, replacing}
use Rattle.lc_term.specs.Syntax.{Variable}
use Rattle.lc_table.specs.Tables.{formulas_in, HasFormula}
use Rattle.lc_term.specs.View.{term_of}
use Rattle.lc_table.proofs.Later.{kept_on}
use Rattle.lc_action.specs.Action.{post_columns, guard_for}
use Rattle.lc_action.specs.ActionView.{action_of}
use Rattle.lc_cond.specs.Adding.{HasFormulas}
use Rattle.lc_cond.specs.Conditions.{stable_variables, stable_goal}
use Rattle.lc_cond.proofs.Adding.{formulas_later, formulas_joined, formulas_listed, formula_alone}
use Rattle.lc_cond.proofs.stability.cross.Goals as goal

pub returns-clause-crossing : goal.returns-clause-crossing
returns-clause-crossing c =
    let a = action_of c.args.action.now in
    let g = c.args.given.now in
    let n = g.client in
    let t0 = c.args.terms.now in
    let t1 = c.told_behind.new.terms in
    let t2 = c.entered_guard.new.terms in
    let kept12 = c.in_ok-guard.ensures.kept in
    let kept02 = kept_on t0 t1 t2 c.in_ok-behind.ensures.kept kept12 in
    let there = ap (map term_of) c.deref.ensures.value ∙ c.in_ok-parameters.ensures in
    let there2 = ap (map term_of) c.deref-2.ensures.value ∙ c.in_ok-parameters.ensures in
    let behind1 = subst (λ ps. HasFormulas t1 c.in_ok-behind.behind.items (map (replace (replacing (post_columns a (Variable n) ps) Variable)) (formulas_in t0 g.invariant.now))) there c.in_ok-behind.ensures.invariant in
    let behind2 = subst (λ fs. HasFormulas t1 c.in_ok-behind.behind.items (map (replace (replacing (post_columns a (Variable n) (stable_variables n a)) Variable)) fs)) c.requires.given.invariant.trees behind1 in
    let behind = formulas_listed t2 c.in_ok-behind.behind.items c.deref-3.result.now _ (formulas_later t1 t2 c.in_ok-behind.behind.items _ behind2 kept12) c.deref-3.ensures.value in
    let goals1 = subst (λ ps. HasFormulas t1 c.in_ok-behind.goals.items (map (replace (replacing (post_columns a (Variable n) ps) Variable)) (formulas_in t0 g.asserts.now))) there c.in_ok-behind.ensures.asserts in
    let guard = subst (λ ps. HasFormula t2 c.in_ok-guard.guard (guard_for a (Variable n) ps)) there2 c.in_ok-guard.ensures.id in
    λ hs fs kh fh. record {
      variables = c.variables_with-variables.ensures;
      hypotheses = formulas_listed t2 _ c.in_ok-hypotheses.hypotheses _
          (formulas_joined t2 g.clients.now _ _ _ (formulas_later t0 t2 g.clients.now _ c.requires.given.clients kept02)
          (formulas_joined t2 g.known.now _ hs _ (formulas_later t0 t2 g.known.now hs kh kept02)
          (formulas_joined t2 (c.in_ok-guard.guard ∷ []) c.deref-3.result.now _ _ (formula_alone t2 c.in_ok-guard.guard _ guard) behind))) (c.in_ok-hypotheses.ensures ∙ c.in_ok-known.ensures);
      goals = formulas_later t1 t2 c.in_ok-behind.goals.items _ (subst (λ gs. HasFormulas t1 c.in_ok-behind.goals.items (map (λ f. stable_goal n f a) gs)) fh.trees goals1) kept12;
    }
