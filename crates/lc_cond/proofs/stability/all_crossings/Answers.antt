use Rattle.std.proofs.Common.{◌++◌, ◌∷◌, [], ap, ap₂, sym, subst, ◌∙◌, append_assoc, arith}
use Rattle.std.proofs.lemmas.Result.{IfOk-weaker}
use Rattle.lc_table.proofs.Later.{kept_on}
use Rattle.lc_action.specs.Action.{enter, leave}
use Rattle.lc_action.specs.ActionView.{action_of}
use Rattle.lc_outline.specs.DevelopmentView.{development_view}
use Rattle.lc_cond.specs.Crossings.{AreCrossings, TakesFew}
use Rattle.lc_cond.proofs.Adding.{formulas_later}
use Rattle.lc_cond.proofs.Crossed.{given_later}
use Rattle.lc_cond.proofs.stability.all_crossings.Goals as goal

pub with_crossing-requires-clause-action : goal.with_crossing-requires-clause-action
with_crossing-requires-clause-action c = subst TakesFew (sym c.in_ok-begins.ensures) (omega arith)

pub with_crossing-requires-clause-given : goal.with_crossing-requires-clause-given
with_crossing-requires-clause-given c = given_later c.args.terms.now c.declared_crossings.new.terms (development_view c.args.development.now) c.args.given.now c.requires.given c.in_ok-declared.ensures.kept

pub with_crossing-requires-2-clause-action : goal.with_crossing-requires-2-clause-action
with_crossing-requires-2-clause-action c = subst TakesFew (sym c.in_ok-ends.ensures) (omega arith)

pub with_crossing-requires-2-clause-given : goal.with_crossing-requires-2-clause-given
with_crossing-requires-2-clause-given c =
    given_later c.args.terms.now c.with_crossing.new.terms (development_view c.args.development.now) c.args.given.now c.requires.given
    (kept_on c.args.terms.now c.declared_crossings.new.terms c.with_crossing.new.terms c.in_ok-declared.ensures.kept c.in_ok-entered.ensures.kept)

pub returns-clause-crossings : goal.returns-clause-crossings
returns-clause-crossings c =
    let D = development_view c.args.development.now in
    let g = c.args.given.now in
    let n = g.client in
    let t0 = c.args.terms.now in
    let t1 = c.declared_crossings.new.terms in
    let t2 = c.with_crossing.new.terms in
    let t3 = c.with_crossing-2.new.terms in
    let kept1 = c.in_ok-declared.ensures.kept in
    let kept2 = kept_on t0 t1 t2 kept1 c.in_ok-entered.ensures.kept in
    let begins = action_of c.in_ok-begins.begins in
    let ends = action_of c.in_ok-ends.ends in
    let all = append_assoc D.actions (begins ∷ []) (ends ∷ []) ∙ ap₂ (λ a b. D.actions ++ a ∷ b ∷ []) (c.in_ok-begins.ensures ∙ ap enter c.requires.system) (c.in_ok-ends.ensures ∙ ap leave c.requires.system) in
    IfOk-weaker c.with_crossing-2.result _ _
    (λ cs too hs fs kh fh. subst (λ l. AreCrossings t3 D n hs fs l cs.items) all
    (too hs fs (D.actions ++ begins ∷ []) (formulas_later t0 t2 g.known.now hs kh kept2) (formulas_later t0 t2 g.asserts.now fs fh kept2)
    (c.in_ok-entered.ensures.crossings hs fs D.actions (formulas_later t0 t1 g.known.now hs kh kept1) (formulas_later t0 t1 g.asserts.now fs fh kept1)
    (c.in_ok-declared.ensures.crossings hs fs kh fh)))) c.with_crossing-2.ensures.crossings
