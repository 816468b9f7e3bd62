use Rattle.std.proofs.Common.{rules, ◌≡◌, ◌++◌, ◌∷◌, [], map, take, ap, sym, subst, ◌∙◌}
use Rattle.std.proofs.lemmas.List.{take_all}
use Rattle.lc_lemmas.proofs.Lists.{seen_at}
use Rattle.lc_table.proofs.Later.{kept_on}
use Rattle.lc_action.specs.ActionView.{action_of}
use Rattle.lc_outline.specs.DevelopmentView.{development_view}
use Rattle.lc_cond.specs.Crossings.{AreCrossings}
use Rattle.lc_cond.proofs.Adding.{formulas_later}
use Rattle.lc_cond.proofs.Crossed.{given_later, crossings_put, seen_more}
use Rattle.lc_cond.proofs.Few.{action_few}
use Rattle.lc_cond.proofs.stability.declared_crossings.Goals as goal

pub cross-requires-clause-action : goal.cross-requires-clause-action
cross-requires-clause-action c =
    let D = development_view c.args.development.now in
    let a = c.action-item.result in
    let i = c.loop-action.action-index in
    action_few D c.args.development.now.resolved i (action_of a) (seen_at action_of c.actions_of-actions.result.now D.actions i a c.actions_of-actions.ensures c.loop-action-test.true c.action-item.is)

pub cross-requires-clause-given : goal.cross-requires-clause-given
cross-requires-clause-given c = given_later c.args.terms.now c.loop-action.terms (development_view c.args.development.now) c.args.given.now c.requires c.loop-action.invariant.0

pub loop-action-preserved : goal.loop-action-preserved
loop-action-preserved c =
    let D = development_view c.args.development.now in
    let g = c.args.given.now in
    let t0 = c.args.terms.now in
    let t1 = c.loop-action.terms in
    let t2 = c.cross.new.terms in
    let a = c.action-item.result in
    let i = c.loop-action.action-index in
    let items : c.push.new.self.items ≡ c.loop-action.crossings.items ++ c.in_ok-next.next ∷ [] = search rules in
    let kept = c.loop-action.invariant.0 in (
      kept_on t0 t1 t2 kept c.in_ok-next.ensures.kept,
      λ hs fs kh fh. subst (λ l. AreCrossings t2 D g.client hs fs l c.push.new.self.items) (sym (seen_more action_of c.actions_of-actions.result.now i a c.loop-action-test.true c.action-item.is))
          (crossings_put t1 t2 D g.client hs fs (map action_of (take i c.actions_of-actions.result.now)) c.loop-action.crossings.items c.push.new.self.items (action_of a) c.in_ok-next.next items
          (c.loop-action.invariant.1 hs fs kh fh) c.in_ok-next.ensures.kept
          (c.in_ok-next.ensures.crossing hs fs (formulas_later t0 t1 g.known.now hs kh kept) (formulas_later t0 t1 g.asserts.now fs fh kept))),
    )

pub returns-clause-crossings : goal.returns-clause-crossings
returns-clause-crossings c =
    let D = development_view c.args.development.now in
    let all = ap (map action_of) (take_all c.loop-action.action-index c.actions_of-actions.result.now c.loop-action-test.false) ∙ c.actions_of-actions.ensures in
    λ hs fs kh fh. subst (λ l. AreCrossings c.loop-action.terms D c.args.given.now.client hs fs l c.loop-action.crossings.items) all (c.loop-action.invariant.1 hs fs kh fh)
