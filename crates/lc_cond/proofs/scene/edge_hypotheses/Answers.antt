use Rattle.std.proofs.Common.{◌++◌, ap, sym, subst}
use Rattle.std.proofs.lemmas.Result.{IfOk-weaker}
use Rattle.lc_term.specs.Syntax.{Variable}
use Rattle.lc_object.specs.EdgeView.{facts_of}
use Rattle.lc_object.specs.View.{operation_of}
use Rattle.lc_action.specs.ActionView.{first_of}
use Rattle.lc_outline.specs.Development.{invariant_of, asserts_at}
use Rattle.lc_outline.specs.DevelopmentView.{development_view}
use Rattle.std.specs.Prelude.{length}
use Rattle.lc_cond.specs.Adding.{HasFormulas}
use Rattle.lc_cond.specs.Conditions.{range, body_frame}
use Rattle.lc_cond.proofs.scene.edge_hypotheses.Goals as goal

pub returns-clause-list : goal.returns-clause-list
returns-clause-list c =
    let d = development_view c.args.development.now in
    let n = length (operation_of c.args.body.now).arguments in
    let known = body_frame (first_of c.system_columns-system.result) c.args.operation.0 n ++ (invariant_of d ++ asserts_at d c.args.code.now.point.0) in
    let has = c.in_ok-before.ensures.list known (subst (λ l. HasFormulas c.known_in_body.new.terms l known) (sym c.deref.ensures.value) c.in_ok-known.ensures.list) in
    IfOk-weaker c.with_facts.result _ _
    (λ ks h. subst (HasFormulas c.with_facts.new.terms ks.items)
    (ap (λ first. (range (Variable 1) ++ (body_frame first c.args.operation.0 n ++ (invariant_of d ++ asserts_at d c.args.code.now.point.0))) ++ facts_of c.args.code.now.facts) c.system_columns-system.ensures)
    (h (range (Variable 1) ++ known) has)) c.with_facts.ensures.list
