use Rattle.std.proofs.Common.{◌++◌, ap₂, subst, ◌∙◌}
use Rattle.std.proofs.lemmas.Result.{IfOk-weaker}
use Rattle.lc_action.specs.ActionView.{first_of}
use Rattle.lc_outline.specs.Development.{invariant_of}
use Rattle.lc_outline.specs.DevelopmentView.{development_view}
use Rattle.lc_cond.specs.Adding.{HasFormulas}
use Rattle.lc_cond.specs.Conditions.{body_frame}
use Rattle.lc_cond.proofs.Adding.{formulas_behind, formulas_later}
use Rattle.lc_cond.proofs.known.known_in_body.Goals as goal

pub returns-clause-list : goal.returns-clause-list
returns-clause-list c =
    let t1 = c.body_frame.new.terms in
    let now = c.entered_behind.new.terms in
    let d = development_view c.args.development.now in
    let shared = c.in_ok-shared.ensures.list (invariant_of d) (formulas_later c.args.terms.now t1 c.args.invariant.now (invariant_of d) c.requires c.in_ok-frame.ensures.kept) in
    IfOk-weaker c.joined.result _ _
    (λ ks joins. subst (HasFormulas now ks.items) (ap₂ (λ n fs. body_frame (first_of c.args.system) c.args.operation.0 n ++ (invariant_of d ++ fs)) c.argument_count.ensures c.asserts_at-asserts.ensures)
    (formulas_behind t1 now c.in_ok-frame.frame.items c.in_ok-shared.shared.items ks.items _ _ c.in_ok-frame.ensures.list c.in_ok-shared.ensures.kept shared
    (joins ∙ ap₂ (λ k l. k ++ l) c.deref.ensures.value c.deref-2.ensures.value))) c.joined.ensures
