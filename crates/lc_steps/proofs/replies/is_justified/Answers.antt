use mir.Val.{to_z, of_z}
use Rattle.std.proofs.Common.{pos, w64, ap, sym, subst, ◌∙◌}
use Rattle.std.specs.Prelude.{FitsSigned}
use Rattle.std.proofs.lemmas.Int.{to_z-of_z}
use Rattle.lc_term.specs.State.{state_of}
use Rattle.lc_action.specs.ActionView.{first_of}
use Rattle.lc_steps.proofs.Replying.{reply-unread, marked-as, open-as, no-call}
use Rattle.lc_steps.proofs.replies.is_justified.Goals as goal

pub returns-in_err-stage : goal.returns-in_err-stage
returns-in_err-stage c =
    let m = state_of c.args.state.now in
    let x = pos c.args.client in
    reply-unread (first_of c.args.system) m c.args.client c.args.numbers.now c.from_residual.result c.in_err-stage.field-0.0 c.from_residual.ensures.1
    (λ h. c.in_err-stage.ensures (subst (λ k. FitsSigned w64 (m k x)) (sym c.pend.ensures) h))

pub returns-then-stage-eq2 : goal.returns-then-stage-eq2
returns-then-stage-eq2 c =
    let m = state_of c.args.state.now in
    let x = pos c.args.client in
    let fits = subst (λ k. FitsSigned w64 (m k x)) c.pend.ensures c.in_ok-stage.ensures.0 in
    let is = c.in_ok-stage.ensures.1 ∙ ap (λ k. m k x) c.pend.ensures in
    let same = to_z-of_z w64 c.in_ok-stage.stage (subst (FitsSigned w64) (sym c.in_ok-stage.ensures.1) c.in_ok-stage.ensures.0) in
    marked-as (first_of c.args.system) m c.args.client c.args.numbers.now c.is_marked.result fits (sym is ∙ (sym same ∙ ap (to_z w64) c.if-stage-eq2.true)) c.is_marked.ensures

pub returns-then-stage-eq1 : goal.returns-then-stage-eq1
returns-then-stage-eq1 c =
    let m = state_of c.args.state.now in
    let x = pos c.args.client in
    let fits = subst (λ k. FitsSigned w64 (m k x)) c.pend.ensures c.in_ok-stage.ensures.0 in
    let is = c.in_ok-stage.ensures.1 ∙ ap (λ k. m k x) c.pend.ensures in
    let same = to_z-of_z w64 c.in_ok-stage.stage (subst (FitsSigned w64) (sym c.in_ok-stage.ensures.1) c.in_ok-stage.ensures.0) in
    open-as (first_of c.args.system) m c.args.client c.args.numbers.now c.is_noted.result fits (sym is ∙ (sym same ∙ ap (to_z w64) c.if-stage-eq1.true)) c.is_noted.ensures

pub returns-else-stage-eq1 : goal.returns-else-stage-eq1
returns-else-stage-eq1 c =
    let m = state_of c.args.state.now in
    let x = pos c.args.client in
    let fits = subst (λ k. FitsSigned w64 (m k x)) c.pend.ensures c.in_ok-stage.ensures.0 in
    let is = c.in_ok-stage.ensures.1 ∙ ap (λ k. m k x) c.pend.ensures in
    no-call (first_of c.args.system) m c.args.client c.args.numbers.now fits (λ e. c.if-stage-eq2.false (ap (of_z w64) (is ∙ e))) (λ e. c.if-stage-eq1.false (ap (of_z w64) (is ∙ e)))
