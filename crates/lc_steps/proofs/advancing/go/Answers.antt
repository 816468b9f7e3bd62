use Rattle.std.proofs.Common.{Ok, refl, subst}
use Rattle.lc_ride.specs.Drafts.{written_in_draft}
use Rattle.lc_machine.specs.Step.{Goes}
use Rattle.lc_machine.specs.View.{variables_of}
use Rattle.lc_outline.specs.DevelopmentView.{development_view}
use Rattle.lc_steps.specs.Stepping.{ridden, RiddenFits}
use Rattle.lc_steps.specs.StepParts.{AreRidden}
use Rattle.lc_steps.proofs.Advanced.{behind-fault}
use Rattle.lc_steps.proofs.advancing.go.Goals as goal

pub returns-in_err-ridden-clause-behind : goal.returns-in_err-ridden-clause-behind
returns-in_err-ridden-clause-behind c =
    let D = development_view c.args.development.now in
    let next = c.args.next in
    behind-fault D c.args.client c.args.point.0 (variables_of next) c.args.edge (written_in_draft c.args.draft.now) (Goes next.point.0 (variables_of next)) (written_in_draft c.ride.new.draft)
    c.from_residual.result c.in_err-ridden.field-0.0 c.from_residual.ensures.1 c.in_err-ridden.ensures.ridden

pub returns-in-None-clause-behind : goal.returns-in-None-clause-behind
returns-in-None-clause-behind c =
    let D = development_view c.args.development.now in
    let vs = variables_of c.args.next in
    let s = written_in_draft c.args.draft.now in
    subst (λ x. AreRidden (RiddenFits D c.args.client c.args.point.0 c.args.edge vs s) (ridden D c.args.client c.args.point.0 c.args.edge vs s) (written_in_draft c.ride.new.draft) (Ok x)) c.in-None.is c.in_ok-ridden.ensures.ridden

pub returns-clause-behind : goal.returns-clause-behind
returns-clause-behind c =
    let D = development_view c.args.development.now in
    let vs = variables_of c.args.next in
    let s = written_in_draft c.args.draft.now in
    let done = subst (λ x. AreRidden (RiddenFits D c.args.client c.args.point.0 c.args.edge vs s) (ridden D c.args.client c.args.point.0 c.args.edge vs s) (written_in_draft c.ride.new.draft) (Ok x)) c.in-Some.is c.in_ok-ridden.ensures.ridden in
    (done.0, done.1, refl, refl)
