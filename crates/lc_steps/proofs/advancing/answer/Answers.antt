use Rattle.std.proofs.Common.{◌≡◌, true, false, Ok, Err, refl, subst, rules}
use Rattle.lc_ride.specs.Drafts.{written_in_draft}
use Rattle.lc_object.specs.declared.instr.EdgeKind.TheVariants.{Next}
use Rattle.lc_machine.specs.Step.{Answers}
use Rattle.lc_action.specs.ActionView.{first_of}
use Rattle.lc_outline.specs.Development.{first_system}
use Rattle.lc_outline.specs.DevelopmentView.{development_view}
use Rattle.lc_ride.specs.RideView.{marks_of}
use Rattle.lc_ride.specs.Riding.{Ridden}
use Rattle.lc_steps.specs.Stepping.{ridden, RiddenFits, BehindFits}
use Rattle.lc_steps.specs.StepParts.{AreRidden, IsReturned}
use Rattle.lc_steps.proofs.Advanced.{behind-fault, says-less, not-ridden, not-answered, is-answered, not-read, returned-of}
use Rattle.lc_steps.proofs.advancing.answer.Goals as goal

pub returns-in_err-ridden-clause-behind : goal.returns-in_err-ridden-clause-behind
returns-in_err-ridden-clause-behind c =
    let D = development_view c.args.development.now in
    let vs = c.args.env.now.values.items in
    let ns = c.args.numbers.items in
    let s = written_in_draft c.args.draft.now in
    let x = c.args.client in
    let p = c.args.point.0 in
    behind-fault D x p vs Next s (Answers ns) (written_in_draft c.ride.new.draft) c.from_residual.result c.in_err-ridden.field-0.0 c.from_residual.ensures.1
    (says-less (BehindFits D x p vs Next s (Answers ns)) (RiddenFits D x p Next vs s) c.in_err-ridden.field-0.0 (λ t. t.0) c.in_err-ridden.ensures.ridden)

pub returns-in-None-clause-behind : goal.returns-in-None-clause-behind
returns-in-None-clause-behind c =
    let D = development_view c.args.development.now in
    let vs = c.args.env.now.values.items in
    let s = written_in_draft c.args.draft.now in
    let x = c.args.client in
    let p = c.args.point.0 in
    let done = subst (λ z. AreRidden (RiddenFits D x p Next vs s) (ridden D x p Next vs s) (written_in_draft c.ride.new.draft) (Ok z)) c.in-None.is c.in_ok-ridden.ensures.ridden in
    not-ridden D x p vs c.args.numbers.items s done.0 done.1

pub returns-in_err-end_call-clause-behind : goal.returns-in_err-end_call-clause-behind
returns-in_err-end_call-clause-behind c =
    let D = development_view c.args.development.now in
    let vs = c.args.env.now.values.items in
    let ns = c.args.numbers.items in
    let s = written_in_draft c.args.draft.now in
    let m = written_in_draft c.ride.new.draft in
    let x = c.args.client in
    let p = c.args.point.0 in
    let done = subst (λ z. AreRidden (RiddenFits D x p Next vs s) (ridden D x p Next vs s) m (Ok z)) c.in-Some.is c.in_ok-ridden.ensures.ridden in
    let r : Ridden = (marks_of c.in-Some.marks.items, m) in
    behind-fault D x p vs Next s (Answers ns) (written_in_draft c.end_call.new.draft) c.from_residual-in_err-end_call.result c.in_err-end_call.field-0.0 c.from_residual-in_err-end_call.ensures.1
    (not-read D x p vs ns s r c.in_err-end_call.field-0.0 done.1
    (returned-of (first_of c.system_columns-system.result) (first_system D) m x c.deref.result.now ns (written_in_draft c.end_call.new.draft) (Err c.in_err-end_call.field-0.0) c.system_columns-system.ensures c.deref.ensures.value c.in_err-end_call.ensures.returned))

pub returns-then-not-branch-clause-behind : goal.returns-then-not-branch-clause-behind
returns-then-not-branch-clause-behind c =
    let D = development_view c.args.development.now in
    let vs = c.args.env.now.values.items in
    let ns = c.args.numbers.items in
    let s = written_in_draft c.args.draft.now in
    let m = written_in_draft c.ride.new.draft in
    let x = c.args.client in
    let p = c.args.point.0 in
    let done = subst (λ z. AreRidden (RiddenFits D x p Next vs s) (ridden D x p Next vs s) m (Ok z)) c.in-Some.is c.in_ok-ridden.ensures.ridden in
    let r : Ridden = (marks_of c.in-Some.marks.items, m) in
    let is : c.in_ok-end_call.field-0 ≡ false = search rules in
    let end = returned-of (first_of c.system_columns-system.result) (first_system D) m x c.deref.result.now ns (written_in_draft c.end_call.new.draft) (Ok false) c.system_columns-system.ensures c.deref.ensures.value
    (subst (λ b. IsReturned (first_of c.system_columns-system.result) m x c.deref.result.now (written_in_draft c.end_call.new.draft) (Ok b)) is c.in_ok-end_call.ensures.returned) in
    not-answered D x p vs ns s r done.0 done.1 end.0 end.1

pub returns-clause-behind : goal.returns-clause-behind
returns-clause-behind c =
    let D = development_view c.args.development.now in
    let vs = c.args.env.now.values.items in
    let ns = c.args.numbers.items in
    let s = written_in_draft c.args.draft.now in
    let m = written_in_draft c.ride.new.draft in
    let x = c.args.client in
    let p = c.args.point.0 in
    let done = subst (λ z. AreRidden (RiddenFits D x p Next vs s) (ridden D x p Next vs s) m (Ok z)) c.in-Some.is c.in_ok-ridden.ensures.ridden in
    let r : Ridden = (marks_of c.in-Some.marks.items, m) in
    let is : c.in_ok-end_call.field-0 ≡ true = search rules in
    let end = returned-of (first_of c.system_columns-system.result) (first_system D) m x c.deref.result.now ns (written_in_draft c.end_call.new.draft) (Ok true) c.system_columns-system.ensures c.deref.ensures.value
    (subst (λ b. IsReturned (first_of c.system_columns-system.result) m x c.deref.result.now (written_in_draft c.end_call.new.draft) (Ok b)) is c.in_ok-end_call.ensures.returned) in
    let all = is-answered D x p vs ns s r (written_in_draft c.end_call.new.draft) done.0 done.1 end.0 end.1 end.2 in
    (all.0, all.1, refl, refl)
