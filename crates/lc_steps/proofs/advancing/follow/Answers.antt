use Rattle.std.proofs.Common.{◌≡◌, ◌≤◌, length, sym, subst}
use Rattle.lc_ride.specs.Drafts.{written_in_draft}
use Rattle.lc_machine.specs.Effects.{outcome_of, IsReached}
use Rattle.lc_machine.specs.View.{variables_of}
use Rattle.lc_outline.specs.DevelopmentView.{development_view}
use Rattle.lc_steps.specs.StepParts.{AreRidersSeen, rider_edge, rider_variables, IsBehind}
use Rattle.lc_steps.proofs.advancing.follow.Goals as goal

pub go-requires-clause-seen : goal.go-requires-clause-seen
go-requires-clause-seen c =
    subst (λ f. AreRidersSeen (development_view c.args.development.now) c.args.place.now.point.0 (rider_edge c.args.edge (outcome_of f)) (length (rider_variables (variables_of c.args.place.now) (outcome_of f))))
    c.in-Goes.is c.requires.seen

pub returns-in-Goes-clause-behind : goal.returns-in-Goes-clause-behind
returns-in-Goes-clause-behind c =
    subst (λ f. IsBehind (development_view c.args.development.now) c.args.client c.args.place.now.point.0 (variables_of c.args.place.now) c.args.edge (written_in_draft c.args.draft.now) (outcome_of f) (written_in_draft c.go.new.draft) c.go.result)
    (sym c.in-Goes.is) c.go.ensures.behind

pub answer-requires-clause-seen : goal.answer-requires-clause-seen
answer-requires-clause-seen c =
    subst (λ f. AreRidersSeen (development_view c.args.development.now) c.args.place.now.point.0 (rider_edge c.args.edge (outcome_of f)) (length (rider_variables (variables_of c.args.place.now) (outcome_of f))))
    c.in-Answers.is c.requires.seen

pub answer-requires-clause-few : goal.answer-requires-clause-few
answer-requires-clause-few c = subst (λ f. IsReached (development_view c.args.development.now).object (outcome_of f)) c.in-Answers.is c.requires.reached

pub returns-in-Answers-clause-behind : goal.returns-in-Answers-clause-behind
returns-in-Answers-clause-behind c =
    subst (λ f. IsBehind (development_view c.args.development.now) c.args.client c.args.place.now.point.0 (variables_of c.args.place.now) c.args.edge (written_in_draft c.args.draft.now) (outcome_of f) (written_in_draft c.answer.new.draft) c.answer.result)
    (sym c.in-Answers.is) c.answer.ensures.behind
