use Rattle.std.proofs.Common.{ap, sym, ◌∙◌, Err, refl, subst, length}
use Rattle.std.proofs.lemmas.Result.{err_from_is_err_and}
use Rattle.lc_term.specs.State.{state_of, column_count}
use Rattle.lc_object.specs.Objects.{object_view}
use Rattle.lc_machine.specs.Effects.{writes_in, outcome_of}
use Rattle.lc_machine.specs.World.{In, initial_numbers}
use Rattle.lc_machine.specs.View.{client_of, variables_of}
use Rattle.lc_machine.proofs.Stepping.{IsEffectAt, effect_within, more_within, fate_placed, stepped_went, stepped_returned, stepped_err, stepped_unstored}
use Rattle.lc_machine.proofs.client.step.Goals as goal

pub returns-in_err-effect-clause-stepped : goal.returns-in_err-effect-clause-stepped
returns-in_err-effect-clause-stepped c =
    let p = err_from_is_err_and c.from_residual.result c.from_residual.ensures.1 in
    let k = client_of c.args.client.now in
    stepped_err (object_view c.args.object.now) (state_of c.args.state.now) (state_of c.args.state.now) c.in-In.place k (In c.in-In.place.point.0 (variables_of c.in-In.place))
    c.in_err-effect.field-0.0 c.from_residual.result (ap client_of c.in-In.is) c.requires.placed (p.1 ∙ ap Err p.2)
    (subst (IsEffectAt (object_view c.args.object.now) (state_of c.args.state.now) c.in-In.place) c.in_err-effect.was c.effect.ensures) refl (sym (ap client_of c.in-In.is))

pub commit-requires : goal.commit-requires
commit-requires c =
    let object = object_view c.args.object.now in
    let s = state_of c.args.state.now in
    let k = client_of c.args.client.now in
    let e = c.in_ok-effect.effect in
    let known = subst (IsEffectAt object s c.in-In.place) c.in_ok-effect.was c.effect.ensures in
    more_within (length (initial_numbers object)) (column_count c.args.state.now) (writes_in e)
    (effect_within object s c.in-In.place k e (ap client_of c.in-In.is) c.requires.placed known) c.requires.columns

pub returns-in_err-place-clause-stepped : goal.returns-in_err-place-clause-stepped
returns-in_err-place-clause-stepped c =
    let p = err_from_is_err_and c.from_residual-in_err-place.result c.from_residual-in_err-place.ensures.1 in
    let object = object_view c.args.object.now in
    let s = state_of c.args.state.now in
    let k = client_of c.args.client.now in
    let known = subst (IsEffectAt object s c.in-In.place) c.in_ok-effect.was c.effect.ensures in
    stepped_unstored object s (state_of c.commit.new.state) c.in-In.place k (In c.in-In.place.point.0 (variables_of c.in-In.place)) c.in_ok-effect.effect c.from_residual-in_err-place.result (ap client_of c.in-In.is) c.requires.placed
    (p.1 ∙ ap Err p.2) known c.in_err-place.ensures.err (sym (ap client_of c.in-In.is))

pub returns-in-Goes-clause-stepped : goal.returns-in-Goes-clause-stepped
returns-in-Goes-clause-stepped c =
    let object = object_view c.args.object.now in
    let s = state_of c.args.state.now in
    let known = subst (IsEffectAt object s c.in-In.place) c.in_ok-effect.was c.effect.ensures in
    stepped_went object s (state_of c.commit.new.state) c.in-In.place c.in-Goes.place (client_of c.args.client.now) c.in_ok-effect.effect (ap client_of c.in-In.is) c.requires.placed known
    c.in_ok-place.ensures.ok (ap outcome_of (sym c.in-Goes.is) ∙ c.in_ok-place.ensures.fate)

pub returns-in-Goes-clause-placed : goal.returns-in-Goes-clause-placed
returns-in-Goes-clause-placed c =
    let object = object_view c.args.object.now in
    let s = state_of c.args.state.now in
    let known = subst (IsEffectAt object s c.in-In.place) c.in_ok-effect.was c.effect.ensures in
    fate_placed object s c.in-In.place c.in-Goes.place (client_of c.args.client.now) c.in_ok-effect.effect (ap client_of c.in-In.is) c.requires.placed known
    (ap outcome_of (sym c.in-Goes.is) ∙ c.in_ok-place.ensures.fate)

pub returns-in-Answers-clause-stepped : goal.returns-in-Answers-clause-stepped
returns-in-Answers-clause-stepped c =
    let object = object_view c.args.object.now in
    let s = state_of c.args.state.now in
    let known = subst (IsEffectAt object s c.in-In.place) c.in_ok-effect.was c.effect.ensures in
    stepped_returned object s (state_of c.commit.new.state) c.in-In.place (client_of c.args.client.now) c.in_ok-effect.effect c.in-Answers.reply (ap client_of c.in-In.is) c.requires.placed known
    c.in_ok-place.ensures.ok (ap outcome_of (sym c.in-Answers.is) ∙ c.in_ok-place.ensures.fate)
