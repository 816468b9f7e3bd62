use Rattle.std.proofs.Common.{◌≡◌, sym, subst, rules}
use Rattle.lc_ride.specs.Drafts.{written_in_draft, draft_columns}
use Rattle.lc_term.specs.UpdateView.{writes_view}
use Rattle.lc_term.specs.Updates.{stored_all, AreWithin}
use Rattle.lc_machine.specs.Effects.{writes_in, outcome_of}
use Rattle.lc_machine.specs.View.{variables_of}
use Rattle.lc_outline.specs.DevelopmentView.{development_view}
use Rattle.lc_steps.proofs.Advanced.{effect-reached, no-effect, not-stored, stepped, behind-placed}
use Rattle.lc_steps.proofs.advancing.step_from.Goals as goal

pub returns-in_err-done-clause-stepped : goal.returns-in_err-done-clause-stepped
returns-in_err-done-clause-stepped c =
    let D = development_view c.args.development.now in
    let place = c.args.place.now in
    let s = written_in_draft c.args.draft.now in
    λ w columns client.
    no-effect D w c.args.client place.point.0 (variables_of place) s columns client s c.from_residual.result c.in_err-done.field-0.0 c.from_residual.ensures.1 c.in_err-done.ensures.effect

pub write_all-requires : goal.write_all-requires
write_all-requires c =
    subst (λ xs. AreWithin (draft_columns c.args.draft.now) (writes_view xs)) (sym c.deref.ensures.0) c.in_ok-done.ensures.within

pub returns-in_err-write_all-clause-stepped : goal.returns-in_err-write_all-clause-stepped
returns-in_err-write_all-clause-stepped c =
    let D = development_view c.args.development.now in
    let place = c.args.place.now in
    let s = written_in_draft c.args.draft.now in
    λ w columns client.
    not-stored D w c.args.client place.point.0 (variables_of place) s columns client (written_in_draft c.write_all.new.self) c.from_residual-in_err-write_all.result c.from_residual-in_err-write_all.ensures.1

pub returns-clause-stepped : goal.returns-clause-stepped
returns-clause-stepped c =
    let D = development_view c.args.development.now in
    let place = c.args.place.now in
    let s = written_in_draft c.args.draft.now in
    let done = c.in_ok-done.done in
    let kept : written_in_draft c.write_all.new.self ≡ stored_all s (writes_in done) = search rules in
    λ w columns client.
    stepped D w c.args.client place.point.0 (variables_of place) s columns client c.riders_are_done.ensures done (written_in_draft c.write_all.new.self) (written_in_draft c.follow.new.draft) c.follow.result c.in_ok-done.ensures.effect kept
    c.in_ok-done.ensures.seen c.follow.ensures.behind

pub returns-clause-placed : goal.returns-clause-placed
returns-clause-placed c =
    let D = development_view c.args.development.now in
    let place = c.args.place.now in
    let done = c.in_ok-done.done in
    behind-placed D c.args.client place.point.0 (variables_of place) done.edge (written_in_draft c.write_all.new.self) (outcome_of done.fate) (written_in_draft c.follow.new.draft) c.follow.result
    (effect-reached D.object place.point.0 (variables_of place) (written_in_draft c.args.draft.now) done c.in_ok-done.ensures.effect) c.follow.ensures.behind

pub follow-requires-clause-seen : goal.follow-requires-clause-seen
follow-requires-clause-seen c = c.in_ok-done.ensures.seen

pub follow-requires-clause-reached : goal.follow-requires-clause-reached
follow-requires-clause-reached c =
    effect-reached (development_view c.args.development.now).object c.args.place.now.point.0 (variables_of c.args.place.now) (written_in_draft c.args.draft.now) c.in_ok-done.done c.in_ok-done.ensures.effect
