use Rattle.std.proofs.Common.{◌≡◌, ◌≤◌, true, Some, length, ap, sym, subst, ◌∙◌}
use Rattle.lc_term.specs.State.{state_of, column_count}
use Rattle.lc_ride.specs.Drafts.{written_in_draft, draft_columns}
use Rattle.lc_object.specs.Objects.{object_view}
use Rattle.lc_machine.specs.MayRun.{variables_at}
use Rattle.lc_machine.specs.View.{variables_of}
use Rattle.lc_machine.specs.World.{initial_numbers}
use Rattle.lc_outline.specs.DevelopmentView.{development_view}
use Rattle.lc_outline.specs.Resolved.{is_resolved}
use Rattle.lc_steps.proofs.Advanced.{effect-here, effect-seen, within-columns}
use Rattle.lc_steps.proofs.Seen.{columns-there, variables-there}
use Rattle.lc_steps.proofs.advancing.effect_in.Goals as goal

pub effect-requires-clause-place : goal.effect-requires-clause-place
effect-requires-clause-place c =
    let D = development_view c.args.development.now in
    let place = c.args.place.now in
    let same : object_view c.parts.result.now.object ≡ D.object = ap (λ d. d.object) c.parts.ensures.shown in
    subst (λ z. variables_at z place.point.0 ≡ Some (length (variables_of place))) (sym same) (variables-there D.object place.point.0 (variables_of place) c.requires.placed)

pub effect-requires-clause-columns : goal.effect-requires-clause-columns
effect-requires-clause-columns c =
    let D = development_view c.args.development.now in
    let R : is_resolved D ≡ true = subst (λ d. is_resolved d ≡ true) c.parts.ensures.shown c.parts.ensures.resolved in
    let same : object_view c.parts.result.now.object ≡ D.object = ap (λ d. d.object) c.parts.ensures.shown in
    subst (λ z. length (initial_numbers z) ≤ column_count c.state.result.now) (sym same) (columns-there D R (column_count c.state.result.now) (c.state.ensures.columns ∙ c.requires.columns))

pub returns-clause-effect : goal.returns-clause-effect
returns-clause-effect c =
    let D = development_view c.args.development.now in
    let place = c.args.place.now in
    effect-here (object_view c.parts.result.now.object) D.object place (state_of c.state.result.now) (written_in_draft c.args.draft.now) c.effect.result (ap (λ d. d.object) c.parts.ensures.shown) c.state.ensures.written c.requires.placed c.effect.ensures

pub returns-clause-within : goal.returns-clause-within
returns-clause-within c =
    let D = development_view c.args.development.now in
    let R : is_resolved D ≡ true = subst (λ d. is_resolved d ≡ true) c.parts.ensures.shown c.parts.ensures.resolved in
    let place = c.args.place.now in
    let effect = effect-here (object_view c.parts.result.now.object) D.object place (state_of c.state.result.now) (written_in_draft c.args.draft.now) c.effect.result (ap (λ d. d.object) c.parts.ensures.shown) c.state.ensures.written c.requires.placed c.effect.ensures in
    within-columns D.object place.point.0 (variables_of place) (written_in_draft c.args.draft.now) (draft_columns c.args.draft.now) c.effect.result effect (columns-there D R (draft_columns c.args.draft.now) c.requires.columns)

pub returns-clause-seen : goal.returns-clause-seen
returns-clause-seen c =
    let D = development_view c.args.development.now in
    let R : is_resolved D ≡ true = subst (λ d. is_resolved d ≡ true) c.parts.ensures.shown c.parts.ensures.resolved in
    let place = c.args.place.now in
    let effect = effect-here (object_view c.parts.result.now.object) D.object place (state_of c.state.result.now) (written_in_draft c.args.draft.now) c.effect.result (ap (λ d. d.object) c.parts.ensures.shown) c.state.ensures.written c.requires.placed c.effect.ensures in
    effect-seen D R place.point.0 (variables_of place) (written_in_draft c.args.draft.now) c.effect.result c.requires.placed effect
