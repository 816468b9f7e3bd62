use Rattle.std.proofs.Common.{◌≡◌, ◌≤◌, true, false, Ok, Err, [], refl, ap, sym, subst, ◌∙◌}
use Rattle.std.specs.List.{list_all}
use Rattle.lc_base.specs.Limits.{argument_limit}
use Rattle.lc_ride.specs.Drafts.{written_in_draft, draft_columns}
use Rattle.lc_term.specs.State.{variable_count}
use Rattle.lc_seq.specs.Branches.{arity}
use Rattle.lc_seq.specs.SpecView.{operations_of}
use Rattle.lc_action.specs.ActionView.{first_of}
use Rattle.lc_rider.specs.RiderView.{riders_of}
use Rattle.lc_outline.specs.Development.{riders_at}
use Rattle.lc_outline.specs.DevelopmentView.{development_view}
use Rattle.lc_outline.specs.Resolved.{is_resolved}
use Rattle.lc_ride.specs.RideView.{AreThere, rider_is_evaluable}
use Rattle.lc_steps.specs.Stepping.{ridden, RiddenFits}
use Rattle.lc_steps.specs.StepParts.{AreRidden}
use Rattle.lc_steps.proofs.Ridden.{ridden-from, all-done, not-all-done, faulted}
use Rattle.lc_steps.proofs.Seen.{columns_are_there, arity_is_small}
use Rattle.lc_steps.proofs.riding.ride.Goals as goal

pub ride_all-requires-clause-there : goal.ride_all-requires-clause-there
ride_all-requires-clause-there c =
    let D = development_view c.args.development.now in
    let n = draft_columns c.args.draft.now in
    let R : is_resolved D ≡ true = subst (λ d. is_resolved d ≡ true) c.parts.ensures.shown c.parts.ensures.resolved in
    let ops = c.operations.ensures ∙ ap (λ d. d.specification.operations) c.parts.ensures.shown in
    subst (λ z. AreThere z (first_of c.system_columns-system.result) n) (sym ops) (subst (λ f. AreThere D.specification.operations f n) (sym c.system_columns-system.ensures) (columns_are_there D R n c.requires.columns))

pub ride_all-requires-clause-few : goal.ride_all-requires-clause-few
ride_all-requires-clause-few c =
    let D = development_view c.args.development.now in
    let R : is_resolved D ≡ true = subst (λ d. is_resolved d ≡ true) c.parts.ensures.shown c.parts.ensures.resolved in
    let ops = c.operations.ensures ∙ ap (λ d. d.specification.operations) c.parts.ensures.shown in
    λ o. subst (λ z. arity z o ≤ argument_limit) (sym ops) (arity_is_small D R o)

pub ride_all-requires-clause-seen : goal.ride_all-requires-clause-seen
ride_all-requires-clause-seen c =
    let D = development_view c.args.development.now in
    let v = variable_count c.args.env.now in
    subst (λ z. list_all (rider_is_evaluable (draft_columns c.args.draft.now) v) z ≡ true) (sym c.riders_at-riders.ensures)
    (subst (λ k. list_all (rider_is_evaluable k v) (riders_at D c.args.point.0 c.args.edge) ≡ true) (sym c.requires.columns) c.requires.seen)

pub returns-in-Ok-true-clause-ridden : goal.returns-in-Ok-true-clause-ridden
returns-in-Ok-true-clause-ridden c =
    let D = development_view c.args.development.now in
    let vs = c.args.env.now.values.items in
    let s = written_in_draft c.args.draft.now in
    let x = c.args.client in
    let p = c.args.point.0 in
    let k = c.args.edge in
    let ops = c.operations.ensures ∙ ap (λ d. d.specification.operations) c.parts.ensures.shown in
    let end = written_in_draft c.ride_all.new.draft in
    let marks = c.ride_all.new.marks in
    let done = ridden-from D x p k vs s (operations_of c.operations.result.now) (first_of c.system_columns-system.result) c.from.result c.operation_at.result.0 (riders_of c.riders_at-riders.result.now) c.new-marks.result.items marks.items end (Ok c.in-Ok-true.field-0) (Ok true)
    c.new-marks.ensures.items (ap Ok c.in-Ok-true.field-0-test) ops c.system_columns-system.ensures c.from.ensures c.operation_at.ensures c.riders_at-riders.ensures c.in-Ok-true.ensures.done in
    all-done (RiddenFits D x p k vs s) (ridden D x p k vs s) end marks done

pub returns-in-Ok-false-clause-ridden : goal.returns-in-Ok-false-clause-ridden
returns-in-Ok-false-clause-ridden c =
    let D = development_view c.args.development.now in
    let vs = c.args.env.now.values.items in
    let s = written_in_draft c.args.draft.now in
    let x = c.args.client in
    let p = c.args.point.0 in
    let k = c.args.edge in
    let ops = c.operations.ensures ∙ ap (λ d. d.specification.operations) c.parts.ensures.shown in
    let end = written_in_draft c.ride_all.new.draft in
    let marks = c.ride_all.new.marks in
    let done = ridden-from D x p k vs s (operations_of c.operations.result.now) (first_of c.system_columns-system.result) c.from.result c.operation_at.result.0 (riders_of c.riders_at-riders.result.now) c.new-marks.result.items marks.items end (Ok c.in-Ok-false.field-0) (Ok false)
    c.new-marks.ensures.items (ap Ok c.in-Ok-false.field-0-test) ops c.system_columns-system.ensures c.from.ensures c.operation_at.ensures c.riders_at-riders.ensures c.in-Ok-false.ensures.done in
    not-all-done (RiddenFits D x p k vs s) (ridden D x p k vs s) end [] marks.items done

pub returns-in-Err-clause-ridden : goal.returns-in-Err-clause-ridden
returns-in-Err-clause-ridden c =
    let D = development_view c.args.development.now in
    let vs = c.args.env.now.values.items in
    let s = written_in_draft c.args.draft.now in
    let x = c.args.client in
    let p = c.args.point.0 in
    let k = c.args.edge in
    let ops = c.operations.ensures ∙ ap (λ d. d.specification.operations) c.parts.ensures.shown in
    let end = written_in_draft c.ride_all.new.draft in
    let marks = c.ride_all.new.marks in
    let done = ridden-from D x p k vs s (operations_of c.operations.result.now) (first_of c.system_columns-system.result) c.from.result c.operation_at.result.0 (riders_of c.riders_at-riders.result.now) c.new-marks.result.items marks.items end (Err c.in-Err.fault) (Err c.in-Err.fault)
    c.new-marks.ensures.items refl ops c.system_columns-system.ensures c.from.ensures c.operation_at.ensures c.riders_at-riders.ensures c.in-Err.ensures.done in
    subst (λ f. AreRidden (RiddenFits D x p k vs s) (ridden D x p k vs s) end (Err f)) (sym c.step_fault.ensures) (faulted (RiddenFits D x p k vs s) (ridden D x p k vs s) end [] marks.items c.in-Err.fault done)
