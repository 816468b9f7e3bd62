use Rattle.std.proofs.Common.{◌≡◌, ◌<◌, Some, length, ap, sym, subst, ◌∙◌, rules}
use Rattle.std.proofs.lemmas.List.{length-map}
use Rattle.lc_lemmas.proofs.Lists.{viewed_at}
use Rattle.lc_object.specs.Syntax.{Object}
use Rattle.lc_object.specs.View.{operation_of, parts_of}
use Rattle.lc_object.specs.WellFormed.{variable_count}
use Rattle.lc_machine.specs.MayRun.{variables_at}
use Rattle.lc_machine.proofs.Promised.{entry_variables}
use Rattle.lc_outline.specs.DevelopmentView.{development_view}
use Rattle.lc_steps.proofs.lookup.body_of.Goals as goal

pub returns-then-operation-len-clause-entry : goal.returns-then-operation-len-clause-entry
returns-then-operation-len-clause-entry c =
    let parts = c.parts-2.result.now in
    let found = c.index.result.now in
    let op = c.args.operation.0 in
    let same : parts_of parts ≡ (development_view c.args.development.now).object = c.parts-2.ensures.shown ∙ ap (λ d. d.object) c.parts.ensures.shown in
    let within : op < length parts.operations.items = search rules in
    subst (λ (x : Object). variables_at x (operation_of found).entry ≡ Some (variable_count (operation_of found))) same
    (entry_variables (parts_of parts) c.parts-2.ensures.well_formed op (operation_of found) (viewed_at operation_of parts.operations.items op found (subst (λ n. op < n) (sym (length-map parts.operations.items operation_of)) within) c.index.ensures))
