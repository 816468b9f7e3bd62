use Rattle.std.proofs.Common.{◌≡◌, refl, ap, sym, ◌∙◌, Some, length, rules, subst}
use Rattle.std.proofs.lemmas.List.{length-map}
use Rattle.lc_base.specs.Name.{bytes_of}
use Rattle.lc_object.specs.View.{operation_of}
use Rattle.lc_machine.specs.View.{client_of, clients_of}
use Rattle.lc_outline.specs.DevelopmentView.{development_view}
use Rattle.lc_ride.specs.Drafts.{written_in_draft}
use Rattle.lc_steps.specs.StepView.{world_in}
use Rattle.lc_steps.proofs.Begun.{refused}
use Rattle.lc_steps.proofs.beginning.begin.Goals as goal

pub returns-in-Some-In-clause-begun : goal.returns-in-Some-In-clause-begun
returns-in-Some-In-clause-begun c =
    let place = c.in-Some-In.field-0-0 in
    (place.point.0, place.variables.values.items, c.in-Some-In.ensures ∙ ap (λ k. Some (client_of k)) c.in-Some-In.field-0-is)

pub returns-in_default-clause-begun : goal.returns-in_default-clause-begun
returns-in_default-clause-begun c = (c.in-Some-Idle.ensures ∙ ap (λ k. Some (client_of k)) c.in-Some-Idle.field-0-is, c.in_default.ensures.found)

pub returns-then-numbers-len-clause-begun : goal.returns-then-numbers-len-clause-begun
returns-then-numbers-len-clause-begun c =
    let len : c.len.result ≡ length c.in-Some.body.now.arguments.items = search rules in (
      c.in-Some-Idle.ensures ∙ ap (λ k. Some (client_of k)) c.in-Some-Idle.field-0-is,
      (operation_of c.in-Some.body.now, c.in-Some.ensures.found, λ e. c.if-numbers-len.true (e ∙ length-map c.in-Some.body.now.arguments.items bytes_of ∙ sym len)),
    )

pub returns-in_err-count-clause-begun : goal.returns-in_err-count-clause-begun
returns-in_err-count-clause-begun c =
    let len : c.len.result ≡ length c.in-Some.body.now.arguments.items = search rules in
    refused (development_view c.args.development.now) (world_in c.args.draft.now c.args.clients.now) c.args.client c.args.operation.0 c.args.numbers.now (operation_of c.in-Some.body.now) c.in-Some.ensures.found
    (c.if-numbers-len.false ∙ len ∙ sym (length-map c.in-Some.body.now.arguments.items bytes_of)) (c.in-Some-Idle.ensures ∙ ap (λ k. Some (client_of k)) c.in-Some-Idle.field-0-is)
    (written_in_draft c.roll_back.new.self) c.from_residual.result c.from_residual.ensures.1

pub enter-requires-clause-numbers : goal.enter-requires-clause-numbers
enter-requires-clause-numbers c =
    let len : c.len.result ≡ length c.in-Some.body.now.arguments.items = search rules in
    c.if-numbers-len.false ∙ len ∙ sym (length-map c.in-Some.body.now.arguments.items bytes_of)

pub returns-clause-begun : goal.returns-clause-begun
returns-clause-begun c =
    c.enter.ensures.begun (world_in c.args.draft.now c.args.clients.now) (sym c.roll_back.ensures.written) (length-map c.args.clients.now client_of ∙ sym c.in_ok-count.ensures)
    (c.in-Some-Idle.ensures ∙ ap (λ k. Some (client_of k)) c.in-Some-Idle.field-0-is)
