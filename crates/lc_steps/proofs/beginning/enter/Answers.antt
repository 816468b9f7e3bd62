use Rattle.std.proofs.Common.{◌≡◌, ap, sym, subst, ◌∙◌, [], refl, length, rules}
use Rattle.lc_ride.specs.Drafts.{written_in_draft}
use Rattle.lc_term.specs.Updates.{stored_all}
use Rattle.lc_action.specs.ActionView.{first_of}
use Rattle.lc_object.specs.View.{operation_of}
use Rattle.lc_machine.specs.View.{client_of}
use Rattle.lc_machine.specs.World.{first_variables}
use Rattle.lc_rider.specs.Rider.{invocation_writes}
use Rattle.lc_outline.specs.Development.{first_system}
use Rattle.lc_outline.specs.DevelopmentView.{development_view}
use Rattle.lc_steps.proofs.Begun.{refused, begun, entry-placed}
use Rattle.lc_steps.proofs.beginning.enter.Goals as goal

pub returns-in_err-variables-clause-begun : goal.returns-in_err-variables-clause-begun
returns-in_err-variables-clause-begun c =
    λ w columns count idle.
    refused (development_view c.args.development.now) w c.args.client c.args.operation.0 c.args.numbers.now (operation_of c.args.body.now) c.requires.body c.requires.numbers idle
    (written_in_draft c.args.draft.now) c.from_residual.result c.from_residual.ensures.1

pub returns-in_err-given-clause-begun : goal.returns-in_err-given-clause-begun
returns-in_err-given-clause-begun c =
    λ w columns count idle.
    refused (development_view c.args.development.now) w c.args.client c.args.operation.0 c.args.numbers.now (operation_of c.args.body.now) c.requires.body c.requires.numbers idle
    (written_in_draft c.args.draft.now) c.from_residual-in_err-given.result c.from_residual-in_err-given.ensures.1

pub returns-in_err-write_all-clause-begun : goal.returns-in_err-write_all-clause-begun
returns-in_err-write_all-clause-begun c =
    λ w columns count idle.
    refused (development_view c.args.development.now) w c.args.client c.args.operation.0 c.args.numbers.now (operation_of c.args.body.now) c.requires.body c.requires.numbers idle
    (written_in_draft c.write_all.new.self) c.from_residual-in_err-write_all.result c.from_residual-in_err-write_all.ensures.1

pub returns-clause-begun : goal.returns-clause-begun
returns-clause-begun c =
    let D = development_view c.args.development.now in
    let o = operation_of c.args.body.now in
    let ns = c.args.numbers.now in
    let x = c.args.client in
    let op = c.args.operation.0 in
    let s = written_in_draft c.args.draft.now in
    let first = first_of c.system_columns-system.result in
    let computed : written_in_draft c.write_all.new.self ≡ stored_all s (invocation_writes first x op ns) = c.in_ok-write_all.ensures.ok ∙ ap (stored_all s) c.invocation_writes.ensures in
    let writes = computed ∙ ap (λ f. stored_all s (invocation_writes f x op ns)) c.system_columns-system.ensures in
    λ w columns count idle.
    begun D w x op ns o c.requires.body c.requires.numbers idle c.entered.result (written_in_draft c.write_all.new.self) c.in_ok-variables.variables.values.items c.in_ok-given.given.items c.entered.ensures.what c.entered.ensures.marks c.entered.ensures.client
    (writes ∙ ap (λ m. stored_all m (invocation_writes (first_system D) x op ns)) (sym columns)) (c.in_ok-variables.ensures ∙ ap (λ n. first_variables n x o ns) (sym count)) c.in_ok-given.ensures

pub returns-clause-placed : goal.returns-clause-placed
returns-clause-placed c =
    entry-placed (development_view c.args.development.now).object (operation_of c.args.body.now) c.args.clients c.args.client c.args.numbers.now c.in_ok-variables.variables.values.items (client_of c.entered.result.client) c.requires.entry c.requires.numbers
    c.in_ok-variables.ensures c.entered.ensures.client
