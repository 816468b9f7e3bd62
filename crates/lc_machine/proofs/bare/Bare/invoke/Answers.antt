use Rattle.std.proofs.Common.{◌≡◌, refl, ap, sym, ◌∙◌, Some, length, rules}
use Rattle.std.specs.Prelude.{slice_get}
use Rattle.std.proofs.lemmas.List.{length-map, length-set}
use Rattle.std.proofs.lemmas.Result.{err_from_is_err_and}
use Rattle.lc_base.specs.Name.{bytes_of}
use Rattle.lc_term.specs.State.{state_of}
use Rattle.lc_object.specs.View.{operation_of}
use Rattle.lc_machine.specs.World as W
use Rattle.lc_machine.specs.World.{In, first_variables}
use Rattle.lc_machine.specs.Step.{IsClient, after}
use Rattle.lc_machine.specs.Machine.{object_in, world_of}
use Rattle.lc_machine.specs.View.{client_of, clients_of}
use Rattle.lc_machine.specs.declared.client.Client.{Client}
use Rattle.lc_machine.specs.declared.client.Client.TheVariants as C
use Rattle.lc_machine.proofs.Promised.{entry_is_placed}
use Rattle.lc_machine.proofs.Worlds.{placed_set, world_set}
use Rattle.lc_machine.proofs.bare.Bare.invoke.Goals as goal

pub returns-in-Some-In-clause-invoked : goal.returns-in-Some-In-clause-invoked
returns-in-Some-In-clause-invoked c =
    let place = c.in-Some-In.field-0-0 in (
      (
        place.point.0,
        place.variables.values.items,
        ap (λ cs. slice_get (clients_of cs) c.args.client) (sym c.deref.ensures.value) ∙ c.in-Some-In.ensures ∙ ap (λ k. Some (client_of k)) c.in-Some-In.field-0-is,
      ),
      refl,
    )

pub returns-in_default-clause-invoked : goal.returns-in_default-clause-invoked
returns-in_default-clause-invoked c =
    let idle : IsClient (world_of c.args.self.now) c.args.client W.Idle =
    ap (λ cs. slice_get (clients_of cs) c.args.client) (sym c.deref.ensures.value) ∙ c.in-Some-Idle.ensures ∙ ap (λ k. Some (client_of k)) c.in-Some-Idle.field-0-is in
    (idle, c.in_default.ensures, refl)

pub returns-then-numbers-len-clause-invoked : goal.returns-then-numbers-len-clause-invoked
returns-then-numbers-len-clause-invoked c =
    let idle : IsClient (world_of c.args.self.now) c.args.client W.Idle =
    ap (λ cs. slice_get (clients_of cs) c.args.client) (sym c.deref.ensures.value) ∙ c.in-Some-Idle.ensures ∙ ap (λ k. Some (client_of k)) c.in-Some-Idle.field-0-is in
    let len : c.len.result ≡ length c.in-Some.operation.now.arguments.items = search rules in
    (idle, (operation_of c.in-Some.operation.now, c.in-Some.ensures, λ e. c.if-numbers-len.true (e ∙ length-map c.in-Some.operation.now.arguments.items bytes_of ∙ sym len)), refl)

pub returns-in_err-variables-clause-invoked : goal.returns-in_err-variables-clause-invoked
returns-in_err-variables-clause-invoked c =
    let p = err_from_is_err_and c.from_residual.result c.from_residual.ensures.1 in
    let idle : IsClient (world_of c.args.self.now) c.args.client W.Idle =
    ap (λ cs. slice_get (clients_of cs) c.args.client) (sym c.deref.ensures.value) ∙ c.in-Some-Idle.ensures ∙ ap (λ k. Some (client_of k)) c.in-Some-Idle.field-0-is in
    let len : c.len.result ≡ length c.in-Some.operation.now.arguments.items = search rules in
    let count = c.if-numbers-len.false ∙ len ∙ sym (length-map c.in-Some.operation.now.arguments.items bytes_of) in
    rw (p.1, p.2) (idle, (operation_of c.in-Some.operation.now, c.in-Some.ensures, count), refl)

pub invariant_of-self : goal.invariant_of-self
invariant_of-self c =
    let bare = c.args.self.now in
    let o = c.in-Some.operation.now in
    let k : Client = C.In record { point = o.entry; variables = c.in_ok-variables.variables } in
    let len : c.len.result ≡ length o.arguments.items = search rules in
    let count = c.if-numbers-len.false ∙ len ∙ sym (length-map o.arguments.items bytes_of) in
    record {
      columns = bare.columns;
      counted = length-set bare.clients.items c.args.client k ∙ bare.counted;
      placed = placed_set (object_in bare) bare.clients.items c.args.client k bare.placed
          (entry_is_placed (object_in bare) bare.object.now.well_formed c.args.op.0 bare.count c.args.client (operation_of o) c.args.numbers.now c.in_ok-variables.variables.values.items
          c.in-Some.ensures count c.in_ok-variables.ensures);
    }

pub returns-clause-invoked : goal.returns-clause-invoked
returns-clause-invoked c =
    let bare = c.args.self.now in
    let o = c.in-Some.operation.now in
    let k : Client = C.In record { point = o.entry; variables = c.in_ok-variables.variables } in
    let len : c.len.result ≡ length o.arguments.items = search rules in
    let count = c.if-numbers-len.false ∙ len ∙ sym (length-map o.arguments.items bytes_of) in
    let idle : IsClient (world_of bare) c.args.client W.Idle =
    ap (λ cs. slice_get (clients_of cs) c.args.client) (sym c.deref.ensures.value) ∙ c.in-Some-Idle.ensures ∙ ap (λ k. Some (client_of k)) c.in-Some-Idle.field-0-is in
    let clients = sym (length-map bare.clients.items client_of ∙ bare.counted) in
    let variables = c.in_ok-variables.ensures ∙ ap (λ n. first_variables n c.args.client (operation_of o) c.args.numbers.now) clients in (
      operation_of o,
      c.in-Some.ensures,
      count,
      idle,
      world_set (state_of bare.state) bare.clients.items c.args.client k (world_of bare) refl ∙
          ap (λ vs. after (world_of bare) (state_of bare.state) c.args.client (In o.entry.0 vs)) variables,
    )
