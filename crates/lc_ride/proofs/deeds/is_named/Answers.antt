use Rattle.std.proofs.Common.{◌≡◌, pos, rules, subst}
use Rattle.std.specs.Prelude.{FitsSigned, OkIff}
use Rattle.std.specs.Int.{w64}
use Rattle.std.specs.Ordering.{int_eq}
use Rattle.lc_term.specs.State.{state_of}
use Rattle.lc_term.specs.SystemColumns.{op_column}
use Rattle.lc_action.specs.ActionView.{first_of}
use Rattle.lc_ride.specs.Drafts.{written_in_draft}
use Rattle.lc_ride.proofs.deeds.is_named.Goals as goal

pub returns : goal.returns
returns c =
    let here = state_of c.state.result.now c.operation.result.0 (pos c.args.call.client) in
    let cell : here ≡ written_in_draft c.args.draft.now (op_column (first_of c.args.call.system)) (pos c.args.call.client) =
    λ i. c.state.ensures.written i (c.operation.ensures i) (pos c.args.call.client) in
    let known : OkIff c.stands.result (FitsSigned w64 here) (int_eq here (pos c.args.call.operation.0)) = search rules in
    subst (λ z. OkIff c.stands.result (FitsSigned w64 z) (int_eq z (pos c.args.call.operation.0))) cell known
