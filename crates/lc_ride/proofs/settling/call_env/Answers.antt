use Rattle.std.proofs.Common.{◌≡◌, ◌∷◌, ◌++◌, pos, take, ap, subst, ◌∙◌, rules}
use Rattle.lc_term.specs.State.{state_of, env_of, column_count}
use Rattle.lc_term.specs.SystemColumns.{arg_columns}
use Rattle.lc_term.specs.Updates.{row}
use Rattle.lc_action.specs.ActionView.{first_of}
use Rattle.lc_seq.specs.Run.{seq_says}
use Rattle.lc_seq.specs.SpecView.{operations_of}
use Rattle.lc_seq.specs.Branches.{arity}
use Rattle.lc_seq.specs.TextStep.{call_env}
use Rattle.lc_seq.proofs.Runs.{handed_on}
use Rattle.lc_rider.specs.Rider.{arguments_in}
use Rattle.lc_ride.specs.RidingFits.{CellsFit}
use Rattle.lc_ride.proofs.Cells.{numbers_of, take-numbers, arguments-there}
use Rattle.lc_ride.proofs.Taking.{take-row, call-env-is}
use Rattle.lc_ride.proofs.settling.call_env.Goals as goal

pub push_cells-requires-clause-there : goal.push_cells-requires-clause-there
push_cells-requires-clause-there c =
    arguments-there (first_of c.args.call.system) (column_count c.args.state.now) c.arity.result c.arguments-columns.result c.arguments-columns.ensures c.requires.there.system

pub returns-in_err-push_cells-clause-env : goal.returns-in_err-push_cells-clause-env
returns-in_err-push_cells-clause-env c =
    let ops = operations_of c.args.call.operations.now in
    let m = state_of c.args.state.now in
    let first = first_of c.args.call.system in
    let o = c.args.call.operation.0 in
    let cols : numbers_of (take c.arity.result c.arguments-columns.result) ≡ take (arity ops o) (arg_columns first) =
    take-numbers c.arity.result c.arguments-columns.result ∙ (ap (take c.arity.result) c.arguments-columns.ensures ∙ ap (λ k. take k (arg_columns first)) c.arity.ensures) in
    handed_on env_of (CellsFit m (take (arity ops o) (arg_columns first)) (pos c.args.call.client)) (call_env c.args.call.client (arguments_in ops first m c.args.call.client o ++ c.args.given.now))
    c.from_residual-in_err-push_cells.result c.in_err-push_cells.field-0.0 c.from_residual-in_err-push_cells.ensures.1
    (subst (λ cs. seq_says c.in_err-push_cells.field-0.0 (CellsFit m cs (pos c.args.call.client))) cols c.in_err-push_cells.ensures.err)

pub returns-clause-env : goal.returns-clause-env
returns-clause-env c =
    let ops = operations_of c.args.call.operations.now in
    let m = state_of c.args.state.now in
    let first = first_of c.args.call.system in
    let o = c.args.call.operation.0 in
    let cols : numbers_of (take c.arity.result c.arguments-columns.result) ≡ take (arity ops o) (arg_columns first) =
    take-numbers c.arity.result c.arguments-columns.result ∙ (ap (take c.arity.result) c.arguments-columns.ensures ∙ ap (λ k. take k (arg_columns first)) c.arity.ensures) in
    let cells = row m (numbers_of (take c.arity.result c.arguments-columns.result)) (pos c.args.call.client) in
    let items : c.extend_from_slice.new.self.items ≡ pos 0 ∷ pos c.args.call.client ∷ cells ++ c.args.given.now = search rules in
    let args : cells ≡ arguments_in ops first m c.args.call.client o =
    ap (λ cs. row m cs (pos c.args.call.client)) cols ∙ take-row (arity ops o) m (arg_columns first) (pos c.args.call.client) in (
      subst (λ cs. CellsFit m cs (pos c.args.call.client)) cols c.in_ok-push_cells.ensures.ok,
      call-env-is c.args.call.client (arguments_in ops first m c.args.call.client o ++ c.args.given.now) c.extend_from_slice.new.self.items (items ∙ ap (λ xs. pos 0 ∷ pos c.args.call.client ∷ xs ++ c.args.given.now) args),
    )
