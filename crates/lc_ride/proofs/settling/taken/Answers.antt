use Rattle.std.proofs.Common.{◌≡◌, ◌+◌, true, pos, length, rules, ap, subst, sym, ◌∙◌}
use Rattle.std.specs.Prelude.{FitsSigned}
use Rattle.std.specs.List.{list_all}
use Rattle.std.specs.Int.{w64}
use Rattle.std.specs.Ordering.{int_eq}
use Rattle.lc_term.specs.State.{state_of, env_of, column_count, variable_count}
use Rattle.lc_term.specs.SystemColumns.{pend}
use Rattle.lc_action.specs.ActionView.{first_of}
use Rattle.lc_seq.specs.Branches.{op_branches, arity}
use Rattle.lc_seq.specs.Run.{outcome_in}
use Rattle.lc_seq.specs.Specification.{branch_is_resolved, chosen}
use Rattle.lc_seq.specs.SpecView.{operations_of, branches_of, choice_of}
use Rattle.lc_seq.proofs.Choosing.{chosen-resolved}
use Rattle.lc_rider.specs.Rider.{arguments_in}
use Rattle.lc_ride.proofs.Taking.{is-taken, env-given}
use Rattle.lc_ride.proofs.settling.taken.Goals as goal

pub run-requires : goal.run-requires
run-requires c =
    let ops = operations_of c.args.call.operations.now in
    let o = c.args.call.operation.0 in
    let n = column_count c.args.state.now in
    let ch = choice_of c.args.pick.now in
    let left = chosen-resolved n (2 + arity ops o) ch (op_branches ops o) (c.requires.there.branches o) in
    let count = c.in_ok-env.ensures.count ∙ ap (λ xs. 2 + arity ops o + length xs) c.numbers.ensures in
    subst (λ bs. list_all (branch_is_resolved n (variable_count c.in_ok-env.env)) (chosen ch bs) ≡ true) (sym c.branches_at-branches.ensures)
    (subst (λ k. list_all (branch_is_resolved n k) (chosen ch (op_branches ops o)) ≡ true) (sym count) left)

pub returns-clause-computed : goal.returns-clause-computed
returns-clause-computed c =
    let ops = operations_of c.args.call.operations.now in
    let first = first_of c.args.call.system in
    let m = state_of c.args.state.now in
    let o = c.args.call.operation.0 in
    let ch = choice_of c.args.pick.now in
    let cell = m (pend first) (pos c.args.call.client) in
    let fits : FitsSigned w64 cell = search rules in
    let equal : int_eq cell (pos 1) ≡ true = search rules in
    is-taken ops first m c.args.call.client o ch
    outcome_in (env_of c.in_ok-env.env) (chosen ch (branches_of c.branches_at-branches.result.now)) c.run.result
    fits equal c.in_ok-env.ensures.env.0 (c.in_ok-env.ensures.env.1 ∙ env-given c.args.call.client (arguments_in ops first m c.args.call.client o) c.numbers.ensures) (ap (chosen ch) c.branches_at-branches.ensures) c.run.ensures.computed
