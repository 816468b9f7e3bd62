use Rattle.std.proofs.Common.{◌≡◌, ◌+◌, ◌++◌, List, Option, Ok, Err, Some, Result, slice_get, length, refl, ap, sym, subst, ◌∙◌}
use Rattle.lc_lemmas.proofs.Booleans.{left_true}
use Rattle.lc_term.specs.Computed.{IsComputed}
use Rattle.lc_term.specs.Meaning.{Env}
use Rattle.lc_term.specs.State.{state_of, env_of, column_count, variable_count}
use Rattle.std.specs.Prelude.{IfSome}
use Rattle.lc_term.specs.Updates.{stored_all, AreWithin}
use Rattle.lc_term.specs.UpdateView.{writes_view}
use Rattle.lc_seq.specs.Run.{seq_says, outcome_in}
use Rattle.lc_seq.specs.Specification.{Branch, branches_in, chosen, names_differ}
use Rattle.lc_seq.specs.Sequential.{given_in}
use Rattle.lc_seq.specs.SpecView.{branches_of, operations_of, choice_of}
use Rattle.lc_seq.specs.TextStep.{call_env, run, RunFits}
use Rattle.lc_seq.specs.declared.fault.SeqFault.{SeqFault}
use Rattle.lc_seq.specs.declared.running.Outcome.{Outcome}
use Rattle.lc_seq.proofs.Runs.{resolved_in, computed_at, none_applied, some_applied, fault_applied}
use Rattle.lc_seq.proofs.text_object.TextSpecSeqObject.apply.Goals as goal
use Rattle.lc_seq.proofs.text_object.TextSpecSeqObject.apply.Goals.{In_ok-env}

-- the variables of the call, and the branches that its choice leaves
abbrev env_at : In_ok-env → Env
env_at c = call_env c.args.client (c.args.call.now.numbers.items ++ given_in (choice_of c.args.choice.now))

abbrev left_at : In_ok-env → List Branch
left_at c = chosen (choice_of c.args.choice.now) (branches_in (slice_get (operations_of c.args.self.now.operations.items) c.args.call.now.op.0) (length c.args.call.now.numbers.items))

env : (c : In_ok-env) → env_of c.in_ok-env.env ≡ env_at c
env c = c.in_ok-env.ensures.env ∙ ap (λ ns. call_env c.args.client (ns ++ c.numbers.result.now)) c.deref.ensures.value ∙ ap (λ ns. call_env c.args.client (c.args.call.now.numbers.items ++ ns)) c.numbers.ensures

left : (c : In_ok-env) → chosen (choice_of c.args.choice.now) (branches_of c.branches_for-branches.result.now) ≡ left_at c
left c =
    ap (chosen (choice_of c.args.choice.now))
    (c.branches_for-branches.ensures ∙ ap (branches_in (slice_get (operations_of c.args.self.now.operations.items) c.args.call.now.op.0)) (c.len.ensures ∙ sym c.deref.ensures.len ∙ ap length c.deref.ensures.value))

-- what is computed of them
computed : (c : In_ok-env) (r : Result (Option Outcome) SeqFault)
    → (let s = state_of c.args.state.now.cells in
    let e = env_of c.in_ok-env.env in
    let bs = chosen (choice_of c.args.choice.now) (branches_of c.branches_for-branches.result.now) in
    IsComputed seq_says outcome_in (RunFits s e bs) (run s e bs) r → IsComputed seq_says outcome_in (RunFits s (env_at c) (left_at c)) (run s (env_at c) (left_at c)) r)
computed c r known = computed_at (state_of c.args.state.now.cells) (state_of c.args.state.now.cells) (env_of c.in_ok-env.env) (env_at c) _ (left_at c) r refl (env c) (left c) known

pub run-requires : goal.run-requires
run-requires c =
    let numbers = c.args.call.now.numbers.items in
    let ch = choice_of c.args.choice.now in
    let columns : column_count c.args.state.now.cells ≡ length c.args.self.now.columns.items = c.requires in
    let variables : variable_count c.in_ok-env.env ≡ 2 + length numbers + length (given_in ch) =
    c.in_ok-env.ensures.count ∙ ap (λ ns. 2 + length ns + length c.numbers.result.now) c.deref.ensures.value ∙ ap (λ ns. 2 + length numbers + length ns) c.numbers.ensures in
    let branches = left (goal.at.run-requires c).In_ok-env in
    rw (columns, variables, branches) (resolved_in (length c.args.self.now.columns.items) (operations_of c.args.self.now.operations.items) c.args.call.now.op.0 (length numbers) ch
    (left_true _ (names_differ (operations_of c.args.self.now.operations.items)) c.args.self.now.is_resolved))

pub returns-in_err-outcome-clause-applied : goal.returns-in_err-outcome-clause-applied
returns-in_err-outcome-clause-applied c =
    let at = (goal.at.returns-in_err-outcome-clause-applied c).In_ok-env in
    let s = state_of c.args.state.now.cells in
    fault_applied s (env_at at) (left_at at) s c.from_residual-in_err-outcome.result c.in_err-outcome.field-0.0 refl c.from_residual-in_err-outcome.ensures.1
    (computed at (Err c.in_err-outcome.field-0.0) c.in_err-outcome.ensures.computed)

pub write_all-requires : goal.write_all-requires
write_all-requires c =
    let count = column_count c.args.state.now.cells in
    let there = subst (λ f. IfSome f (λ outcome. AreWithin count (writes_view outcome.writes.items))) c.in-Some.is c.in_ok-outcome.ensures.columns in
    subst (λ ws. AreWithin count (writes_view ws)) (sym c.deref-in-Some.ensures.value) there

pub returns-in-Some-clause-applied : goal.returns-in-Some-clause-applied
returns-in-Some-clause-applied c =
    let at = (goal.at.returns-in-Some-clause-applied c).In_ok-env in
    let s = state_of c.args.state.now.cells in
    let known = subst (λ f. IsComputed seq_says outcome_in (RunFits s (env_at at) (left_at at)) (run s (env_at at) (left_at at)) (Ok f)) c.in-Some.is (computed at (Ok c.in_ok-outcome.field-0) c.in_ok-outcome.ensures.computed) in
    let found = some_applied s (env_at at) (left_at at) c.in-Some.outcome known in
    let now : state_of c.write_all.new.self ≡ stored_all s (writes_view c.in-Some.outcome.writes.items) =
    c.in_ok-write_all-in-Some.ensures.ok ∙ ap (λ ws. stored_all s (writes_view ws)) c.deref-in-Some.ensures.value in
    (found.0, found.1 ∙ ap (λ t. Some (t, c.in-Some.outcome.replies.items)) (sym now))

pub returns-clause-applied : goal.returns-clause-applied
returns-clause-applied c =
    let at = (goal.at.returns-clause-applied c).In_ok-env in
    let s = state_of c.args.state.now.cells in
    let known = subst (λ f. IsComputed seq_says outcome_in (RunFits s (env_at at) (left_at at)) (run s (env_at at) (left_at at)) (Ok f)) c.in-None.is (computed at (Ok c.in_ok-outcome.field-0) c.in_ok-outcome.ensures.computed) in
    let found = none_applied s (env_at at) (left_at at) known in
    (found.0, found.1, refl)
