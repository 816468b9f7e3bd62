use Rattle.std.proofs.Common.{◌≡◌, ◌+◌, ◌∷◌, arith, drop, refl, ap, sym, subst, ◌∙◌}
use Rattle.lc_lemmas.proofs.Lists.{drop_at_element}
use Rattle.lc_lemmas.proofs.Booleans.{left_true}
use Rattle.lc_term.specs.Meaning.{outside}
use Rattle.lc_term.specs.State.{state_of, env_of, column_count, variable_count}
use Rattle.lc_term.specs.Truth.{truth}
use Rattle.lc_seq.specs.Run.{outcome_of, outcome_in}
use Rattle.lc_seq.specs.Specification.{chosen}
use Rattle.lc_seq.specs.SpecView.{branch_of, branches_of, choice_of}
use Rattle.lc_seq.proofs.Choosing.{left_in}
use Rattle.lc_seq.specs.TextStep.{run, RunFits, UpdatesFit, TermsFit, writes_of, values_of}
use Rattle.lc_seq.proofs.Runs.{run-within, AreRun, answer_is_truth, run_next, taken_fits, taken_gives, handed_up}
use Rattle.lc_seq.proofs.running.run.Goals as goal
use Rattle.lc_seq.proofs.running.run.Goals.{In_ok-eval}

-- this branch, followed by the others
are : (c : In_ok-eval)
    → AreRun (state_of c.args.state.now) (env_of c.args.env.now) (column_count c.args.state.now) (variable_count c.args.env.now) (chosen (choice_of c.args.pick.now) (branches_of c.args.branches.now))
    (branch_of c.branch-item.result ∷ chosen (choice_of c.args.pick.now) (branches_of (drop (c.loop-branch.branch-index + 1) c.args.branches.now)))
are c =
    let ch = choice_of c.args.pick.now in
    let front = ap (λ xs. chosen ch (branches_of xs)) (drop_at_element c.args.branches.now c.loop-branch.branch-index c.branch-item.result (omega arith) c.branch-item.is)
    ∙ left_in ch (branch_of c.branch-item.result) (branches_of (drop (c.loop-branch.branch-index + 1) c.args.branches.now)) (sym c.agrees.ensures ∙ c.if-not-agrees.false) in
    subst (AreRun (state_of c.args.state.now) (env_of c.args.env.now) (column_count c.args.state.now) (variable_count c.args.env.now) (chosen ch (branches_of c.args.branches.now))) front c.loop-branch.invariant

-- whether its guard holds
guard : (c : In_ok-eval) → truth (state_of c.args.state.now) (env_of c.args.env.now) outside (branch_of c.branch-item.result).guard ≡ c.in_ok-eval.field-0
guard c = sym (answer_is_truth _ _ _ c.in_ok-eval.field-0 (left_true _ _ (left_true _ _ (left_true _ _ (are c).resolved))) c.in_ok-eval.ensures.meaning)

pub returns-in_err-outcome-clause-computed : goal.returns-in_err-outcome-clause-computed
returns-in_err-outcome-clause-computed c =
    let at = (goal.at.returns-in_err-outcome-clause-computed c).In_ok-eval in
    let s = state_of c.args.state.now in
    let e = env_of c.args.env.now in
    let whole = chosen (choice_of c.args.pick.now) (branches_of c.args.branches.now) in
    let b = branch_of c.branch-item.result in
    handed_up outcome_of (UpdatesFit s e b.updates × TermsFit s e b.replies) (writes_of s e b.updates, values_of s e b.replies) outcome_in (RunFits s e whole) (run s e whole)
    c.from_residual-in_err-outcome.result c.in_err-outcome.field-0.0 c.from_residual-in_err-outcome.ensures.1 (taken_fits _ _ _ _ _ _ _ (are at) (guard at ∙ c.if-branch.true)) c.in_err-outcome.ensures

pub returns-then-branch-clause-computed : goal.returns-then-branch-clause-computed
returns-then-branch-clause-computed c =
    let at = (goal.at.returns-then-branch-clause-computed c).In_ok-eval in
    taken_gives _ _ _ _ _ _ _ c.in_ok-outcome.outcome (are at) (c.in_ok-eval.ensures.overflow.0 refl) (guard at ∙ c.if-branch.true) c.in_ok-outcome.ensures

pub returns-then-branch-clause-columns : goal.returns-then-branch-clause-columns
returns-then-branch-clause-columns c =
    let at = (goal.at.returns-then-branch-clause-columns c).In_ok-eval in
    let gives = taken_gives _ _ _ _ _ _ _ c.in_ok-outcome.outcome (are at) (c.in_ok-eval.ensures.overflow.0 refl) (guard at ∙ c.if-branch.true) c.in_ok-outcome.ensures in
    run-within (state_of c.args.state.now) (env_of c.args.env.now) _ (variable_count c.args.env.now) (chosen (choice_of c.args.pick.now) (branches_of c.args.branches.now)) (outcome_of c.in_ok-outcome.outcome) c.requires gives.1

pub loop-branch-preserved : goal.loop-branch-preserved
loop-branch-preserved c =
    let at = (goal.at.loop-branch-preserved c).In_ok-eval in
    run_next _ _ _ _ _ _ _ (are at) (c.in_ok-eval.ensures.overflow.0 refl) (guard at ∙ c.if-branch.false)
