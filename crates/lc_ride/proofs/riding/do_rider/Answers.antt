use Rattle.std.proofs.Common.{◌≡◌, true, false, Some, refl, sym, ap, subst, ◌∙◌}
use Rattle.std.specs.Prelude.{option_map}
use Rattle.lc_term.specs.Meaning.{outside}
use Rattle.lc_term.specs.Reached.{FormulaFits}
use Rattle.lc_term.specs.State.{state_of, env_of}
use Rattle.lc_term.specs.Truth.{truth}
use Rattle.lc_term.specs.View.{formula_of}
use Rattle.lc_action.specs.ActionView.{first_of}
use Rattle.lc_ride.specs.Drafts.{written_in_draft}
use Rattle.lc_seq.specs.SpecView.{operations_of}
use Rattle.lc_seq.proofs.Runs.{answer_is_truth}
use Rattle.lc_rider.specs.RiderView.{rider_of, formula_in}
use Rattle.lc_ride.proofs.Wherever.{where-true, where-false}
use Rattle.lc_ride.proofs.riding.do_rider.Goals as goal

pub returns-then-branch-clause-done : goal.returns-then-branch-clause-done
returns-then-branch-clause-done c =
    let ops = operations_of c.args.rides.now.operations.now in
    let first = first_of c.args.rides.now.system in
    let e = env_of c.args.rides.now.env.now in
    let m = written_in_draft c.args.draft.now in
    let s = state_of c.state.result.now in
    let r = rider_of c.args.rider.now in
    let f = formula_of c.formula.result.now in
    let is : r.condition ≡ Some f = sym c.condition.ensures ∙ (ap (option_map (λ when. formula_in when.now)) c.in-Some.is ∙ ap Some (sym c.formula.ensures.formula)) in
    let holds : truth s e outside f ≡ true = sym (answer_is_truth s e f c.in_ok-eval-in-Some.field-0 c.formula.ensures.ground c.in_ok-eval-in-Some.ensures.meaning) ∙ c.if-branch.true in
    where-true ops first c.args.rides.now.client c.args.rides.now.operation.0 e m r f is c.args.marks.now.items c.do_deed-then-branch.new.marks.items (written_in_draft c.do_deed-then-branch.new.draft) c.do_deed-then-branch.result
    (subst (λ z. FormulaFits z e f) c.state.ensures.written (c.in_ok-eval-in-Some.ensures.overflow.0 refl))
    (subst (λ z. truth z e outside f ≡ true) c.state.ensures.written holds)
    c.do_deed-then-branch.ensures.done

pub returns-else-branch-clause-done : goal.returns-else-branch-clause-done
returns-else-branch-clause-done c =
    let ops = operations_of c.args.rides.now.operations.now in
    let first = first_of c.args.rides.now.system in
    let e = env_of c.args.rides.now.env.now in
    let m = written_in_draft c.args.draft.now in
    let s = state_of c.state.result.now in
    let r = rider_of c.args.rider.now in
    let f = formula_of c.formula.result.now in
    let is : r.condition ≡ Some f = sym c.condition.ensures ∙ (ap (option_map (λ when. formula_in when.now)) c.in-Some.is ∙ ap Some (sym c.formula.ensures.formula)) in
    let fails : truth s e outside f ≡ false = sym (answer_is_truth s e f c.in_ok-eval-in-Some.field-0 c.formula.ensures.ground c.in_ok-eval-in-Some.ensures.meaning) ∙ c.if-branch.false in
    where-false ops first c.args.rides.now.client c.args.rides.now.operation.0 e m r f is c.args.marks.now.items
    (subst (λ z. FormulaFits z e f) c.state.ensures.written (c.in_ok-eval-in-Some.ensures.overflow.0 refl))
    (subst (λ z. truth z e outside f ≡ false) c.state.ensures.written fails)
