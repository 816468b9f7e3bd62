use Rattle.std.proofs.Common.{◌≡◌, length, subst, ap, sym, ◌∙◌, string_bytes}
use Rattle.std.proofs.lemmas.List.{length-map}
use Rattle.lc_explain_cert.proofs.Parted.{goal_shows_state}
use Rattle.lc_explain_cert.specs.Names.{spelled}
use Rattle.lc_kernel.specs.View.{proof_of}
use Rattle.lc_proof_state.specs.Standing.{IsStanding}
use Rattle.lc_table.specs.Tables.{formula_in, formulas_in}
use Rattle.lc_term.specs.View.{formulas_of}
use Rattle.lc_explain_cert.proofs.state.step_text.Goals as goal

pub returns-in_default : goal.returns-in_default
returns-in_default c = λ u G q few st. subst (IsStanding u G q) c.in_default.is (c.in_ok-standing.ensures u G q few st)

pub returns : goal.returns
returns c = λ u G q few st.
    let ts = c.args.terms.now in
    let hypotheses = c.args.goal.now.hypotheses in
    let standing = subst (IsStanding u G q) c.in-Some.is (c.in_ok-standing.ensures u G q few st) in
    let count : length (formulas_in ts hypotheses) ≡ c.count_of.result = length-map hypotheses _ ∙ sym c.count_of.ensures in
    goal_shows_state (spelled c.args.names.now) (formulas_in ts hypotheses) (formula_in ts c.args.goal.now.goal) c.args.goal.now.vars c.args.step u c.count_of.result G (proof_of c.args.proof.now) q
    c.deref.result.now (string_bytes c.in_ok-text.text) (string_bytes c.push_state.new.text) c.in_ok-push_state.ensures st (ap formulas_of c.deref.ensures.value ∙ standing.1) count
