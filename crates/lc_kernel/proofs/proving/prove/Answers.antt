use Rattle.std.proofs.Common.{◌≡◌, ◌∷◌, [], Err, sym, subst, rules}
use Rattle.lc_table.specs.Tables.{formula_in, formulas_in}
use Rattle.lc_term.specs.Syntax.{Not}
use Rattle.lc_kernel.specs.Answers.{Proves}
use Rattle.lc_kernel.specs.Derivation.{Derives}
use Rattle.lc_kernel.specs.View.{proof_of}
use Rattle.lc_kernel.proofs.Checked.{proves_fault}
use Rattle.lc_kernel.proofs.Numbered.{given_and_one}
use Rattle.lc_kernel.proofs.Sound.{derived_is_valid}
use Rattle.lc_kernel.proofs.proving.prove.Goals as goal

pub check-requires-clause-numbers : goal.check-requires-clause-numbers
check-requires-clause-numbers c =
    let g = c.args.goal.now in
    let ts = c.args.terms.now in
    let one : c.push.new.self.items ≡ c.in_ok-negated.negated ∷ [] = search rules in
    (given_and_one ts c.not.new.self g.hypotheses c.as_slice-given.result.now c.push.new.self.items c.in_ok-negated.negated (Not (formula_in ts g.goal)) c.as_slice-given.ensures one
    c.requires.numbers.0 c.in_ok-negated.ensures.kept c.in_ok-negated.ensures.id).0

pub returns-in_err-check-clause-exactly : goal.returns-in_err-check-clause-exactly
returns-in_err-check-clause-exactly c =
    let g = c.args.goal.now in
    let ts = c.args.terms.now in
    let H = formulas_in ts g.hypotheses in
    let p = proof_of c.args.proof.now in
    let fault = c.in_err-check.field-0.0 in
    let one : c.push.new.self.items ≡ c.in_ok-negated.negated ∷ [] = search rules in
    let behind = given_and_one ts c.not.new.self g.hypotheses c.as_slice-given.result.now c.push.new.self.items c.in_ok-negated.negated (Not (formula_in ts g.goal)) c.as_slice-given.ensures one
    c.requires.numbers.0 c.in_ok-negated.ensures.kept c.in_ok-negated.ensures.id in
    let e : c.from_residual-in_err-check.result ≡ Err fault = search rules in
    subst (Proves g.vars H (formula_in ts g.goal) p) (sym e) (proves_fault g.vars _ H (formula_in ts g.goal) p fault behind.1 c.in_err-check.ensures.checks)

pub returns-clause-exactly : goal.returns-clause-exactly
returns-clause-exactly c =
    let g = c.args.goal.now in
    let ts = c.args.terms.now in
    let p = proof_of c.args.proof.now in
    let one : c.push.new.self.items ≡ c.in_ok-negated.negated ∷ [] = search rules in
    let behind = given_and_one ts c.not.new.self g.hypotheses c.as_slice-given.result.now c.push.new.self.items c.in_ok-negated.negated (Not (formula_in ts g.goal)) c.as_slice-given.ensures one
    c.requires.numbers.0 c.in_ok-negated.ensures.kept c.in_ok-negated.ensures.id in
    subst (λ G. Derives g.vars G p) behind.1 c.in_ok-check.ensures.checks.1

pub returns-clause-valid : goal.returns-clause-valid
returns-clause-valid c =
    let g = c.args.goal.now in
    let ts = c.args.terms.now in
    let p = proof_of c.args.proof.now in
    let one : c.push.new.self.items ≡ c.in_ok-negated.negated ∷ [] = search rules in
    let behind = given_and_one ts c.not.new.self g.hypotheses c.as_slice-given.result.now c.push.new.self.items c.in_ok-negated.negated (Not (formula_in ts g.goal)) c.as_slice-given.ensures one
    c.requires.numbers.0 c.in_ok-negated.ensures.kept c.in_ok-negated.ensures.id in
    derived_is_valid g.vars (formulas_in ts g.hypotheses) (formula_in ts g.goal) p (subst (λ G. Derives g.vars G p) behind.1 c.in_ok-check.ensures.checks.1) c.requires.hypotheses c.requires.goal
