use Rattle.std.proofs.Common.{◌≡◌, IfOk, List, ℕ, suc, None, ap, ap₂, sym, subst, ◌∙◌, rules, arith, option_map}
use Rattle.lc_kernel.proofs.Checked.{proof_of-proof}
use Rattle.lc_kernel.specs.Proofs.{proofs}
use Rattle.lc_kernel.specs.View.{proof_of, proofs_of, step_of}
use Rattle.lc_kernel.specs.declared.proof.Proof.{out-Proof}
use Rattle.lc_term.specs.Syntax.{Formula}
use Rattle.lc_term.specs.View.{formulas_of}
use Rattle.lc_proof_state.specs.Opened.{opened_by, opened_in}
use Rattle.lc_proof_state.specs.Walk.{branch_in, spot_at, spot_of, within_of}
use Rattle.lc_proof_state.proofs.Steps.{added}
use Rattle.lc_proof_state.proofs.Ways.{branch, fewer_within, found_within, nothing_opened, nothing_within}
use Rattle.lc_proof_state.proofs.standing.+standing.Goals as goal

pub returns-in_default-branch_with : goal.returns-in_default-branch_with
returns-in_default-branch_with t c =
    let p = c.args.proof.now in
    let below : c.args.step ≡ suc c.in-Some.below = search rules in
    nothing_within c.args.variables c.args.step c.in-Some.below (formulas_of c.args.hypotheses.items) (proof_of p) (step_of (out-Proof p).step) (proofs (proofs_of (out-Proof p).branches.items))
    (proof_of-proof p) below
    (sym (ap (option_map within_of) (sym c.in_default-branch_with.is) ∙ c.branch_with.ensures ∙ ap (λ bs. branch_in (proofs (proofs_of bs)) 0 c.in-Some.below) c.deref.ensures.value))

pub returns-in_default-2 : goal.returns-in_default-2
returns-in_default-2 t c =
    let p = c.args.proof.now in
    let v = c.args.variables in
    let s = step_of (out-Proof p).step in
    let w = c.in-Some-branch_with.within in
    let below : c.args.step ≡ suc c.in-Some.below = search rules in
    let at : branch_in (proofs (proofs_of (out-Proof p).branches.items)) 0 c.in-Some.below ≡ branch w.place w.step (proof_of w.proof.now) =
    sym (ap (option_map within_of) (sym c.in-Some-branch_with.is) ∙ c.branch_with.ensures ∙ ap (λ bs. branch_in (proofs (proofs_of bs)) 0 c.in-Some.below) c.deref.ensures.value) in
    let opened : opened_by v (formulas_of c.args.hypotheses.items) s w.place ≡ None =
    sym (ap (option_map opened_in) (sym c.in_default-2.is) ∙ c.in_ok-opened.ensures ∙ ap (λ hs. opened_by v (formulas_of hs) s w.place) c.deref-2.ensures.value) in
    nothing_opened v c.args.step c.in-Some.below w.place w.step (formulas_of c.args.hypotheses.items) (proof_of p) (proof_of w.proof.now) s (proofs (proofs_of (out-Proof p).branches.items))
    (proof_of-proof p) below at opened

pub standing_in-requires : goal.standing_in-requires
standing_in-requires t c =
    let p = c.args.proof.now in
    let v = c.args.variables in
    let s = step_of (out-Proof p).step in
    let w = c.in-Some-branch_with.within in
    let o = c.in-Some-2.opened in
    let at : branch_in (proofs (proofs_of (out-Proof p).branches.items)) 0 c.in-Some.below ≡ branch w.place w.step (proof_of w.proof.now) =
    sym (ap (option_map within_of) (sym c.in-Some-branch_with.is) ∙ c.branch_with.ensures ∙ ap (λ bs. branch_in (proofs (proofs_of bs)) 0 c.in-Some.below) c.deref.ensures.value) in
    let opened : opened_by v (formulas_of c.args.hypotheses.items) s w.place ≡ added o.variables (formulas_of o.formulas.items) =
    sym (ap (option_map opened_in) (sym c.in-Some-2.is) ∙ c.in_ok-opened.ensures ∙ ap (λ hs. opened_by v (formulas_of hs) s w.place) c.deref-2.ensures.value) in
    let fewer = fewer_within v c.in-Some.below w.place w.step o.variables (formulas_of c.args.hypotheses.items) (formulas_of o.formulas.items) (proof_of p) (proof_of w.proof.now) s
    (proofs (proofs_of (out-Proof p).branches.items)) (proof_of-proof p) at opened in
    (omega (arith, c.decreases, fewer.0), omega (arith, c.in_ok-variables.ensures.variables, fewer.1, c.requires))

pub returns : goal.returns
returns t c =
    let p = c.args.proof.now in
    let v = c.args.variables in
    let s = step_of (out-Proof p).step in
    let w = c.in-Some-branch_with.within in
    let o = c.in-Some-2.opened in
    let below : c.args.step ≡ suc c.in-Some.below = search rules in
    let at : branch_in (proofs (proofs_of (out-Proof p).branches.items)) 0 c.in-Some.below ≡ branch w.place w.step (proof_of w.proof.now) =
    sym (ap (option_map within_of) (sym c.in-Some-branch_with.is) ∙ c.branch_with.ensures ∙ ap (λ bs. branch_in (proofs (proofs_of bs)) 0 c.in-Some.below) c.deref.ensures.value) in
    let opened : opened_by v (formulas_of c.args.hypotheses.items) s w.place ≡ added o.variables (formulas_of o.formulas.items) =
    sym (ap (option_map opened_in) (sym c.in-Some-2.is) ∙ c.in_ok-opened.ensures ∙ ap (λ hs. opened_by v (formulas_of hs) s w.place) c.deref-2.ensures.value) in
    let same = ap₂ (λ (a : ℕ) (b : List Formula). spot_at a b (proof_of w.proof.now) w.step) c.in_ok-variables.ensures.variables c.in_ok-variables.ensures.hypotheses
    ∙ found_within v c.args.step c.in-Some.below w.place w.step o.variables (formulas_of c.args.hypotheses.items) (formulas_of o.formulas.items) (proof_of p) (proof_of w.proof.now) s
    (proofs (proofs_of (out-Proof p).branches.items)) (proof_of-proof p) below at opened in
    subst (λ x. IfOk c.standing_in.result (λ found. option_map spot_of found ≡ x)) same c.standing_in.ensures
