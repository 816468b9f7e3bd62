use Rattle.std.proofs.Common.{◌≡◌, ℕ, List, ap, ◌∙◌, option_map}
use Rattle.std.proofs.lemmas.Result.{IfOk-weaker}
use Rattle.lc_kernel.specs.Proofs as P
use Rattle.lc_kernel.specs.View.{proof_of}
use Rattle.lc_term.specs.Syntax as S
use Rattle.lc_term.specs.View.{formula_of, formulas_of}
use Rattle.lc_proof_state.specs.Standing.{IsStanding, StandsGoal}
use Rattle.lc_proof_state.specs.Walk.{spot_at, spot_of}
use Rattle.lc_proof_state.proofs.Ways.{found_is, spot_is}
use Rattle.lc_proof_state.proofs.standing.stands_at.Goals as goal

pub returns : goal.returns
returns c =
    let v = c.args.variables in
    let p = proof_of c.args.proof.now in
    let n = c.args.step in
    IfOk-weaker c.standing_in.result (λ found. option_map spot_of found ≡ spot_at v (formulas_of c.in_ok-assumed.assumed.items) p n)
    (λ found. (u : ℕ) → (G : List S.Formula) → (q : P.Proof) → StandsGoal v (formulas_of c.args.hypotheses.now) (formula_of c.args.goal.now) p n u G q → IsStanding u G q found)
    (λ found is. λ u G q st. found_is found u G q (is ∙ ap (λ (H : List S.Formula). spot_at v H p n) c.in_ok-assumed.ensures ∙ spot_is st)) c.standing_in.ensures
