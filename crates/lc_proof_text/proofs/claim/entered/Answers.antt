use Rattle.std.proofs.Common.{◌≡◌, ℕ, List, sym, ap, subst, ◌∙◌}
use Rattle.lc_kernel.specs.Proofs as S
use Rattle.lc_kernel.specs.View.{proof_of}
use Rattle.lc_proof_text.specs.Files.{Claim}
use Rattle.lc_table.proofs.Later.{are_formulas_still, formula_is, formulas_still, is_formula_later, keeps_itself}
use Rattle.lc_table.specs.NodeTables.{Table}
use Rattle.lc_term.specs.Syntax.{Formula, formulas}
use Rattle.lc_table.specs.Tables.{formula_in, formulas_in, AreFormulas, HasFormula, Keeps}
use Rattle.lc_term.specs.View.{formulas_of}
use Rattle.lc_table.specs.declared.node.FormulaId.{FormulaId}
use Rattle.lc_proof_text.proofs.claim.entered.Goals as goal

-- a claim, of the formulas that numbers have in a table
abbrev claim_with : ℕ → List Formula → Formula → S.Proof → Claim
claim_with n hypotheses goal proof = record { variables = n; hypotheses = formulas hypotheses; goal = goal; proof = proof }

same_claim : (first last : Table) (ks : List FormulaId) (k : FormulaId) (n : ℕ) (hs : List Formula) (g : Formula) (p : S.Proof) → AreFormulas first ks → formulas_in first ks ≡ hs → Keeps first last → HasFormula last k g
    → claim_with n (formulas_in last ks) (formula_in last k) p ≡ claim_with n hs g p
same_claim first last ks k n hs g p are trees kept at = λ i. claim_with n ((formulas_still first last ks are kept ∙ trees) i) (formula_is last k g at i) p

pub returns-clause-numbers : goal.returns-clause-numbers
returns-clause-numbers c =
    let now = c.enter_formula.new.self in (
      subst (AreFormulas now) (sym c.in_ok-hypotheses.ensures) (are_formulas_still c.enter_formulas.new.self now c.in_ok-formulas.formulas.items c.in_ok-formulas.ensures.are c.in_ok-goal.ensures.kept),
      is_formula_later now now c.in_ok-goal.goal _ c.in_ok-goal.ensures.id (keeps_itself now),
    )

pub returns-clause-same : goal.returns-clause-same
returns-clause-same c =
    let now = c.enter_formula.new.self in
    ap (λ ks. claim_with c.args.claim.variables (formulas_in now ks) (formula_in now c.in_ok-goal.goal) (proof_of c.args.claim.proof)) c.in_ok-hypotheses.ensures
    ∙ same_claim c.enter_formulas.new.self now c.in_ok-formulas.formulas.items c.in_ok-goal.goal _ _ _ _
    c.in_ok-formulas.ensures.are (c.in_ok-formulas.ensures.trees ∙ ap formulas_of c.deref.ensures.value) c.in_ok-goal.ensures.kept c.in_ok-goal.ensures.id
